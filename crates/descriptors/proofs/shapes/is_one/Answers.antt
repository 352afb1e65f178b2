-- `descriptors::shapes::is_one` meets its contract: the one word passes the test, or there is no such word.
use native.Mathlib.Omega.{arith}
use mathlib.Core.Path.{refl, sym, ap, ◌∙◌}
use Rattle.format.specs.Rules.{one}
use Rattle.descriptors.proofs.Wording.{only}
use Rattle.descriptors.proofs.shapes.is_one.Goals as goal

pub slice_bounds-test-count : goal.slice_bounds-test-count
slice_bounds-test-count g c =
    let o = only c.args.s.now c.one_word.result c.one_word.ensures c.in-Some.is in omega (arith, o.0)

pub returns-in-Some : goal.returns-in-Some
returns-in-Some g c =
    let o = only c.args.s.now c.one_word.result c.one_word.ensures c.in-Some.is in
    λ p t. t _ c.test.result (record { shown = _; shows = refl; says = record { met = c.test.ensures } }) ∙ sym (ap (one p) o.2)

pub returns : goal.returns
returns g c =
    λ p t. sym (only c.args.s.now c.one_word.result c.one_word.ensures c.in-None.is p)
