-- `numbering::bounds::exceed_value` meets its contract.
use native.Mathlib.Omega.{arith}
use mathlib.Core.Path.{sym, ap, ◌∙◌, subst}
use mathlib.Core.Option.{Option}
use Prim.Native.Nat.{max}
use Rattle.format.specs.Numbers.{Int}
use Rattle.format.specs.Words.{trim}
use Rattle.numbers.specs.Meaning.{int_answer}
use Rattle.numbering.specs.Bounds.{above_in}
use Rattle.numbering.proofs.Bounding.{IsSmall, small_int}
use Rattle.numbering.proofs.bounds.exceed_value.Goals as goal

pub returns-in-None : goal.returns-in-None
returns-in-None c =
    let z = ap above_in (sym (ap int_answer c.in-None.is) ∙ c.int_in.ensures) in
    omega (arith, z)

pub exceed-requires : goal.exceed-requires
exceed-requires c =
    let e = sym (ap int_answer c.in-Some.is) ∙ c.int_in.ensures in
    subst IsSmall (sym e) (small_int (trim c.args.v.now))

pub returns-in-Some : goal.returns-in-Some
returns-in-Some c =
    let e = sym (ap int_answer c.in-Some.is) ∙ c.int_in.ensures in
    c.exceed.ensures ∙ ap (λ (x : Option Int). max c.args.floor (above_in x)) e
