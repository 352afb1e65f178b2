-- `singulars::entry` meets its contract: the number has the place, the name's place and the fingerprint side by side.
use Prim.Native.Nat.{ℕ, ◌/◌}
use native.Mathlib.Omega.{arith}
use mathlib.Core.Path.{◌≡◌, ap, ◌∙◌}
use lib.ListN.{drop}
use Rattle.values.specs.Value.{value_from}
use Rattle.sorting.specs.Texts.{mixed}
use Rattle.sorting.proofs.Texts.{text-whole}
use Rattle.singulars.specs.Marks.{rank_of}
use Rattle.singulars.proofs.entry.Goals as goal

pub returns : goal.returns
unfolding rank_of
returns c =
    let p : c.narrow-p.result / 4194304 ≡ mixed 2166136261 (value_from (drop c.args.at c.args.s.now)) / 4194304 = ap (λ (z : ℕ). z / 4194304) (c.narrow-p.ensures ∙ c.mix.ensures.0 ∙ ap (mixed 2166136261) (text-whole c.args.s.now c.args.at)) in
    omega (arith, p, c.narrow.ensures, c.narrow-2.ensures)
