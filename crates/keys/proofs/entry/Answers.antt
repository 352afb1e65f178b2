-- `keys::entry` meets its contract: the number has the place and the fingerprint side by side.
use Prim.Native.Nat.{ℕ, ◌/◌}
use native.Mathlib.Omega.{arith}
use mathlib.Core.Path.{◌≡◌, ap, ◌∙◌}
use lib.ListN.{drop}
use Rattle.values.specs.Value.{value_from}
use Rattle.sorting.specs.Texts.{mixed}
use Rattle.sorting.proofs.Texts.{text-whole}
use Rattle.keys.specs.Keys.{print_of}
use Rattle.keys.proofs.entry.Goals as goal

pub returns : goal.returns
unfolding print_of
returns c =
    let p : c.narrow-p.result / 65536 ≡ print_of (value_from (drop c.args.at c.args.s.now)) = ap (λ (z : ℕ). z / 65536) (c.narrow-p.ensures ∙ c.mix.ensures.0 ∙ ap (mixed 2166136261) (text-whole c.args.s.now c.args.at)) in
    omega arith
