-- `values::stretches::pass` meets its contract. The invariant: what is behind the bytes of the stretch is the same from at on. The measure is what is left of the text.
use mathlib.Core.Bool.{Bool}
use Prim.Native.Nat.{ℕ, ◌-◌, ◌≤◌}
use mathlib.Core.Path.{◌≡◌}
use lib.ListN.{length, drop}
use Rattle.format.specs.Lists.{behind}
use Rattle.values.specs.Value.{value_from}
use Rattle.values.specs.Stretches.{Tests}
use Rattle.values.proofs.stretches.pass.Given as goal

abbrev pub invariant-loop-byte : goal.invariant-loop-byte
invariant-loop-byte g l = (l.i ≤ l.at) × (l.at ≤ length l.s) × ((p : ℕ → Bool) → Tests (goal.F-post g l.test) p → behind p (value_from (drop l.at l.s)) ≡ behind p (value_from (drop l.i l.s)))

abbrev pub decreases-loop-byte : goal.decreases-loop-byte
decreases-loop-byte g l = length l.s - l.at
