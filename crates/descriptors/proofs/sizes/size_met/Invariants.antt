-- `descriptors::sizes::size_met` meets its contract. The invariant: the part from i on is readable and its values are short, the scratch keeps its length, and all sizes are met
-- if those from i on are, and only then. The measure is what is left of the length.
use Prim.Native.Nat.{ℕ, ◌-◌, ◌≤◌}
use mathlib.Core.Path.{◌≡◌}
use mathlib.Core.Bool.{Bool, true}
use lib.ListN.{length, drop}
use Rattle.format.specs.Bytes.{Bytes, text, all}
use Rattle.format.specs.Numbers.{int_bounds}
use Rattle.format.specs.Rules.{size_rule, meets_size}
use Rattle.format.specs.Words.{words}
use Rattle.records.specs.Places.{is_readable}
use Rattle.records.specs.Named.{values_from}
use Rattle.descriptors.proofs.Limits.{is_short}
use Rattle.descriptors.proofs.sizes.size_met.Given as goal

abbrev pub is_met : ℕ → Bytes → Bool
is_met n v = meets_size (size_rule int_bounds (words v)) n

abbrev pub invariant-loop-value : goal.invariant-loop-value
invariant-loop-value l = (l.i ≤ length l.d) × (is_readable (drop l.i l.d) ≡ true) × (all is_short (values_from l.d (text "%size") l.i) ≡ true) × (length l.scratch ≡ length l.initial.scratch) × (all (is_met l.count) (values_from l.d (text "%size") 0) ≡ all (is_met l.count) (values_from l.d (text "%size") l.i))

abbrev pub decreases-loop-value : goal.decreases-loop-value
decreases-loop-value l = length l.d - l.i
