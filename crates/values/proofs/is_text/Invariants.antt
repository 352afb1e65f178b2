-- `values::is_text` meets its contract. The invariant: the text from n on is the same as the value from at on if the whole ones are, and only then.
-- The measure is what is left of the length.
use Prim.Native.Nat.{◌-◌, ◌≤◌}
use mathlib.Core.Path.{◌≡◌}
use lib.ListN.{length, drop}
use Rattle.format.specs.Bytes.{same}
use Rattle.values.specs.Value.{value_from}
use Rattle.values.proofs.is_text.Given as goal

abbrev pub invariant-loop-byte : goal.invariant-loop-byte
invariant-loop-byte l = (l.n ≤ length l.text) × (same (drop l.n l.text) (value_from (drop l.at l.s)) ≡ same l.text (value_from l.s))

abbrev pub decreases-loop-byte : goal.decreases-loop-byte
decreases-loop-byte l = length l.s - l.at
