-- `values::starts::word_here` meets its contract. The invariant: the word from n on is the same as the first word of the value from at on if the whole ones are, and only then.
-- The measure is what is left of the length.
use Prim.Native.Nat.{◌-◌, ◌≤◌}
use mathlib.Core.Path.{◌≡◌}
use lib.ListN.{length, drop}
use Rattle.format.specs.Lists.{front}
use Rattle.format.specs.Bytes.{same}
use Rattle.format.specs.Words.{not_gap}
use Rattle.values.specs.Value.{value_from}
use Rattle.values.proofs.starts.word_here.Given as goal

abbrev pub invariant-loop-byte : goal.invariant-loop-byte
invariant-loop-byte l = (l.n ≤ length l.word) × (same (drop l.n l.word) (front not_gap (value_from (drop l.at l.s))) ≡ same l.word (front not_gap (value_from (drop l.i l.s))))

abbrev pub decreases-loop-byte : goal.decreases-loop-byte
decreases-loop-byte l = length l.s - l.at
