-- `values::starts::word_len` meets its contract. The invariant: n and the length of the word from at on make up the whole length.
-- The measure is what is left of the text.
use Prim.Native.Nat.{◌+◌, ◌-◌}
use mathlib.Core.Path.{◌≡◌}
use lib.ListN.{length, drop}
use Rattle.format.specs.Lists.{front}
use Rattle.format.specs.Words.{not_gap}
use Rattle.values.specs.Value.{value_from}
use Rattle.values.proofs.starts.word_len.Given as goal

abbrev pub invariant-loop-byte : goal.invariant-loop-byte
invariant-loop-byte l = l.n + length (front not_gap (value_from (drop l.at l.s))) ≡ length (front not_gap (value_from (drop l.i l.s)))

abbrev pub decreases-loop-byte : goal.decreases-loop-byte
decreases-loop-byte l = length l.s - l.at
