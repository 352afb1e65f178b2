-- `values::lists::count_words` meets its contract. The invariant: n words begin before i, at most as many as bytes, and the others begin in the value from i on.
-- The measure is what is left of the text.
use Prim.Native.Nat.{◌+◌, ◌-◌, ◌≤◌}
use mathlib.Core.Path.{◌≡◌}
use lib.ListN.{length, drop}
use Rattle.format.specs.Words.{words}
use Rattle.values.specs.Value.{value_from}
use Rattle.values.proofs.Counts.{words_from}
use Rattle.values.proofs.lists.count_words.Given as goal

abbrev pub invariant-loop-byte : goal.invariant-loop-byte
invariant-loop-byte l = (l.i ≤ length l.s) × (l.n ≤ l.i) × (length (words (value_from l.s)) ≡ l.n + words_from l.gap (value_from (drop l.i l.s)))

abbrev pub decreases-loop-byte : goal.decreases-loop-byte
decreases-loop-byte l = length l.s - l.i
