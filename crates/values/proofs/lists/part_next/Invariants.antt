-- `values::lists::part_next` meets its contract. The invariant: the parts behind the first one of the word from at on are those of the word from i on.
-- The measure is what is left of the length.
use Prim.Native.Nat.{◌-◌, ◌≤◌}
use mathlib.Core.Path.{◌≡◌}
use lib.ListN.{length}
use Rattle.values.specs.Words.{others_from}
use Rattle.values.proofs.lists.part_next.Given as goal

abbrev pub invariant-loop-byte : goal.invariant-loop-byte
invariant-loop-byte l = (l.i ≤ l.at) × (others_from l.s l.i ≡ others_from l.s l.at)

abbrev pub decreases-loop-byte : goal.decreases-loop-byte
decreases-loop-byte l = length l.s - l.at
