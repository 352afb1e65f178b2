-- `records::next_set` meets its contract. The invariant: the part from i on is readable, and the search for a descriptor goes on there.
-- The measure is what is left of the length.
use Prim.Native.Nat.{◌-◌, ◌≤◌}
use mathlib.Core.Path.{◌≡◌}
use mathlib.Core.Bool.{true}
use lib.ListN.{length, drop}
use Rattle.records.specs.Places.{is_readable, places_of}
use Rattle.records.specs.Sets.{first_set}
use Rattle.records.proofs.Searches.{places_at}
use Rattle.records.proofs.next_set.Given as goal

abbrev pub invariant-loop-p : goal.invariant-loop-p
invariant-loop-p l = (l.i ≤ length l.s) × (is_readable (drop l.i l.s) ≡ true) × (first_set (places_of l.s) ≡ first_set (places_at l.s l.i))

abbrev pub decreases-loop-p : goal.decreases-loop-p
decreases-loop-p l = length l.s - l.i
