-- `records::next_members` meets its contract. The invariant: the part from end on is readable, count records stand before it, and the count and the search for the end go on there.
-- The measure is what is left of the length.
use Prim.Native.Nat.{◌+◌, ◌-◌, ◌≤◌}
use mathlib.Core.Path.{◌≡◌}
use mathlib.Core.Bool.{true}
use lib.ListN.{length, drop}
use Rattle.records.specs.Places.{is_readable, places_of, count_before}
use Rattle.records.specs.Sets.{set_end}
use Rattle.records.proofs.Searches.{places_at}
use Rattle.records.proofs.next_members.Given as goal

abbrev pub invariant-loop-p : goal.invariant-loop-p
invariant-loop-p l = (l.end ≤ length l.s) × (is_readable (drop l.end l.s) ≡ true) × (l.count ≤ l.end) × (count_before (places_of l.s) ≡ l.count + count_before (places_at l.s l.end)) × (set_end 0 (places_of l.s) ≡ set_end l.end (places_at l.s l.end))

abbrev pub decreases-loop-p : goal.decreases-loop-p
decreases-loop-p l = length l.s - l.end
