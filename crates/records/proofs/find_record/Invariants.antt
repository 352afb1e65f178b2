-- `records::find_record` meets its contract. The invariant: the part from i on is readable, and the search goes on there with the records left to be passed.
-- The measure is what is left of the length.
use Prim.Native.Nat.{◌-◌, ◌≤◌}
use mathlib.Core.Path.{◌≡◌}
use mathlib.Core.Bool.{true}
use lib.ListN.{length, drop}
use Rattle.records.specs.Places.{is_readable, places_of, record_place}
use Rattle.records.proofs.Searches.{places_at}
use Rattle.records.proofs.find_record.Given as goal

abbrev pub invariant-loop-p : goal.invariant-loop-p
invariant-loop-p l = (l.i ≤ length l.s) × (is_readable (drop l.i l.s) ≡ true) × (record_place (places_of l.s) l.k ≡ record_place (places_at l.s l.i) l.left)

abbrev pub decreases-loop-p : goal.decreases-loop-p
decreases-loop-p l = length l.s - l.i
