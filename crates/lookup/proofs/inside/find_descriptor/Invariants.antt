-- `lookup::inside::find_descriptor` meets its contract. The invariant: the part from i on is readable, and the search goes on there with the descriptors left to be passed.
-- The measure is what is left of the length.
use Prim.Native.Nat.{◌-◌, ◌≤◌}
use mathlib.Core.Path.{◌≡◌}
use mathlib.Core.Bool.{true}
use lib.ListN.{length, drop}
use Rattle.records.specs.Places.{is_readable, places_of}
use Rattle.records.proofs.Searches.{places_at}
use Rattle.lookup.specs.Names.{descriptor_at}
use Rattle.lookup.proofs.inside.find_descriptor.Given as goal

abbrev pub invariant-loop-p : goal.invariant-loop-p
invariant-loop-p l = (l.i ≤ length l.s) × (is_readable (drop l.i l.s) ≡ true) × (descriptor_at (places_of l.s) l.k ≡ descriptor_at (places_at l.s l.i) l.left)

abbrev pub decreases-loop-p : goal.decreases-loop-p
decreases-loop-p l = length l.s - l.i
