-- `merging::inserts::put_pairs` meets its contract. The invariant: the fields that are left are to be put at the place reached. The measure is what is left.
use mathlib.Core.Path.{◌≡◌}
use mathlib.Core.Bool.{true}
use lib.ListN.{length}
use Rattle.format.specs.Bytes.{all}
use Rattle.format.specs.Calls.{built}
use Rattle.records.specs.Places.{is_readable}
use Rattle.records.specs.Walk.{record_in}
use Rattle.merging.specs.Texts.{fits_value}
use Rattle.merging.proofs.Requesting.{pairs_in}
use Rattle.merging.proofs.inserts.put_pairs.Given as goal

abbrev pub invariant-loop-f : goal.invariant-loop-f
invariant-loop-f l = (is_readable l.rest ≡ true) × (all fits_value (record_in l.rest) ≡ true) × (length l.scratch ≡ length l.initial.scratch) × (length l.out ≡ length l.initial.out) × (built (pairs_in l.own) (record { next = 0; out = l.initial.out }) ≡ built (pairs_in l.rest) (record { next = l.at; out = l.out }))

abbrev pub decreases-loop-f : goal.decreases-loop-f
decreases-loop-f l = length l.rest
