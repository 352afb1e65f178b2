-- `merging::twins::is_among` meets its contract. The invariant: what is left of the part is to be looked at. The measure is its length.
use mathlib.Core.Path.{◌≡◌}
use mathlib.Core.Bool.{true}
use mathlib.Core.List.{map}
use lib.ListN.{length}
use Rattle.format.specs.Bytes.{any}
use Rattle.format.specs.Pieces.{read_of}
use Rattle.format.proofs.Records.{records}
use Rattle.records.specs.Places.{is_readable}
use Rattle.records.specs.Walk.{record_in}
use Rattle.merging.specs.Merging.{pair_of, is_twin}
use Rattle.merging.proofs.twins.is_among.Given as goal

abbrev pub invariant-loop-p : goal.invariant-loop-p
invariant-loop-p l = (is_readable l.rest ≡ true) × (any (is_twin (map pair_of (record_in l.own))) (records (read_of l.part)) ≡ any (is_twin (map pair_of (record_in l.own))) (records (read_of l.rest)))

abbrev pub decreases-loop-p : goal.decreases-loop-p
decreases-loop-p l = length l.rest
