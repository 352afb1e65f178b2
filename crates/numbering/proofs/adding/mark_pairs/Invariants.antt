-- `numbering::adding::mark_pairs` meets its contract. The invariant: the names marked and those of the pairs from i on are all. The measure is what is left of the request.
use Prim.Native.Nat.{◌-◌, ◌≤◌}
use mathlib.Core.Path.{◌≡◌}
use mathlib.Core.Bool.{true}
use lib.ListN.{length}
use Rattle.format.specs.Bytes.{is_some}
use Rattle.format.specs.Rules.{auto}
use Rattle.records.specs.Walk.{record_in}
use Rattle.requests.specs.Pairs.{pairs_from, pairs_at}
use Rattle.numbering.proofs.Marking.{MarksLeft}
use Rattle.numbering.proofs.adding.mark_pairs.Given as goal

abbrev pub invariant-loop-name : goal.invariant-loop-name
invariant-loop-name l = (l.i ≤ length l.req) × (is_some (pairs_from l.req l.i) ≡ true) × MarksLeft (auto (record_in l.d)) (pairs_at l.req l.from) (pairs_at l.req l.i) l.seen

abbrev pub decreases-loop-name : goal.decreases-loop-name
decreases-loop-name l = length l.req - l.i
