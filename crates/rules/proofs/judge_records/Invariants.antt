-- `rules::judge_records` meets its contract. The invariant: the records' number is the least of what was found so far and of what the `%type` fields from one on say. The measure is how many of those are left.
use Rattle.format.specs.Refusals.{no_of}
use Prim.Native.Nat.{◌-◌, ◌≤◌}
use mathlib.Core.Path.{◌≡◌}
use lib.ListN.{length}
use Rattle.format.specs.Pieces.{read_of}
use Rattle.format.proofs.Least.{least}
use Rattle.format.proofs.Records.{records}
use Rattle.rules.specs.Members.{part_no}
use Rattle.rules.proofs.judge_records.Given as goal

abbrev pub invariant-loop-b : goal.invariant-loop-b
invariant-loop-b l = (length l.scratch ≡ length l.initial.scratch) × (length l.entries ≡ length l.initial.entries) × (l.from ≤ l.b.kinds.count) × (least (no_of l.worst) (part_no l.d l.from (l.b.kinds.count - l.from) (records (read_of l.part))) ≡ part_no l.d 0 l.b.kinds.count (records (read_of l.part)))

abbrev pub decreases-loop-b : goal.decreases-loop-b
decreases-loop-b l = l.b.kinds.count - l.from
