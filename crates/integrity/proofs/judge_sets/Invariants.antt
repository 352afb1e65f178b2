-- `integrity::judge_sets` meets its contract. The invariant: the least number of all sets is that of worst and of the sets of descriptors from row k on, and questions 4, 6 and 7
-- are granted of the records there.
use mathlib.Core.Path.{◌≡◌}
use lib.ListN.{length}
use Rattle.format.specs.Refusals.{no_of}
use Rattle.integrity.proofs.Granting.{SetsAt}
use Rattle.integrity.proofs.judge_sets.Given as goal

abbrev pub invariant-loop-k : goal.invariant-loop-k
invariant-loop-k l = SetsAt l.s l.starts l.ends l.afters l.count l.k (no_of l.worst) × (length l.scratch ≡ length l.initial.scratch) × (length l.entries ≡ 16384)
