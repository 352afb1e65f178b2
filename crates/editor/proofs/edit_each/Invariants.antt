-- `editor::edit_each` meets its contract. The invariant: the buffer, the length and the answers are what the first i requests leave, the rest is a run of no more than there are answers left,
-- and the check's number is what it was. The measure is the rest.
use Prim.Native.Nat.{◌-◌}
use mathlib.Core.Path.{◌≡◌}
use mathlib.Core.Bool.{true}
use lib.ListN.{length}
use Rattle.format.specs.Requests.{requests_in}
use Rattle.format.specs.Calls.{check_answer}
use Rattle.format.specs.Refusals.{no_of}
use Rattle.editor.specs.Runs.{is_run}
use Rattle.editor.proofs.Running.{Reached}
use Rattle.editor.proofs.edit_each.Given as goal

abbrev pub invariant-loop-rest : goal.invariant-loop-rest
invariant-loop-rest l = (length l.copy ≡ length l.initial.copy) × (check_answer l.buf l.n ≡ no_of l.k) × (length l.buf ≡ length l.initial.buf) × (length l.answers ≡ length l.initial.answers) × (is_run (length l.initial.answers - l.i) (requests_in l.rest) ≡ true) × Reached l.initial.buf l.used (requests_in l.run) l.initial.answers (requests_in l.rest) l.i l.n l.buf l.answers

abbrev pub decreases-loop-rest : goal.decreases-loop-rest
decreases-loop-rest l = length l.rest
