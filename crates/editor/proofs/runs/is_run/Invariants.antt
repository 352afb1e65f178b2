-- `editor::runs::is_run` meets its contract. The invariant: it is a run of at most `most` requests if the rest is one of at most `left`, and only then. The measure is the rest.
use Prim.Native.Nat.{◌-◌}
use mathlib.Core.Path.{◌≡◌}
use lib.ListN.{length}
use Rattle.format.specs.Requests.{requests_in}
use Rattle.editor.specs.Runs.{is_run}
use Rattle.editor.proofs.runs.is_run.Given as goal

abbrev pub invariant-loop-rest : goal.invariant-loop-rest
invariant-loop-rest l = is_run l.most (requests_in l.run) ≡ is_run l.left (requests_in l.rest)

abbrev pub decreases-loop-rest : goal.decreases-loop-rest
decreases-loop-rest l = length l.rest
