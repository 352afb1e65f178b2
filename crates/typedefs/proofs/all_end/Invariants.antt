-- `typedefs::all_end` meets its contract. The invariant: all targets end if those from the row on do.
use mathlib.Core.Path.{◌≡◌}
use lib.ListN.{drop}
use Rattle.format.specs.Bytes.{all}
use Rattle.typedefs.specs.Targets.{targets_in, leads}
use Rattle.typedefs.proofs.all_end.Given as goal

abbrev pub invariant-loop-row : goal.invariant-loop-row
invariant-loop-row l = all (leads (targets_in l.fn.targets)) (targets_in l.fn.targets) ≡ all (leads (targets_in l.fn.targets)) (drop l.row-index (targets_in l.fn.targets))
