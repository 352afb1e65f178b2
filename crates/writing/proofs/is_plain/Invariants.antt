-- `writing::is_plain` meets its contract. The invariant: the bytes not passed, behind the last one that is, give the answer.
use mathlib.Core.Path.{◌≡◌}
use mathlib.Core.Bool.{false}
use lib.ListN.{drop}
use Rattle.writing.specs.Value.{is_plain_from}
use Rattle.writing.proofs.is_plain.Given as goal

abbrev pub invariant-loop-b : goal.invariant-loop-b
invariant-loop-b l = is_plain_from false l.s ≡ is_plain_from l.slash (drop l.b-index l.s)
