-- `integrity::types_defined` meets its contract. The invariant: the types of all descriptors are well formed where those from row k on are.
use mathlib.Core.Path.{◌≡◌}
use lib.ListN.{length}
use Rattle.integrity.proofs.Granting.{TypesAt}
use Rattle.integrity.proofs.types_defined.Given as goal

abbrev pub invariant-loop-k : goal.invariant-loop-k
invariant-loop-k l = TypesAt l.s l.starts l.ends l.count l.k × (length l.scratch ≡ length l.initial.scratch)
