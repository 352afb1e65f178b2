-- `typedefs::names_apart` meets its contract. The invariant: all names are distinct if those from name k on are. The measure is what is left of them.
use Prim.Native.Nat.{◌-◌, ◌≤◌}
use mathlib.Core.Path.{◌≡◌}
use lib.ListN.{length, drop}
use Rattle.format.specs.Rules.{distinct}
use Rattle.typedefs.specs.Walks.{names_from}
use Rattle.typedefs.proofs.names_apart.Given as goal

abbrev pub invariant-loop-k : goal.invariant-loop-k
invariant-loop-k l = (l.k ≤ l.names.count) × (length l.scratch ≡ length l.initial.scratch) × (distinct (names_from l.d 0) ≡ distinct (drop l.k (names_from l.d 0)))

abbrev pub decreases-loop-k : goal.decreases-loop-k
decreases-loop-k l = l.names.count - l.k
