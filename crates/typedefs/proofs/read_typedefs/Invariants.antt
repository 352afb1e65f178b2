-- `typedefs::read_typedefs` meets its contract. The invariant: the first k rows are the first k typedefs, and the first k links their targets. The measure is what is left of them.
use Prim.Native.Nat.{◌-◌, ◌≤◌}
use mathlib.Core.Path.{◌≡◌}
use mathlib.Core.List.{map}
use lib.ListN.{length, take}
use Rattle.format.specs.Bytes.{text}
use Rattle.records.specs.Named.{values_from}
use Rattle.typedefs.specs.Walks.{names_from}
use Rattle.typedefs.specs.Targets.{target_in}
use Rattle.typedefs.specs.Typedefs.{Typed}
use Rattle.typedefs.specs.declared.Link.{Link}
use Rattle.typedefs.proofs.read_typedefs.Given as goal

abbrev pub invariant-loop-k : goal.invariant-loop-k
invariant-loop-k l = (l.k ≤ l.names.count) × (length l.scratch ≡ length l.initial.scratch) × (length l.rows ≡ 32) × (length l.links ≡ 32) × Typed l.d l.names.places l.rows l.k
    × (map (λ (x : Link). x.to) (take l.k l.links) ≡ map (target_in (names_from l.d 0)) (take l.k (values_from l.d (text "%typedef") 0)))

abbrev pub decreases-loop-k : goal.decreases-loop-k
decreases-loop-k l = l.names.count - l.k
