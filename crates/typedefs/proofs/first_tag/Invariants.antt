-- `typedefs::first_tag` meets its contract. The invariant: no tag before k is in the set. The measure is what is left below the count.
use Prim.Native.Nat.{◌-◌, ◌≤◌}
use mathlib.Core.Path.{◌≡◌}
use Rattle.typedefs.specs.Names.{tag_from}
use Rattle.typedefs.proofs.first_tag.Given as goal

abbrev pub invariant-loop-k : goal.invariant-loop-k
invariant-loop-k l = (l.from ≤ l.k) × (l.k ≤ l.count) × (tag_from l.set l.from (l.count - l.from) ≡ tag_from l.set l.k (l.count - l.k))

abbrev pub decreases-loop-k : goal.decreases-loop-k
decreases-loop-k l = l.count - l.k
