-- `joints::make_dense` meets its contract. The invariant: the lines before i are dense in the first n bytes, the others stand where they stood. The measure is what is left
-- of the used length.
use Prim.Native.Nat.{◌-◌}
use Rattle.joints.proofs.Joints.{DenseAt}
use Rattle.joints.proofs.make_dense.Given as goal

abbrev pub invariant-loop-i : goal.invariant-loop-i
invariant-loop-i l = DenseAt l.initial.text l.used l.text l.i l.n

abbrev pub decreases-loop-i : goal.decreases-loop-i
decreases-loop-i l = l.used - l.i
