-- `selection::programs::read` meets its contract. The invariant: what is read to here agrees with where the reader of the definitions is. The measure is what is left of the bytes.
use Prim.Native.Nat.{◌-◌}
use lib.ListN.{length}
use Rattle.selection.proofs.Turning.{ReadTo}
use Rattle.selection.proofs.programs.read.Given as goal

abbrev pub invariant-loop-i : goal.invariant-loop-i
invariant-loop-i l = ReadTo l.s l.i l.r l.p

abbrev pub decreases-loop-i : goal.decreases-loop-i
decreases-loop-i l = length l.s - l.i
