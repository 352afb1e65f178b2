-- `typedefs::parts_named` meets its contract. The invariant: all parts are names if those of the rest are, and only then. The measure is the rest.
use Prim.Native.Nat.{◌≤◌}
use mathlib.Core.Path.{◌≡◌}
use lib.ListN.{length}
use Rattle.format.specs.Bytes.{all}
use Rattle.format.specs.Lines.{is_name}
use Rattle.format.specs.Words.{split}
use Rattle.typedefs.proofs.parts_named.Given as goal

abbrev pub invariant-loop-rest : goal.invariant-loop-rest
invariant-loop-rest l = (length l.rest ≤ length l.s) × (all is_name (split 44 l.s) ≡ all is_name (split 44 l.rest))

abbrev pub decreases-loop-rest : goal.decreases-loop-rest
decreases-loop-rest l = length l.rest
