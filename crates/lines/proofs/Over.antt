-- A text written over the front of a buffer.
use native.Mathlib.Nat.{zero-add}
use native.Mathlib.Omega.{arith}
use Prim.Native.Nat.{◌≤◌}
use mathlib.Core.Path.{◌≡◌, ◌∙◌}
use lib.ListN.{length}
use lib.Seq.{sets, sets-eq}
use Rattle.format.specs.Bytes.{Bytes}
use Rattle.format.specs.Calls.{over}

-- byte by byte it is the same
pub over-sets : (text out : Bytes) → length text ≤ length out → sets out 0 text ≡ over text out
over-sets text out h = sets-eq text out 0 (omega arith) ∙ rw zero-add
