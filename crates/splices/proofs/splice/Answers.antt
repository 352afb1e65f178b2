-- `splices::splice` meets its contract: the text is laid into the room that `open_space` made.
use Prim.Native.Nat.{◌-◌}
use native.Mathlib.Omega.{arith}
use mathlib.Core.Path.{refl, sym, ◌∙◌}
use lib.ListN.{length}
use Rattle.format.specs.Bytes.{Bytes}
use Rattle.splices.proofs.Opening.{over-part, spliced-length, placed-spliced}
use Rattle.splices.proofs.splice.Goals as goal

pub returns : goal.returns
returns c =
    let a = c.args in
    let b : Bytes = a.buf.now in
    let t : Bytes = a.text.now in
    let b' : Bytes = c.open_space.new.buf in (
      sym (spliced-length b a.used a.at a.old t (omega arith) (omega arith)),
      rw c.put_bytes.ensures (over-part b' t a.at (length b' - a.at) (omega arith) refl ∙ placed-spliced b a.used a.at a.old (length t) b' t (omega arith) (omega arith) refl c.open_space.ensures),
    )
