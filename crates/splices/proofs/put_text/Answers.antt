-- `splices::put_text` meets its contract: the field's text is laid into the room that `open_space` made.
use Prim.Native.Nat.{◌-◌}
use native.Mathlib.Omega.{arith}
use mathlib.Core.Path.{refl, sym, ◌∙◌}
use lib.ListN.{length}
use Rattle.format.specs.Bytes.{Bytes}
use Rattle.format.specs.Written.{written}
use Rattle.splices.proofs.Opening.{over-part, spliced-length, placed-spliced}
use Rattle.splices.proofs.put_text.Goals as goal

pub returns : goal.returns
returns c =
    let a = c.args in
    let b : Bytes = a.buf.now in
    let t : Bytes = written a.name.now a.value.now in
    let b' : Bytes = c.open_space.new.buf in (
      sym (spliced-length b a.used a.at a.old t (omega arith) (omega arith) ∙ omega (arith, c.written_len-new.ensures)),
      rw c.put_field.ensures.1 (over-part b' t a.at (length b' - a.at) (omega arith) refl ∙ placed-spliced b a.used a.at a.old c.written_len-new.result b' t (omega arith) (omega arith) (sym c.written_len-new.ensures) c.open_space.ensures),
    )
