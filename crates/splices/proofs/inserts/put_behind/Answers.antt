-- `splices::inserts::put_behind` meets its contract: the record's text is laid into the room that `open_space` made, behind a newline.
use Prim.Native.Nat.{◌+◌, ◌-◌}
use native.Mathlib.Omega.{arith}
use mathlib.Core.Path.{refl, sym, ◌∙◌}
use mathlib.Core.List.{◌∷◌}
use lib.ListN.{length, length-set}
use Rattle.format.specs.Bytes.{Bytes}
use Rattle.splices.specs.Space.{record_text}
use Rattle.splices.proofs.Opening.{over-part, spliced-length, placed-spliced}
use Rattle.splices.proofs.Inserted.{over-newline}
use Rattle.splices.proofs.inserts.put_behind.Goals as goal

pub shape_of-buf : goal.shape_of-buf
shape_of-buf c = simp length-set (omega arith)

pub returns : goal.returns
returns c =
    let a = c.args in
    let b : Bytes = a.buf.now in
    let w : Bytes = record_text a.first.now a.req.now a.r.from in
    let b' : Bytes = c.open_space.new.buf in (
      sym (spliced-length b a.used a.r.at 0 (10 ∷ w) (omega arith) (omega arith) ∙ omega (arith, c.requires.len_value)),
      rw (c.put_fields.ensures, over-part b' w (a.r.at + 1) (length b' - (a.r.at + 1)) (omega arith) refl, over-newline b' w a.r.at (omega arith)) (placed-spliced b a.used a.r.at 0 (a.r.len + 1) b' (10 ∷ w) (omega arith) (omega arith) (omega (arith, c.requires.len_value)) c.open_space.ensures),
    )
