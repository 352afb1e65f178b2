-- `splices::inserts::put_front` meets its contract: the record's text is laid over an empty text's place, or with a newline into the room that `open_space` made.
use Prim.Native.Nat.{◌+◌}
use native.Mathlib.Omega.{arith}
use mathlib.Core.Path.{sym, ap, ◌∙◌}
use mathlib.Core.List.{[], ◌∷◌, ◌++◌}
use lib.ListN.{length-set, length-append}
use Rattle.format.specs.Bytes.{Bytes}
use Rattle.format.specs.Calls.{placed}
use Rattle.splices.specs.Space.{record_text}
use Rattle.splices.proofs.Opening.{placed-spliced}
use Rattle.splices.proofs.Inserted.{over-ended, front-alone, front-text, front_length, alone-length}
use Rattle.splices.proofs.inserts.put_front.Goals as goal

pub put_fields-requires : goal.put_fields-requires
put_fields-requires c =
    let a = c.args in
    let w : Bytes = record_text a.first.now a.req.now a.r.from in
    record { from_value = c.requires.from_value; from_in_bounds = omega (arith, c.requires.len_value, alone-length a.buf.now a.used a.r.len w (omega arith) c.requires.len_value c.if-used-eq0.true) }

pub returns-then-used-eq0 : goal.returns-then-used-eq0
returns-then-used-eq0 c =
    let a = c.args in
    let w : Bytes = record_text a.first.now a.req.now a.r.from in (
      sym (alone-length a.buf.now a.used a.r.len w (omega arith) c.requires.len_value c.if-used-eq0.true),
      c.put_fields.ensures ∙ front-alone a.buf.now a.used a.r.len w (omega arith) c.requires.len_value c.if-used-eq0.true,
    )

pub overflow_add-new : goal.overflow_add-new
overflow_add-new c =
    let a = c.args in
    let w : Bytes = record_text a.first.now a.req.now a.r.from in
    omega (arith, front_length a.buf.now a.used a.r.len w (omega arith) c.requires.len_value (omega (arith, c.if-used-eq0.false)))

pub open_space-requires : goal.open_space-requires
open_space-requires c =
    let a = c.args in
    let w : Bytes = record_text a.first.now a.req.now a.r.from in
    omega (arith, front_length a.buf.now a.used a.r.len w (omega arith) c.requires.len_value (omega (arith, c.if-used-eq0.false)))

pub put_fields-requires-2 : goal.put_fields-requires-2
put_fields-requires-2 c =
    let a = c.args in
    let w : Bytes = record_text a.first.now a.req.now a.r.from in
    record { from_value = c.requires.from_value; from_in_bounds = omega (arith, c.open_space.ensures.same, c.requires.len_value, front_length a.buf.now a.used a.r.len w (omega arith) c.requires.len_value (omega (arith, c.if-used-eq0.false))) }

pub bounds-buf-len : goal.bounds-buf-len
bounds-buf-len c =
    let a = c.args in
    let w : Bytes = record_text a.first.now a.req.now a.r.from in
    omega (arith, c.open_space.ensures.same, c.requires.len_value, front_length a.buf.now a.used a.r.len w (omega arith) c.requires.len_value (omega (arith, c.if-used-eq0.false)))

pub overflow_add-result : goal.overflow_add-result
overflow_add-result c =
    let a = c.args in
    let w : Bytes = record_text a.first.now a.req.now a.r.from in
    omega (arith, c.requires.len_value, front_length a.buf.now a.used a.r.len w (omega arith) c.requires.len_value (omega (arith, c.if-used-eq0.false)))

pub shape_of-buf : goal.shape_of-buf
shape_of-buf c =
    simp length-set (omega (arith, c.open_space.ensures.same))

pub returns : goal.returns
returns c =
    let a = c.args in
    let b : Bytes = a.buf.now in
    let w : Bytes = record_text a.first.now a.req.now a.r.from in
    let b' : Bytes = c.open_space.new.buf in
    let l = front_length b a.used a.r.len w (omega arith) c.requires.len_value (omega (arith, c.if-used-eq0.false)) in (
      sym l,
      rw (c.put_fields-2.ensures, over-ended b' w a.r.len c.requires.len_value (omega (arith, c.open_space.ensures.same)))
          (placed-spliced b a.used 0 0 (a.r.len + 1) b' (w ++ (10 ∷ [])) (omega arith) (omega arith) (omega (arith, c.requires.len_value, length-append w (10 ∷ []))) c.open_space.ensures
          ∙ ap (λ (t : Bytes). placed t a.used b) (sym (front-text b a.used a.r.len w (omega arith) c.requires.len_value (omega (arith, c.if-used-eq0.false))))),
    )
