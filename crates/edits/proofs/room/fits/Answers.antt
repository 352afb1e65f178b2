-- `edits::room::fits` meets its contract: the length of what is made, by its kind, is at most the room and the limit; what does not grow fits.
use Prim.Native.Nat.{◌+◌, ◌-◌}
use native.Mathlib.Omega.{arith}
use mathlib.Core.Path.{sym, ap, ◌∙◌}
use mathlib.Core.List.{[]}
use lib.ListN.{length, take}
use mathlib.Core.Logic.{inl, inr}
use Rattle.format.specs.Written.{written}
use Rattle.writing.proofs.Texts.{indent-length, written-length}
use Rattle.requests.specs.Fields.{bytes_of}
use Rattle.requests.proofs.Reading.{span-length}
use Rattle.words.specs.Spans.{span}
use Rattle.records.proofs.Unfielding.{left_of}
use Rattle.splices.specs.Space.{spliced, inserted, record_text}
use Rattle.edits.specs.Splices.{is_within, made_len}
use Rattle.edits.proofs.Sizes.{not-longer, over-file, exchanged-length, inserted-length, inserted-least, unfielded-length, sound-as, fits-as}
use Rattle.edits.proofs.room.fits.Goals as goal

pub returns-then-new-gt-BYTES : goal.returns-then-new-gt-BYTES
returns-then-new-gt-BYTES c =
    let a = c.args in
    let s = a.s.now in
    let req = a.req.now in
    let added = a.added.now in
    let h = sound-as s req added c.in-Record.is c.requires.sound in
    let t = record_text (take c.in-Record.own added) req c.in-Record.new.from in
    fits-as s req added c.in-Record.is a.room (over-file a.room (length (inserted s c.in-Record.new.at t)) (omega (arith, c.if-new-gt-BYTES.true, inserted-least s c.in-Record.new.at t h.0, h.3)))

pub returns-else-new-gt-BYTES : goal.returns-else-new-gt-BYTES
returns-else-new-gt-BYTES c =
    let a = c.args in
    let s = a.s.now in
    let req = a.req.now in
    let added = a.added.now in
    let h = sound-as s req added c.in-Record.is c.requires.sound in
    let t = record_text (take c.in-Record.own added) req c.in-Record.new.from in
    fits-as s req added c.in-Record.is a.room (ap (is_within a.room) (inserted-length s c.in-Record.new.at t h.0 ∙ ap (made_len (length s)) (sym h.3) ∙ sym c.made_len.ensures) ∙ sym (c.fits.ensures ∙ ap (is_within a.room) c.new-f.ensures))

pub slice_bounds-written_len-count : goal.slice_bounds-written_len-count
slice_bounds-written_len-count c =
    let a = c.args in
    let s = a.s.now in
    let req = a.req.now in
    let added = a.added.now in
    let h = sound-as s req added c.in-Field.is c.requires.sound in
    omega (arith, h.2.0)

pub slice_bounds-written_len-start : goal.slice_bounds-written_len-start
slice_bounds-written_len-start c =
    let a = c.args in
    let s = a.s.now in
    let req = a.req.now in
    let added = a.added.now in
    let h = sound-as s req added c.in-Field.is c.requires.sound in
    omega (arith, h.2.0)

pub slice_bounds-written_len-end : goal.slice_bounds-written_len-end
slice_bounds-written_len-end c =
    let a = c.args in
    let s = a.s.now in
    let req = a.req.now in
    let added = a.added.now in
    let h = sound-as s req added c.in-Field.is c.requires.sound in
    omega (arith, h.2.1)

pub slice_bounds-written_len-count-in-Field : goal.slice_bounds-written_len-count-in-Field
slice_bounds-written_len-count-in-Field c =
    let a = c.args in
    let s = a.s.now in
    let req = a.req.now in
    let added = a.added.now in
    let h = sound-as s req added c.in-Field.is c.requires.sound in
    omega (arith, h.3.0)

pub slice_bounds-written_len-start-in-Field : goal.slice_bounds-written_len-start-in-Field
slice_bounds-written_len-start-in-Field c =
    let a = c.args in
    let s = a.s.now in
    let req = a.req.now in
    let added = a.added.now in
    let h = sound-as s req added c.in-Field.is c.requires.sound in
    omega (arith, h.3.0)

pub slice_bounds-written_len-end-in-Field : goal.slice_bounds-written_len-end-in-Field
slice_bounds-written_len-end-in-Field c =
    let a = c.args in
    let s = a.s.now in
    let req = a.req.now in
    let added = a.added.now in
    let h = sound-as s req added c.in-Field.is c.requires.sound in
    omega (arith, h.3.1)

pub written_len-new-requires : goal.written_len-new-requires
written_len-new-requires c =
    let a = c.args in
    let s = a.s.now in
    let req = a.req.now in
    let added = a.added.now in
    let h = sound-as s req added c.in-Field.is c.requires.sound in
    (omega (arith, span-length req c.in-Field.name h.2, h.1, h.2.1), omega (arith, span-length req c.in-Field.value h.3, h.1, h.3.1))

pub overflow_sub-used : goal.overflow_sub-used
overflow_sub-used c =
    let a = c.args in
    let s = a.s.now in
    let req = a.req.now in
    let added = a.added.now in
    let h = sound-as s req added c.in-Field.is c.requires.sound in
    omega (arith, h.0)

pub overflow_add-used : goal.overflow_add-used
overflow_add-used c =
    let a = c.args in
    let s = a.s.now in
    let req = a.req.now in
    let added = a.added.now in
    let h = sound-as s req added c.in-Field.is c.requires.sound in
    omega (arith, c.written_len-new.ensures, written-length (bytes_of req c.in-Field.name) (bytes_of req c.in-Field.value), indent-length (bytes_of req c.in-Field.value), span-length req c.in-Field.name h.2, span-length req c.in-Field.value h.3, h.1, h.2.1, h.3.1, c.requires.s_len_bound.1)

pub returns-in-Field : goal.returns-in-Field
returns-in-Field c =
    let a = c.args in
    let s = a.s.now in
    let req = a.req.now in
    let added = a.added.now in
    let h = sound-as s req added c.in-Field.is c.requires.sound in
    let w = written (bytes_of req c.in-Field.name) (bytes_of req c.in-Field.value) in
    fits-as s req added c.in-Field.is a.room (ap (is_within a.room) (exchanged-length s c.in-Field.at c.in-Field.old w h.0 ∙ ap (λ k. (length s - c.in-Field.old) + k) (sym c.written_len-new.ensures)) ∙ sym (c.fits-in-Field.ensures ∙ ap (is_within a.room) c.new-f-in-Field.ensures))

pub overflow_sub-new : goal.overflow_sub-new
overflow_sub-new c =
    let a = c.args in
    let s = a.s.now in
    let req = a.req.now in
    let added = a.added.now in
    let h = sound-as s req added c.in-Name.is c.requires.sound in
    omega (arith, h.1.0)

pub overflow_sub-used-in-Name : goal.overflow_sub-used-in-Name
overflow_sub-used-in-Name c =
    let a = c.args in
    let s = a.s.now in
    let req = a.req.now in
    let added = a.added.now in
    let h = sound-as s req added c.in-Name.is c.requires.sound in
    omega (arith, h.0)

pub overflow_add-used-in-Name : goal.overflow_add-used-in-Name
overflow_add-used-in-Name c =
    let a = c.args in
    let s = a.s.now in
    let req = a.req.now in
    let added = a.added.now in
    let h = sound-as s req added c.in-Name.is c.requires.sound in
    omega (arith, h.1.1, c.well_formed, c.requires.s_len_bound.1)

pub returns-in-Name : goal.returns-in-Name
returns-in-Name c =
    let a = c.args in
    let s = a.s.now in
    let req = a.req.now in
    let added = a.added.now in
    let h = sound-as s req added c.in-Name.is c.requires.sound in
    fits-as s req added c.in-Name.is a.room (ap (is_within a.room) (exchanged-length s c.in-Name.at c.in-Name.old (bytes_of req c.in-Name.name) h.0 ∙ ap (λ k. (length s - c.in-Name.old) + k) (span-length req c.in-Name.name h.1)) ∙ sym (c.fits-in-Name.ensures ∙ ap (is_within a.room) c.new-f-in-Name.ensures))

pub returns-in-Cut : goal.returns-in-Cut
returns-in-Cut c =
    let a = c.args in
    let s = a.s.now in
    let req = a.req.now in
    let added = a.added.now in
    elim c.in-Cut.is [
      | inl w ↦ let h = sound-as s req added w.2 c.requires.sound in
          fits-as s req added w.2 a.room (not-longer a.room (length (spliced s w.0 w.1 [])) (length s) (omega (arith, h, exchanged-length s w.0 w.1 [] h)) c.requires.s_len_bound.0 c.requires.s_len_bound.1)
      | inr w ↦ let h = sound-as s req added w.2 c.requires.sound in
          fits-as s req added w.2 a.room (not-longer a.room (length (spliced s w.0 (w.1 - w.0) (left_of (span w.0 w.1 s)))) (length s) (unfielded-length s w.0 w.1 h.0 h.1 h.2) c.requires.s_len_bound.0 c.requires.s_len_bound.1)
    ]
