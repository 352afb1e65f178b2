-- `edits::carry_out` meets its contract: each kind of splice is one change of the text in the buffer.
use native.Mathlib.Omega.{arith}
use mathlib.Core.Path.{◌≡◌, sym}
use lib.ListN.{length, take}
use lib.Seq.{length-take-le}
use Rattle.format.specs.Bytes.{Bytes}
use Rattle.format.specs.Written.{written}
use Rattle.requests.specs.Fields.{bytes_of}
use Rattle.requests.proofs.Reading.{span-length}
use Rattle.splices.proofs.Opening.{spliced-length}
use Rattle.edits.proofs.Sizes.{sound-as, length-as, carried-as}
use Rattle.edits.proofs.carry_out.Goals as goal

pub slice_bounds-put_record-end : goal.slice_bounds-put_record-end
slice_bounds-put_record-end c =
    let a = c.args in
    let t : Bytes = take a.used a.buf.now in
    let h = sound-as t a.req.now a.added.now c.in-Record.is c.requires.used_in_bounds.1 in
    sym (length-take-le c.in-Record.own a.added.now h.1)

pub put_record-requires : goal.put_record-requires
put_record-requires c =
    let a = c.args in
    let b : Bytes = a.buf.now in
    let used = a.used in
    let req = a.req.now in
    let added = a.added.now in
    let t : Bytes = take used b in
    let h = sound-as t req added c.in-Record.is c.requires.used_in_bounds.1 in
    let m = length-as t req added c.in-Record.is (length b) c.requires.x_in_bounds in
    let l : length t ≡ used = length-take-le used b c.requires.used_in_bounds.0 in
    record { at_le_used = (omega (arith, h.0, l), c.requires.used_in_bounds.0, m); from_value = h.2; len_value = h.3 }

pub returns-in-Record : goal.returns-in-Record
returns-in-Record c =
    let a = c.args in
    let b : Bytes = a.buf.now in
    let used = a.used in
    let req = a.req.now in
    let added = a.added.now in
    let t : Bytes = take used b in
    carried-as t req added c.in-Record.is used _ b _ c.put_record.ensures

pub slice_bounds-put_text-count : goal.slice_bounds-put_text-count
slice_bounds-put_text-count c =
    let a = c.args in
    let b : Bytes = a.buf.now in
    let used = a.used in
    let req = a.req.now in
    let added = a.added.now in
    let t : Bytes = take used b in
    let h = sound-as t req added c.in-Field.is c.requires.used_in_bounds.1 in
    omega (arith, h.2.0)

pub slice_bounds-put_text-start : goal.slice_bounds-put_text-start
slice_bounds-put_text-start c =
    let a = c.args in
    let b : Bytes = a.buf.now in
    let used = a.used in
    let req = a.req.now in
    let added = a.added.now in
    let t : Bytes = take used b in
    let h = sound-as t req added c.in-Field.is c.requires.used_in_bounds.1 in
    omega (arith, h.2.0)

pub slice_bounds-put_text-end : goal.slice_bounds-put_text-end
slice_bounds-put_text-end c =
    let a = c.args in
    let b : Bytes = a.buf.now in
    let used = a.used in
    let req = a.req.now in
    let added = a.added.now in
    let t : Bytes = take used b in
    let h = sound-as t req added c.in-Field.is c.requires.used_in_bounds.1 in
    omega (arith, h.2.1)

pub slice_bounds-put_text-count-in-Field : goal.slice_bounds-put_text-count-in-Field
slice_bounds-put_text-count-in-Field c =
    let a = c.args in
    let b : Bytes = a.buf.now in
    let used = a.used in
    let req = a.req.now in
    let added = a.added.now in
    let t : Bytes = take used b in
    let h = sound-as t req added c.in-Field.is c.requires.used_in_bounds.1 in
    omega (arith, h.3.0)

pub slice_bounds-put_text-start-in-Field : goal.slice_bounds-put_text-start-in-Field
slice_bounds-put_text-start-in-Field c =
    let a = c.args in
    let b : Bytes = a.buf.now in
    let used = a.used in
    let req = a.req.now in
    let added = a.added.now in
    let t : Bytes = take used b in
    let h = sound-as t req added c.in-Field.is c.requires.used_in_bounds.1 in
    omega (arith, h.3.0)

pub slice_bounds-put_text-end-in-Field : goal.slice_bounds-put_text-end-in-Field
slice_bounds-put_text-end-in-Field c =
    let a = c.args in
    let b : Bytes = a.buf.now in
    let used = a.used in
    let req = a.req.now in
    let added = a.added.now in
    let t : Bytes = take used b in
    let h = sound-as t req added c.in-Field.is c.requires.used_in_bounds.1 in
    omega (arith, h.3.1)

pub put_text-requires : goal.put_text-requires
put_text-requires c =
    let a = c.args in
    let b : Bytes = a.buf.now in
    let used = a.used in
    let req = a.req.now in
    let added = a.added.now in
    let t : Bytes = take used b in
    let h = sound-as t req added c.in-Field.is c.requires.used_in_bounds.1 in
    let m = length-as t req added c.in-Field.is (length b) c.requires.x_in_bounds in
    let l : length t ≡ used = length-take-le used b c.requires.used_in_bounds.0 in
    record { bound = (omega (arith, h.0, l), c.requires.used_in_bounds.0, omega (arith, m, spliced-length b used c.in-Field.at c.in-Field.old (written (bytes_of req c.in-Field.name) (bytes_of req c.in-Field.value)) (omega (arith, h.0, l)) c.requires.used_in_bounds.0)); name_len_bound = (omega (arith, span-length req c.in-Field.name h.2, h.1, h.2.1), omega (arith, span-length req c.in-Field.value h.3, h.1, h.3.1)) }

pub returns-in-Field : goal.returns-in-Field
returns-in-Field c =
    let a = c.args in
    let b : Bytes = a.buf.now in
    let used = a.used in
    let req = a.req.now in
    let added = a.added.now in
    let t : Bytes = take used b in
    carried-as t req added c.in-Field.is used _ b _ c.put_text.ensures

pub slice_bounds-splice-count : goal.slice_bounds-splice-count
slice_bounds-splice-count c =
    let a = c.args in
    let b : Bytes = a.buf.now in
    let used = a.used in
    let req = a.req.now in
    let added = a.added.now in
    let t : Bytes = take used b in
    let h = sound-as t req added c.in-Name.is c.requires.used_in_bounds.1 in
    omega (arith, h.1.0)

pub slice_bounds-splice-start : goal.slice_bounds-splice-start
slice_bounds-splice-start c =
    let a = c.args in
    let b : Bytes = a.buf.now in
    let used = a.used in
    let req = a.req.now in
    let added = a.added.now in
    let t : Bytes = take used b in
    let h = sound-as t req added c.in-Name.is c.requires.used_in_bounds.1 in
    omega (arith, h.1.0)

pub slice_bounds-splice-end : goal.slice_bounds-splice-end
slice_bounds-splice-end c =
    let a = c.args in
    let b : Bytes = a.buf.now in
    let used = a.used in
    let req = a.req.now in
    let added = a.added.now in
    let t : Bytes = take used b in
    let h = sound-as t req added c.in-Name.is c.requires.used_in_bounds.1 in
    omega (arith, h.1.1)

pub splice-requires : goal.splice-requires
splice-requires c =
    let a = c.args in
    let b : Bytes = a.buf.now in
    let used = a.used in
    let req = a.req.now in
    let added = a.added.now in
    let t : Bytes = take used b in
    let h = sound-as t req added c.in-Name.is c.requires.used_in_bounds.1 in
    let m = length-as t req added c.in-Name.is (length b) c.requires.x_in_bounds in
    let l : length t ≡ used = length-take-le used b c.requires.used_in_bounds.0 in
    (omega (arith, h.0, l), c.requires.used_in_bounds.0, omega (arith, m, spliced-length b used c.in-Name.at c.in-Name.old (bytes_of req c.in-Name.name) (omega (arith, h.0, l)) c.requires.used_in_bounds.0))

pub returns-in-Name : goal.returns-in-Name
returns-in-Name c =
    let a = c.args in
    let b : Bytes = a.buf.now in
    let used = a.used in
    let req = a.req.now in
    let added = a.added.now in
    let t : Bytes = take used b in
    carried-as t req added c.in-Name.is used _ b _ c.splice.ensures

pub cut_text-requires : goal.cut_text-requires
cut_text-requires c =
    let a = c.args in
    let b : Bytes = a.buf.now in
    let used = a.used in
    let req = a.req.now in
    let added = a.added.now in
    let t : Bytes = take used b in
    let h = sound-as t req added c.in-Cut.is c.requires.used_in_bounds.1 in
    let l : length t ≡ used = length-take-le used b c.requires.used_in_bounds.0 in
    (omega (arith, h, l), c.requires.used_in_bounds.0)

pub returns-in-Cut : goal.returns-in-Cut
returns-in-Cut c =
    let a = c.args in
    let b : Bytes = a.buf.now in
    let used = a.used in
    let req = a.req.now in
    let added = a.added.now in
    let t : Bytes = take used b in
    carried-as t req added c.in-Cut.is used _ b _ c.cut_text.ensures

pub cut_fields-requires : goal.cut_fields-requires
cut_fields-requires c =
    let a = c.args in
    let b : Bytes = a.buf.now in
    let used = a.used in
    let req = a.req.now in
    let added = a.added.now in
    let t : Bytes = take used b in
    let h = sound-as t req added c.in-Unfield.is c.requires.used_in_bounds.1 in
    let l : length t ≡ used = length-take-le used b c.requires.used_in_bounds.0 in
    record { start_le_end = (h.0, omega (arith, h.1, l), c.requires.used_in_bounds.0); buf_value = h.2 }

pub returns-in-Unfield : goal.returns-in-Unfield
returns-in-Unfield c =
    let a = c.args in
    let b : Bytes = a.buf.now in
    let used = a.used in
    let req = a.req.now in
    let added = a.added.now in
    let t : Bytes = take used b in
    carried-as t req added c.in-Unfield.is used _ b _ c.cut_fields.ensures
