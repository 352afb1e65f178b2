use borrow.Author.Tests.{not-true, not-false}
use Prim.Native.Nat.{◌+◌}
use native.Mathlib.Omega.{arith}
use mathlib.Core.Path.{refl, sym, ◌∙◌}
use Rattle.format.specs.Questions.{fits_field}
use Rattle.records.specs.Walk.{record_in}
use Rattle.records.specs.Fields.{fields_from, field_between}
use Rattle.records.proofs.Readings.{part-readable}
use Rattle.records.proofs.NextFields.{next-told}
use Rattle.descriptors.proofs.Contents.{name-asked, size-asked}
use Rattle.descriptors.proofs.Folds.{all_both}
use Rattle.descriptors.proofs.Judging.{formed-done, formed-stop, formed-twice, formed-more}
use Rattle.descriptors.proofs.Limits.{fits-fields, fits-value}
use mathlib.Core.Bool.{not}
use mathlib.Core.Path.{ap}
use Rattle.descriptors.proofs.shapes.well_formed.Goals as goal

pub loop-f-init : goal.loop-f-init
loop-f-init c =
    (omega arith, c.requires.d_value, fits-fields (record_in c.args.d.now) c.requires.d_value_2, refl, refl)

pub next_field-requires : goal.next_field-requires
next_field-requires c =
    part-readable c.args.d.now c.loop-f.i c.loop-f.invariant.1

pub shape_of-scratch-in_default : goal.shape_of-scratch-in_default
shape_of-scratch-in_default c =
    c.loop-f.invariant.3

pub returns-in_default : goal.returns-in_default
returns-in_default c =
    let none = next-told c.args.d.now c.loop-f.i c.next_field.result c.next_field.ensures c.in_default.is in
    (sym (c.loop-f.invariant.4 ∙ formed-done c.loop-f.keyed c.loop-f.sized (fields_from c.args.d.now c.loop-f.i) none), c.loop-f.invariant.3)

pub overflow_add-i : goal.overflow_add-i
overflow_add-i c =
    let f = next-told c.args.d.now c.loop-f.i c.next_field.result c.next_field.ensures c.in-Some.is in
    omega (arith, f.named, f.name-inside, f.inside)

pub overflow_add-i-in-loop-f : goal.overflow_add-i-in-loop-f
overflow_add-i-in-loop-f c =
    let f = next-told c.args.d.now c.loop-f.i c.next_field.result c.next_field.ensures c.in-Some.is in
    omega (arith, f.name-inside, f.inside)

pub slice_bounds-content_of-count : goal.slice_bounds-content_of-count
slice_bounds-content_of-count c =
    let f = next-told c.args.d.now c.loop-f.i c.next_field.result c.next_field.ensures c.in-Some.is in
    omega (arith, f.named)

pub slice_bounds-content_of-start : goal.slice_bounds-content_of-start
slice_bounds-content_of-start c =
    let f = next-told c.args.d.now c.loop-f.i c.next_field.result c.next_field.ensures c.in-Some.is in
    omega (arith, f.named, f.name-inside, f.inside)

pub slice_bounds-content_of-end : goal.slice_bounds-content_of-end
slice_bounds-content_of-end c =
    let f = next-told c.args.d.now c.loop-f.i c.next_field.result c.next_field.ensures c.in-Some.is in
    omega (arith, f.name-inside, f.inside)

pub overflow_add-i-in-loop-f-2 : goal.overflow_add-i-in-loop-f-2
overflow_add-i-in-loop-f-2 c =
    let f = next-told c.args.d.now c.loop-f.i c.next_field.result c.next_field.ensures c.in-Some.is in
    omega (arith, f.value-inside, f.inside)

pub overflow_add-i-in-loop-f-3 : goal.overflow_add-i-in-loop-f-3
overflow_add-i-in-loop-f-3 c =
    let f = next-told c.args.d.now c.loop-f.i c.next_field.result c.next_field.ensures c.in-Some.is in
    omega (arith, f.inside)

pub slice_bounds-value_holds-count : goal.slice_bounds-value_holds-count
slice_bounds-value_holds-count c =
    let f = next-told c.args.d.now c.loop-f.i c.next_field.result c.next_field.ensures c.in-Some.is in
    omega (arith, f.value-inside)

pub slice_bounds-value_holds-start : goal.slice_bounds-value_holds-start
slice_bounds-value_holds-start c =
    let f = next-told c.args.d.now c.loop-f.i c.next_field.result c.next_field.ensures c.in-Some.is in
    omega (arith, f.value-inside, f.inside)

pub slice_bounds-value_holds-end : goal.slice_bounds-value_holds-end
slice_bounds-value_holds-end c =
    let f = next-told c.args.d.now c.loop-f.i c.next_field.result c.next_field.ensures c.in-Some.is in
    omega (arith, f.inside)

pub value_holds-requires : goal.value_holds-requires
value_holds-requires c =
    let d = c.args.d.now in
    let i = c.loop-f.i in
    let f = next-told d i c.next_field.result c.next_field.ensures c.in-Some.is in
    let x = field_between d (i + c.in-Some.f.start) (i + c.in-Some.f.named) (i + c.in-Some.f.value) (i + c.in-Some.f.end) in
    let rest = fields_from d (i + c.in-Some.f.end) in
    let h = all_both fits_field (fields_from d i) x rest f.fields c.loop-f.invariant.2 in
    omega (arith, fits-value x h.0, c.requires.value_bytes_in_bounds, c.loop-f.invariant.3)

pub shape_of-scratch-then-not-value_holds : goal.shape_of-scratch-then-not-value_holds
shape_of-scratch-then-not-value_holds c =
    c.value_holds.ensures.1 ∙ c.loop-f.invariant.3

pub returns-then-not-value_holds : goal.returns-then-not-value_holds
returns-then-not-value_holds c =
    let d = c.args.d.now in
    let i = c.loop-f.i in
    let f = next-told d i c.next_field.result c.next_field.ensures c.in-Some.is in
    let x = field_between d (i + c.in-Some.f.start) (i + c.in-Some.f.named) (i + c.in-Some.f.value) (i + c.in-Some.f.end) in
    let rest = fields_from d (i + c.in-Some.f.end) in
    (sym (c.loop-f.invariant.4 ∙ formed-stop c.loop-f.keyed c.loop-f.sized (fields_from d i) x rest f.fields (c.content_of-c.ensures.shaped x.value x.count ∙ sym c.value_holds.ensures.0 ∙ not-true c.value_holds.result (ap not c.if-not-value_holds.true))), c.value_holds.ensures.1 ∙ c.loop-f.invariant.3)

pub shape_of-scratch-then-keyed-key : goal.shape_of-scratch-then-keyed-key
shape_of-scratch-then-keyed-key c =
    c.value_holds.ensures.1 ∙ c.loop-f.invariant.3

pub returns-then-keyed-key : goal.returns-then-keyed-key
returns-then-keyed-key c =
    let d = c.args.d.now in
    let i = c.loop-f.i in
    let f = next-told d i c.next_field.result c.next_field.ensures c.in-Some.is in
    let x = field_between d (i + c.in-Some.f.start) (i + c.in-Some.f.named) (i + c.in-Some.f.value) (i + c.in-Some.f.end) in
    let rest = fields_from d (i + c.in-Some.f.end) in
    (sym (c.loop-f.invariant.4 ∙ formed-twice c.loop-f.keyed c.loop-f.sized (fields_from d i) x rest f.fields c.eq-key.result c.eq-size.result (c.content_of-c.ensures.key ∙ sym (c.eq-key.ensures ∙ name-asked c.content_of-c.result)) (c.content_of-c.ensures.size ∙ sym (c.eq-size.ensures ∙ size-asked c.content_of-c.result)) c.if-keyed-key.true), c.value_holds.ensures.1 ∙ c.loop-f.invariant.3)

pub overflow_add-i-in-loop-f-4 : goal.overflow_add-i-in-loop-f-4
overflow_add-i-in-loop-f-4 c =
    let f = next-told c.args.d.now c.loop-f.i c.next_field.result c.next_field.ensures c.in-Some.is in
    omega (arith, f.inside)

pub loop-f-smaller : goal.loop-f-smaller
loop-f-smaller c =
    let f = next-told c.args.d.now c.loop-f.i c.next_field.result c.next_field.ensures c.in-Some.is in
    omega (arith, f.begins, f.moves, f.inside)

pub loop-f-preserved : goal.loop-f-preserved
loop-f-preserved c =
    let d = c.args.d.now in
    let i = c.loop-f.i in
    let f = next-told d i c.next_field.result c.next_field.ensures c.in-Some.is in
    let x = field_between d (i + c.in-Some.f.start) (i + c.in-Some.f.named) (i + c.in-Some.f.value) (i + c.in-Some.f.end) in
    let rest = fields_from d (i + c.in-Some.f.end) in
    let h = all_both fits_field (fields_from d i) x rest f.fields c.loop-f.invariant.2 in
    (f.inside, f.readable, h.1, c.value_holds.ensures.1 ∙ c.loop-f.invariant.3, c.loop-f.invariant.4 ∙ formed-more c.loop-f.keyed c.loop-f.sized (fields_from d i) x rest f.fields c.eq-key.result c.eq-size.result (c.content_of-c.ensures.key ∙ sym (c.eq-key.ensures ∙ name-asked c.content_of-c.result)) (c.content_of-c.ensures.size ∙ sym (c.eq-size.ensures ∙ size-asked c.content_of-c.result)) (c.content_of-c.ensures.shaped x.value x.count ∙ sym c.value_holds.ensures.0 ∙ not-false c.value_holds.result (ap not c.if-not-value_holds.false)) c.if-keyed-key.false)
