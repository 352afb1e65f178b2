use Prim.Native.Nat.{◌+◌, ◌-◌}
use native.Mathlib.Omega.{arith}
use mathlib.Core.Path.{sym, ap, ◌∙◌}
use Rattle.format.specs.Pieces.{read_of}
use Rattle.format.specs.Records.{fields_of}
use Rattle.format.specs.declared.Descriptor.{Descriptor}
use Rattle.records.specs.Fields.{fields_from, field_between}
use Rattle.records.proofs.Readings.{part-readable}
use Rattle.records.proofs.NextFields.{next-told}
use Rattle.words.proofs.Spans.{span-length}
use Rattle.limits.proofs.Tallies.{counts-path, count_from, fits_counts, no_counts, rules-counts, count-end, count-on}
use Rattle.limits.proofs.rules_fit.Goals as goal

pub loop-f-init : goal.loop-f-init
loop-f-init c =
    (omega arith, c.requires.d_value, omega (arith, c.new-c.ensures.0, c.new-c.ensures.1, c.new-c.ensures.2, c.new-c.ensures.3, c.new-c.ensures.4, c.new-c.ensures.5, c.new-c.ensures.6, c.new-c.ensures.7), ap (λ (x : Descriptor). count_from x (fields_of (read_of c.args.d.now))) (counts-path no_counts c.new-c.result (sym c.new-c.ensures.0) (sym c.new-c.ensures.1) (sym c.new-c.ensures.2) (sym c.new-c.ensures.3) (sym c.new-c.ensures.4) (sym c.new-c.ensures.5) (sym c.new-c.ensures.6) (sym c.new-c.ensures.7)))

pub next_field-requires : goal.next_field-requires
next_field-requires c =
    (part-readable c.args.d.now c.loop-f.i c.loop-f.invariant.1)

pub returns-in_default : goal.returns-in_default
returns-in_default c =
    c.fits.ensures ∙ sym (rules-counts (fields_of (read_of c.args.d.now)) ∙ ap fits_counts (c.loop-f.invariant.3 ∙ ap (count_from c.loop-f.c) (next-told c.args.d.now c.loop-f.i c.next_field.result c.next_field.ensures c.in_default.is) ∙ count-end c.loop-f.c))

pub overflow_add-i : goal.overflow_add-i
overflow_add-i c =
    let f = next-told c.args.d.now c.loop-f.i c.next_field.result c.next_field.ensures c.in-Some.is in
    omega (arith, f.named, f.name-inside, f.inside)

pub overflow_add-i-in-loop-f : goal.overflow_add-i-in-loop-f
overflow_add-i-in-loop-f c =
    let f = next-told c.args.d.now c.loop-f.i c.next_field.result c.next_field.ensures c.in-Some.is in
    omega (arith, f.name-inside, f.inside)

pub slice_bounds-counted-count : goal.slice_bounds-counted-count
slice_bounds-counted-count c =
    let f = next-told c.args.d.now c.loop-f.i c.next_field.result c.next_field.ensures c.in-Some.is in
    omega (arith, f.named)

pub slice_bounds-counted-start : goal.slice_bounds-counted-start
slice_bounds-counted-start c =
    let f = next-told c.args.d.now c.loop-f.i c.next_field.result c.next_field.ensures c.in-Some.is in
    omega (arith, f.named)

pub slice_bounds-counted-end : goal.slice_bounds-counted-end
slice_bounds-counted-end c =
    let f = next-told c.args.d.now c.loop-f.i c.next_field.result c.next_field.ensures c.in-Some.is in
    omega (arith, f.name-inside, f.inside)

pub overflow_add-i-in-loop-f-2 : goal.overflow_add-i-in-loop-f-2
overflow_add-i-in-loop-f-2 c =
    let f = next-told c.args.d.now c.loop-f.i c.next_field.result c.next_field.ensures c.in-Some.is in
    omega (arith, f.value-inside, f.inside)

pub overflow_add-i-in-loop-f-3 : goal.overflow_add-i-in-loop-f-3
overflow_add-i-in-loop-f-3 c =
    let f = next-told c.args.d.now c.loop-f.i c.next_field.result c.next_field.ensures c.in-Some.is in
    omega (arith, f.inside)

pub slice_bounds-counted-count-in-loop-f : goal.slice_bounds-counted-count-in-loop-f
slice_bounds-counted-count-in-loop-f c =
    let f = next-told c.args.d.now c.loop-f.i c.next_field.result c.next_field.ensures c.in-Some.is in
    omega (arith, f.value-inside)

pub slice_bounds-counted-start-in-loop-f : goal.slice_bounds-counted-start-in-loop-f
slice_bounds-counted-start-in-loop-f c =
    let f = next-told c.args.d.now c.loop-f.i c.next_field.result c.next_field.ensures c.in-Some.is in
    omega (arith, f.value-inside)

pub slice_bounds-counted-end-in-loop-f : goal.slice_bounds-counted-end-in-loop-f
slice_bounds-counted-end-in-loop-f c =
    let f = next-told c.args.d.now c.loop-f.i c.next_field.result c.next_field.ensures c.in-Some.is in
    omega (arith, f.inside)

pub counted-c-requires : goal.counted-c-requires
counted-c-requires c =
    let f = next-told c.args.d.now c.loop-f.i c.next_field.result c.next_field.ensures c.in-Some.is in
    record { d_bound = omega (arith, c.loop-f.invariant.0, c.loop-f.invariant.2, c.requires.d_len_bound); value_len_bound = omega (arith, span-length c.args.d.now _ _ f.value-inside f.inside, f.inside, c.requires.d_len_bound) }

pub overflow_add-i-in-loop-f-4 : goal.overflow_add-i-in-loop-f-4
overflow_add-i-in-loop-f-4 c =
    let f = next-told c.args.d.now c.loop-f.i c.next_field.result c.next_field.ensures c.in-Some.is in
    omega (arith, f.inside)

pub loop-f-smaller : goal.loop-f-smaller
loop-f-smaller c =
    let f = next-told c.args.d.now c.loop-f.i c.next_field.result c.next_field.ensures c.in-Some.is in
    omega (arith, f.begins, f.moves, f.inside)

pub loop-f-preserved : goal.loop-f-preserved
loop-f-preserved c =
    let f = next-told c.args.d.now c.loop-f.i c.next_field.result c.next_field.ensures c.in-Some.is in
    let i = c.loop-f.i in
    let rest = fields_from c.args.d.now (i + c.in-Some.f.end) in
    (f.inside, f.readable, omega (arith, c.loop-f.invariant.2, c.counted-c.ensures.1, span-length c.args.d.now _ _ f.value-inside f.inside, f.begins, f.moves, f.value-behind), c.loop-f.invariant.3 ∙ ap (count_from c.loop-f.c) f.fields ∙ count-on c.loop-f.c (field_between c.args.d.now (i + c.in-Some.f.start) (i + c.in-Some.f.named) (i + c.in-Some.f.value) (i + c.in-Some.f.end)) rest ∙ ap (λ (x : Descriptor). count_from x rest) (sym c.counted-c.ensures.0))
