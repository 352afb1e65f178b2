use Prim.Native.Nat.{◌-◌}
use native.Mathlib.Omega.{arith}
use mathlib.Core.Path.{refl, ap, ◌∙◌}
use lib.ListN.{length}
use Rattle.format.specs.Rules.{auto}
use Rattle.records.specs.Walk.{record_in}
use Rattle.records.specs.Fields.{fields_from}
use Rattle.records.proofs.Readings.{part-readable}
use Rattle.records.proofs.NextFields.{next-told}
use Rattle.numbering.proofs.Narrowing.{fields-start, fields-end, fields-on, fits-here}
use Rattle.numbering.proofs.bounds.raise_all.Goals as goal

pub loop-start-init : goal.loop-start-init
loop-start-init c =
    (omega arith, c.requires.s_value.0, refl, refl, c.requires.s_value.2, fields-start c.args.s.now (auto (record_in c.args.d.now)) c.args.floors.now)

pub next_field-requires : goal.next_field-requires
next_field-requires c =
    part-readable c.args.s.now c.loop-start.i c.loop-start.invariant.1

pub shape_of-scratch-in_default : goal.shape_of-scratch-in_default
shape_of-scratch-in_default c =
    c.loop-start.invariant.2

pub shape_of-floors-in_default : goal.shape_of-floors-in_default
shape_of-floors-in_default c =
    c.loop-start.invariant.3

pub returns-in_default : goal.returns-in_default
returns-in_default c =
    fields-end c.args.s.now (auto (record_in c.args.d.now)) c.args.floors.now c.loop-start.i c.loop-start.floors c.loop-start.invariant.5 (next-told c.args.s.now c.loop-start.i c.next_field.result c.next_field.ensures c.in_default.is)

pub overflow_add-name : goal.overflow_add-name
overflow_add-name c =
    let h = next-told c.args.s.now c.loop-start.i c.next_field.result c.next_field.ensures c.in-Some.is in
    omega (arith, h.named, h.name-inside, h.inside, c.requires.s_value.1)

pub overflow_add-name-in-loop-start : goal.overflow_add-name-in-loop-start
overflow_add-name-in-loop-start c =
    let h = next-told c.args.s.now c.loop-start.i c.next_field.result c.next_field.ensures c.in-Some.is in
    omega (arith, h.name-inside, h.inside, c.requires.s_value.1)

pub slice_bounds-name-count : goal.slice_bounds-name-count
slice_bounds-name-count c =
    let h = next-told c.args.s.now c.loop-start.i c.next_field.result c.next_field.ensures c.in-Some.is in
    h.named

pub slice_bounds-name-start : goal.slice_bounds-name-start
slice_bounds-name-start c =
    let h = next-told c.args.s.now c.loop-start.i c.next_field.result c.next_field.ensures c.in-Some.is in
    h.named

pub slice_bounds-name-end : goal.slice_bounds-name-end
slice_bounds-name-end c =
    let h = next-told c.args.s.now c.loop-start.i c.next_field.result c.next_field.ensures c.in-Some.is in
    omega (arith, h.name-inside, h.inside)

pub place_in-k-requires : goal.place_in-k-requires
place_in-k-requires c =
    (auto (record_in c.args.d.now), c.requires.listed)

pub overflow_add-i : goal.overflow_add-i
overflow_add-i c =
    let h = next-told c.args.s.now c.loop-start.i c.next_field.result c.next_field.ensures c.in-Some.is in
    omega (arith, h.value_there, c.requires.s_value.1)

pub raise_place-requires : goal.raise_place-requires
raise_place-requires c =
    let h = next-told c.args.s.now c.loop-start.i c.next_field.result c.next_field.ensures c.in-Some.is in
    let f = fits-here (length c.args.scratch.now) _ _ (fields_from c.args.s.now c.loop-start.i) h.fields c.loop-start.invariant.4 in
    (omega (arith, h.value_there), omega (arith, f.0, ap length h.ends-itself, c.loop-start.invariant.2), omega (arith, c.loop-start.invariant.3, c.requires.listed.few, c.requires.listed.count, c.requires.list_words_in_bounds))

pub overflow_add-i-in-loop-start : goal.overflow_add-i-in-loop-start
overflow_add-i-in-loop-start c =
    let h = next-told c.args.s.now c.loop-start.i c.next_field.result c.next_field.ensures c.in-Some.is in
    omega (arith, h.inside, c.requires.s_value.1)

pub loop-start-smaller : goal.loop-start-smaller
loop-start-smaller c =
    let h = next-told c.args.s.now c.loop-start.i c.next_field.result c.next_field.ensures c.in-Some.is in
    omega (arith, h.moves, h.begins, h.inside)

pub loop-start-preserved : goal.loop-start-preserved
loop-start-preserved c =
    let h = next-told c.args.s.now c.loop-start.i c.next_field.result c.next_field.ensures c.in-Some.is in
    let f = fits-here (length c.args.scratch.now) _ _ (fields_from c.args.s.now c.loop-start.i) h.fields c.loop-start.invariant.4 in
    (h.inside, h.readable, c.raise_place.auto.scratch ∙ c.loop-start.invariant.2, c.raise_place.auto.floors ∙ c.loop-start.invariant.3, f.1, fields-on c.args.s.now (auto (record_in c.args.d.now)) c.args.floors.now c.loop-start.i c.loop-start.floors c.loop-start.invariant.5 _ _ _ _ h c.args.l.words.count c.place_in-k.result (omega (arith, c.loop-start.invariant.3, c.requires.listed.few, c.requires.list_words_in_bounds)) c.requires.listed.count (c.place_in-k.ensures (auto (record_in c.args.d.now)) c.requires.listed) _ c.raise_place.ensures)
