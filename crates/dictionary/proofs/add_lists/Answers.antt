use native.Mathlib.Omega.{arith}
use Rattle.records.proofs.Readings.{part-readable}
use Rattle.records.proofs.NextFields.{next-told}
use Rattle.dictionary.proofs.Reading.{lists-start, lists-end, lists-skip, lists-room, lists-names, lists-more}
use Rattle.dictionary.proofs.add_lists.Goals as goal
use Rattle.dictionary.proofs.add_lists.Goals.{then-tag-lt-NONE, else-tag-lt-NONE}

pub loop-start-init : goal.loop-start-init
loop-start-init c =
    lists-start c.args.d.now c.args.entries.now c.requires.d_value.0 c.requires.d_in_bounds.0 c.requires.d_in_bounds.1

pub next_field-requires : goal.next_field-requires
next_field-requires c =
    (part-readable c.args.d.now c.loop-start.i c.loop-start.invariant.readable)

pub shape_of-entries-in_default : goal.shape_of-entries-in_default
shape_of-entries-in_default c =
    c.loop-start.invariant.adding.long

pub returns-in_default : goal.returns-in_default
returns-in_default c =
    let e = next-told c.args.d.now c.loop-start.i c.next_field.result c.next_field.ensures c.in_default.is in
    lists-end c.args.d.now c.args.entries.now c.loop-start.entries c.loop-start.n c.loop-start.i c.loop-start.invariant e

pub overflow_add-i : goal.overflow_add-i
overflow_add-i c =
    let h = next-told c.args.d.now c.loop-start.i c.next_field.result c.next_field.ensures c.in-Some.is in
    omega (arith, h.named, h.name-inside, h.inside)

pub overflow_add-i-in-loop-start : goal.overflow_add-i-in-loop-start
overflow_add-i-in-loop-start c =
    let h = next-told c.args.d.now c.loop-start.i c.next_field.result c.next_field.ensures c.in-Some.is in
    omega (arith, h.name-inside, h.inside)

pub slice_bounds-list_tag-count : goal.slice_bounds-list_tag-count
slice_bounds-list_tag-count c =
    let h = next-told c.args.d.now c.loop-start.i c.next_field.result c.next_field.ensures c.in-Some.is in
    h.named

pub slice_bounds-list_tag-start : goal.slice_bounds-list_tag-start
slice_bounds-list_tag-start c =
    let h = next-told c.args.d.now c.loop-start.i c.next_field.result c.next_field.ensures c.in-Some.is in
    h.named

pub slice_bounds-list_tag-end : goal.slice_bounds-list_tag-end
slice_bounds-list_tag-end c =
    let h = next-told c.args.d.now c.loop-start.i c.next_field.result c.next_field.ensures c.in-Some.is in
    omega (arith, h.name-inside, h.inside)

pub overflow_add-i-then-tag-lt-NONE : goal.overflow_add-i-then-tag-lt-NONE
overflow_add-i-then-tag-lt-NONE c =
    let h = next-told c.args.d.now c.loop-start.i c.next_field.result c.next_field.ensures c.in-Some.is in
    omega (arith, h.value_there)

pub add_words-n-requires : goal.add_words-n-requires
add_words-n-requires c =
    let h = next-told c.args.d.now c.loop-start.i c.next_field.result c.next_field.ensures c.in-Some.is in
    record { i_in_bounds = (omega (arith, h.value_there), c.requires.d_value.1, c.if-tag-lt-NONE.true); d_in_bounds = lists-room c.args.d.now c.args.entries.now c.loop-start.entries c.loop-start.n c.loop-start.i c.loop-start.invariant _ _ _ _ h c.list_tag-tag.result c.list_tag-tag.ensures c.if-tag-lt-NONE.true; d_value = lists-names c.args.d.now c.args.entries.now c.loop-start.entries c.loop-start.n c.loop-start.i c.loop-start.invariant _ _ _ _ h c.list_tag-tag.result c.list_tag-tag.ensures c.if-tag-lt-NONE.true }

pub overflow_add-i-in-loop-start-2 : goal.overflow_add-i-in-loop-start-2
overflow_add-i-in-loop-start-2 c =
    let h = next-told c.args.d.now c.loop-start.i c.next_field.result c.next_field.ensures c.in-Some.is in
    omega (arith, h.inside)

pub loop-start-smaller : goal.loop-start-smaller
loop-start-smaller c =
    let h = next-told c.args.d.now c.loop-start.i c.next_field.result c.next_field.ensures c.in-Some.is in
    omega (arith, h.begins, h.moves, h.inside)

pub loop-start-preserved : goal.loop-start-preserved
loop-start-preserved c =
    let h = next-told c.args.d.now c.loop-start.i c.next_field.result c.next_field.ensures c.in-Some.is in
    elim c.if-tag-lt-NONE.branch [ then-tag-lt-NONE w ↦ rw (w.entries-is, w.n-is) (lists-more c.args.d.now c.args.entries.now c.loop-start.entries c.loop-start.n c.loop-start.i c.loop-start.invariant _ _ _ _ h c.list_tag-tag.result c.list_tag-tag.ensures w.if-tag-lt-NONE.true _ _ w.add_words-n.ensures) | else-tag-lt-NONE w ↦ rw (w.entries-is, w.n-is) (lists-skip c.args.d.now c.args.entries.now c.loop-start.entries c.loop-start.n c.loop-start.i c.loop-start.invariant _ _ _ _ h c.list_tag-tag.result c.list_tag-tag.ensures w.if-tag-lt-NONE.false) ]
