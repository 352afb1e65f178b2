use Prim.Native.Nat.{◌-◌}
use native.Mathlib.Omega.{arith}
use mathlib.Core.Path.{refl, ◌∙◌}
use lib.ListN.{length-set}
use Rattle.format.specs.Rules.{singular}
use Rattle.records.specs.Walk.{record_in}
use Rattle.records.proofs.Readings.{part-readable}
use Rattle.records.proofs.NextFields.{next-told}
use Rattle.singulars.proofs.Gathering.{enters-start, enters-end, enters-skip, enters-full, enters-more}
use Rattle.singulars.proofs.gather.Goals as goal

pub loop-f-init : goal.loop-f-init
loop-f-init c =
    (refl, omega arith, enters-start (singular (record_in c.args.d.now)) c.args.s.now c.args.entries.now c.requires.s_value.0)

pub next_field-requires : goal.next_field-requires
next_field-requires c =
    part-readable c.args.s.now c.loop-f.i c.loop-f.invariant.2.readable

pub shape_of-entries-in_default : goal.shape_of-entries-in_default
shape_of-entries-in_default c =
    c.loop-f.invariant.0

pub returns-in_default : goal.returns-in_default
returns-in_default c =
    enters-end (singular (record_in c.args.d.now)) c.args.s.now c.loop-f.entries c.loop-f.n c.loop-f.i c.loop-f.invariant.2 (next-told c.args.s.now c.loop-f.i c.next_field.result c.next_field.ensures c.in_default.is)

pub overflow_add-i : goal.overflow_add-i
overflow_add-i c =
    let h = next-told c.args.s.now c.loop-f.i c.next_field.result c.next_field.ensures c.in-Some.is in
    omega (arith, h.named, h.name-inside, h.inside, c.requires.s_value.1)

pub overflow_add-i-in-loop-f : goal.overflow_add-i-in-loop-f
overflow_add-i-in-loop-f c =
    let h = next-told c.args.s.now c.loop-f.i c.next_field.result c.next_field.ensures c.in-Some.is in
    omega (arith, h.name-inside, h.inside, c.requires.s_value.1)

pub slice_bounds-place_in-count : goal.slice_bounds-place_in-count
slice_bounds-place_in-count c =
    let h = next-told c.args.s.now c.loop-f.i c.next_field.result c.next_field.ensures c.in-Some.is in
    h.named

pub slice_bounds-place_in-start : goal.slice_bounds-place_in-start
slice_bounds-place_in-start c =
    let h = next-told c.args.s.now c.loop-f.i c.next_field.result c.next_field.ensures c.in-Some.is in
    h.named

pub slice_bounds-place_in-end-in-loop-f-2 : goal.slice_bounds-place_in-end-in-loop-f-2
slice_bounds-place_in-end-in-loop-f-2 c =
    let h = next-told c.args.s.now c.loop-f.i c.next_field.result c.next_field.ensures c.in-Some.is in
    omega (arith, h.name-inside, h.inside)

pub place_in-k-requires : goal.place_in-k-requires
place_in-k-requires c =
    (singular (record_in c.args.d.now), c.requires.listed)

pub shape_of-entries-then-entries-n : goal.shape_of-entries-then-entries-n
shape_of-entries-then-entries-n c =
    c.loop-f.invariant.0

pub returns-then-entries-n : goal.returns-then-entries-n
returns-then-entries-n c =
    let h = next-told c.args.s.now c.loop-f.i c.next_field.result c.next_field.ensures c.in-Some.is in
    enters-full (singular (record_in c.args.d.now)) c.args.s.now c.loop-f.entries c.loop-f.n c.loop-f.i c.loop-f.invariant.2 _ _ _ _ h c.place_in-k.result (c.place_in-k.ensures (singular (record_in c.args.d.now)) c.requires.listed) (omega (arith, c.if-k-count.true, c.requires.listed.count)) (omega (arith, c.if-entries-n.true))

pub overflow_add-i-then-k-count : goal.overflow_add-i-then-k-count
overflow_add-i-then-k-count c =
    let h = next-told c.args.s.now c.loop-f.i c.next_field.result c.next_field.ensures c.in-Some.is in
    omega (arith, h.value_there, c.requires.s_value.1)

pub entry-requires : goal.entry-requires
entry-requires c =
    let h = next-told c.args.s.now c.loop-f.i c.next_field.result c.next_field.ensures c.in-Some.is in
    (omega (arith, h.value_there, c.requires.s_value.1), omega (arith, c.if-k-count.true, c.requires.listed.count, c.requires.listed.few))

pub offset_bounds-entries-n : goal.offset_bounds-entries-n
offset_bounds-entries-n c =
    omega (arith, c.loop-f.invariant.1, c.loop-f.invariant.2.inside, c.requires.s_value.1)

pub bounds-entries-n : goal.bounds-entries-n
bounds-entries-n c =
    omega (arith, c.if-entries-n.false)

pub overflow_add-n : goal.overflow_add-n
overflow_add-n c =
    omega (arith, c.loop-f.invariant.1, c.loop-f.invariant.2.inside, c.requires.s_value.1)

pub overflow_add-i-then-k-count-2 : goal.overflow_add-i-then-k-count-2
overflow_add-i-then-k-count-2 c =
    let h = next-told c.args.s.now c.loop-f.i c.next_field.result c.next_field.ensures c.in-Some.is in
    omega (arith, h.inside, c.requires.s_value.1)

pub loop-f-smaller-then-k-count : goal.loop-f-smaller-then-k-count
loop-f-smaller-then-k-count c =
    let h = next-told c.args.s.now c.loop-f.i c.next_field.result c.next_field.ensures c.in-Some.is in
    omega (arith, h.moves, h.begins, h.inside)

pub loop-f-preserved-then-k-count : goal.loop-f-preserved-then-k-count
loop-f-preserved-then-k-count c =
    let h = next-told c.args.s.now c.loop-f.i c.next_field.result c.next_field.ensures c.in-Some.is in
    (length-set c.loop-f.entries c.loop-f.n c.entry.result ∙ c.loop-f.invariant.0, omega (arith, c.loop-f.invariant.1, h.moves, h.begins), enters-more (singular (record_in c.args.d.now)) c.args.s.now c.loop-f.entries c.loop-f.n c.loop-f.i c.loop-f.invariant.2 _ _ _ _ h c.place_in-k.result (c.place_in-k.ensures (singular (record_in c.args.d.now)) c.requires.listed) (omega (arith, c.if-k-count.true, c.requires.listed.count)) (omega (arith, c.if-entries-n.false)) c.requires.s_value.1 c.entry.result c.entry.ensures)

pub overflow_add-i-else-k-count : goal.overflow_add-i-else-k-count
overflow_add-i-else-k-count c =
    let h = next-told c.args.s.now c.loop-f.i c.next_field.result c.next_field.ensures c.in-Some.is in
    omega (arith, h.inside, c.requires.s_value.1)

pub loop-f-smaller : goal.loop-f-smaller
loop-f-smaller c =
    let h = next-told c.args.s.now c.loop-f.i c.next_field.result c.next_field.ensures c.in-Some.is in
    omega (arith, h.moves, h.begins, h.inside)

pub loop-f-preserved : goal.loop-f-preserved
loop-f-preserved c =
    let h = next-told c.args.s.now c.loop-f.i c.next_field.result c.next_field.ensures c.in-Some.is in
    (c.loop-f.invariant.0, omega (arith, c.loop-f.invariant.1, h.moves, h.begins), enters-skip (singular (record_in c.args.d.now)) c.args.s.now c.loop-f.entries c.loop-f.n c.loop-f.i c.loop-f.invariant.2 _ _ _ _ h c.place_in-k.result (c.place_in-k.ensures (singular (record_in c.args.d.now)) c.requires.listed) (omega (arith, c.if-k-count.false, c.requires.listed.count)))
