use native.Mathlib.Omega.{arith}
use Rattle.records.proofs.Readings.{part-readable}
use Rattle.records.proofs.Named.{value-told}
use Rattle.dictionary.proofs.Places.{list-start, list-end, list-names, list-few, list-room, list-more}
use Rattle.dictionary.proofs.wordsets.add_list.Goals as goal

pub loop-value-init : goal.loop-value-init
loop-value-init c =
    list-start c.args.d.now c.args.name.now c.args.entries.now c.requires.d_value.0 c.requires.d_len_bound.0 c.requires.d_len_bound.1 c.requires.d_value_2

pub next_named-requires : goal.next_named-requires
next_named-requires c =
    (part-readable c.args.d.now c.loop-value.i c.loop-value.invariant.readable)

pub shape_of-entries-in_default : goal.shape_of-entries-in_default
shape_of-entries-in_default c =
    c.loop-value.invariant.adding.long

pub returns-in_default : goal.returns-in_default
returns-in_default c =
    let e = value-told c.args.d.now c.args.name.now c.loop-value.i c.next_named.result c.next_named.ensures c.in_default.is in
    list-end c.args.d.now c.args.name.now c.args.entries.now c.loop-value.entries c.loop-value.n c.loop-value.i c.loop-value.invariant e

pub overflow_add-i : goal.overflow_add-i
overflow_add-i c =
    let h = value-told c.args.d.now c.args.name.now c.loop-value.i c.next_named.result c.next_named.ensures c.in-Some.is in
    omega (arith, h.value_there)

pub add_value-n-requires : goal.add_value-n-requires
add_value-n-requires c =
    let h = value-told c.args.d.now c.args.name.now c.loop-value.i c.next_named.result c.next_named.ensures c.in-Some.is in
    record { i_in_bounds = (omega (arith, h.value_there), c.requires.d_value.1); d_bound = (list-few c.args.d.now c.args.name.now c.args.entries.now c.loop-value.entries c.loop-value.n c.loop-value.i c.loop-value.invariant _ _ h, list-room c.args.d.now c.args.name.now c.args.entries.now c.loop-value.entries c.loop-value.n c.loop-value.i c.loop-value.invariant _ _ h); d_value = list-names c.args.d.now c.args.name.now c.args.entries.now c.loop-value.entries c.loop-value.n c.loop-value.i c.loop-value.invariant _ _ h }

pub overflow_add-i-in-loop-value : goal.overflow_add-i-in-loop-value
overflow_add-i-in-loop-value c =
    let h = value-told c.args.d.now c.args.name.now c.loop-value.i c.next_named.result c.next_named.ensures c.in-Some.is in
    omega (arith, h.inside)

pub loop-value-smaller : goal.loop-value-smaller
loop-value-smaller c =
    let h = value-told c.args.d.now c.args.name.now c.loop-value.i c.next_named.result c.next_named.ensures c.in-Some.is in
    omega (arith, h.moves, h.inside)

pub loop-value-preserved : goal.loop-value-preserved
loop-value-preserved c =
    let h = value-told c.args.d.now c.args.name.now c.loop-value.i c.next_named.result c.next_named.ensures c.in-Some.is in
    list-more c.args.d.now c.args.name.now c.args.entries.now c.loop-value.entries c.loop-value.n c.loop-value.i c.loop-value.invariant _ _ h _ _ c.add_value-n.ensures
