use Prim.Native.Nat.{◌-◌}
use native.Mathlib.Omega.{arith}
use mathlib.Core.Path.{refl, ◌∙◌}
use lib.ListN.{length-set}
use Rattle.records.proofs.Readings.{part-readable}
use Rattle.records.proofs.Named.{value-told}
use Rattle.keys.proofs.Gathering.{enters-start, enters-end, enters-room, enters-more}
use Rattle.keys.proofs.gather.Goals as goal

pub loop-value-init : goal.loop-value-init
loop-value-init c =
    (refl, omega arith, enters-start c.args.name.now c.args.s.now c.args.entries.now c.requires.s_value.0 c.requires.s_in_bounds)

pub next_named-requires : goal.next_named-requires
next_named-requires c =
    (part-readable c.args.s.now c.loop-value.i c.loop-value.invariant.2.readable)

pub shape_of-entries-in_default : goal.shape_of-entries-in_default
shape_of-entries-in_default c =
    c.loop-value.invariant.0

pub returns-in_default : goal.returns-in_default
returns-in_default c =
    enters-end c.args.name.now c.args.s.now c.loop-value.entries c.loop-value.n c.loop-value.i c.loop-value.invariant.2 (value-told c.args.s.now c.args.name.now c.loop-value.i c.next_named.result c.next_named.ensures c.in_default.is)

pub overflow_add-i : goal.overflow_add-i
overflow_add-i c =
    let h = value-told c.args.s.now c.args.name.now c.loop-value.i c.next_named.result c.next_named.ensures c.in-Some.is in
    omega (arith, h.value_there, c.requires.s_value.1)

pub entry-requires : goal.entry-requires
entry-requires c =
    let h = value-told c.args.s.now c.args.name.now c.loop-value.i c.next_named.result c.next_named.ensures c.in-Some.is in
    (omega (arith, h.value_there, c.requires.s_value.1), omega (arith, h.value_there))

pub offset_bounds-entries-n : goal.offset_bounds-entries-n
offset_bounds-entries-n c =
    omega (arith, c.loop-value.invariant.1, c.loop-value.invariant.2.inside, c.requires.s_value.1)

pub bounds-entries-n : goal.bounds-entries-n
bounds-entries-n c =
    let h = value-told c.args.s.now c.args.name.now c.loop-value.i c.next_named.result c.next_named.ensures c.in-Some.is in
    omega (arith, enters-room c.args.name.now c.args.s.now c.loop-value.entries c.loop-value.n c.loop-value.i c.loop-value.invariant.2 _ _ h)

pub overflow_add-n : goal.overflow_add-n
overflow_add-n c =
    omega (arith, c.loop-value.invariant.1, c.loop-value.invariant.2.inside, c.requires.s_value.1)

pub overflow_add-i-in-loop-value : goal.overflow_add-i-in-loop-value
overflow_add-i-in-loop-value c =
    let h = value-told c.args.s.now c.args.name.now c.loop-value.i c.next_named.result c.next_named.ensures c.in-Some.is in
    omega (arith, h.inside)

pub loop-value-smaller : goal.loop-value-smaller
loop-value-smaller c =
    let h = value-told c.args.s.now c.args.name.now c.loop-value.i c.next_named.result c.next_named.ensures c.in-Some.is in
    omega (arith, h.moves, h.inside)

pub loop-value-preserved : goal.loop-value-preserved
loop-value-preserved c =
    let h = value-told c.args.s.now c.args.name.now c.loop-value.i c.next_named.result c.next_named.ensures c.in-Some.is in
    (length-set c.loop-value.entries c.loop-value.n c.entry.result ∙ c.loop-value.invariant.0, omega (arith, c.loop-value.invariant.1, h.moves), enters-more c.args.name.now c.args.s.now c.loop-value.entries c.loop-value.n c.loop-value.i c.loop-value.invariant.2 _ _ h c.entry.result c.requires.s_value.1 c.entry.ensures)
