use Prim.Native.Nat.{◌-◌}
use native.Mathlib.Omega.{arith}
use mathlib.Core.Path.{refl}
use lib.ListN.{length-set}
use Rattle.format.specs.Bytes.{text}
use Rattle.records.proofs.Readings.{part-readable}
use Rattle.records.proofs.Named.{value-told}
use Rattle.typedefs.proofs.Placing.{passed_start, passed-inside, passed-more}
use Rattle.dictionary.proofs.Typing.{row-none, rows_few}
use Rattle.columns.proofs.Filling.{filled_more, type-fits, end-typed, row-kind}
use Rattle.columns.proofs.fill.Goals as goal

pub loop-value-init : goal.loop-value-init
loop-value-init c =
    (passed_start c.args.d.now (text "%type") c.requires.described.0.reads, omega arith, refl, refl, refl, λ k l. absurd (omega arith))

pub next_named-requires : goal.next_named-requires
next_named-requires c =
    part-readable c.args.d.now c.loop-value.i c.loop-value.invariant.0.readable

pub shape_of-scratch-in_default : goal.shape_of-scratch-in_default
shape_of-scratch-in_default c =
    c.loop-value.invariant.2

pub returns-in_default : goal.returns-in_default
returns-in_default c =
    let d = c.args.d.now in
    let e = value-told d (text "%type") c.loop-value.i c.next_named.result c.next_named.ensures c.in_default.is in
    let n = row-none d c.loop-value.count c.loop-value.i c.loop-value.invariant.0 e in
    let few = rows_few d c.requires.described.0 in
    record { few = omega (arith, c.loop-value.invariant.1); count = omega (arith, c.loop-value.invariant.1); rows_long = c.loop-value.invariant.3; texts-long = c.loop-value.invariant.4; row = c.loop-value.invariant.5 }

pub overflow_add-i : goal.overflow_add-i
overflow_add-i c =
    let h = value-told c.args.d.now (text "%type") c.loop-value.i c.next_named.result c.next_named.ensures c.in-Some.is in
    omega (arith, h.value_there)

pub read_typedef-own-requires : goal.read_typedef-own-requires
read_typedef-own-requires c =
    let d = c.args.d.now in
    let h = value-told d (text "%type") c.loop-value.i c.next_named.result c.next_named.ensures c.in-Some.is in
    let l = type-fits d c.requires.described.0 c.loop-value.count c.loop-value.i _ _ c.loop-value.invariant.0 h in
    record { are_names = c.requires.described.1; value_in_bounds = (omega (arith, h.value_there), omega (arith, l, c.loop-value.invariant.2, c.requires.value_bytes_in_bounds)) }

pub end_of-t-requires : goal.end_of-t-requires
end_of-t-requires c =
    (c.requires.described.2.bounded, c.requires.described.2.long)

pub shape_of-kind-requires-in-loop-value : goal.shape_of-kind-requires-in-loop-value
shape_of-kind-requires-in-loop-value c =
    let d = c.args.d.now in
    let h = value-told d (text "%type") c.loop-value.i c.next_named.result c.next_named.ensures c.in-Some.is in
    end-typed d c.requires.described.0 c.loop-value.count c.loop-value.i _ _ c.loop-value.invariant.0 h c.args.names c.requires.described.1 c.args.defs c.requires.described.2 c.read_typedef-own.result c.read_typedef-own.ensures c.end_of-t.result c.end_of-t.ensures

pub offset_bounds-rows-count : goal.offset_bounds-rows-count
offset_bounds-rows-count c =
    let d = c.args.d.now in
    let h = value-told d (text "%type") c.loop-value.i c.next_named.result c.next_named.ensures c.in-Some.is in
    omega (arith, passed-inside d (text "%type") c.loop-value.count c.loop-value.i c.loop-value.invariant.0 _ _ h, rows_few d c.requires.described.0)

pub bounds-rows-count : goal.bounds-rows-count
bounds-rows-count c =
    let d = c.args.d.now in
    let h = value-told d (text "%type") c.loop-value.i c.next_named.result c.next_named.ensures c.in-Some.is in
    omega (arith, passed-inside d (text "%type") c.loop-value.count c.loop-value.i c.loop-value.invariant.0 _ _ h, rows_few d c.requires.described.0)

pub offset_bounds-texts-count : goal.offset_bounds-texts-count
offset_bounds-texts-count c =
    let d = c.args.d.now in
    let h = value-told d (text "%type") c.loop-value.i c.next_named.result c.next_named.ensures c.in-Some.is in
    omega (arith, passed-inside d (text "%type") c.loop-value.count c.loop-value.i c.loop-value.invariant.0 _ _ h, rows_few d c.requires.described.0)

pub bounds-texts-count : goal.bounds-texts-count
bounds-texts-count c =
    let d = c.args.d.now in
    let h = value-told d (text "%type") c.loop-value.i c.next_named.result c.next_named.ensures c.in-Some.is in
    omega (arith, passed-inside d (text "%type") c.loop-value.count c.loop-value.i c.loop-value.invariant.0 _ _ h, rows_few d c.requires.described.0)

pub overflow_add-count : goal.overflow_add-count
overflow_add-count c =
    let d = c.args.d.now in
    let h = value-told d (text "%type") c.loop-value.i c.next_named.result c.next_named.ensures c.in-Some.is in
    omega (arith, passed-inside d (text "%type") c.loop-value.count c.loop-value.i c.loop-value.invariant.0 _ _ h, rows_few d c.requires.described.0)

pub overflow_add-i-in-loop-value : goal.overflow_add-i-in-loop-value
overflow_add-i-in-loop-value c =
    let h = value-told c.args.d.now (text "%type") c.loop-value.i c.next_named.result c.next_named.ensures c.in-Some.is in
    omega (arith, h.inside, c.well_formed.0.0)

pub loop-value-smaller : goal.loop-value-smaller
loop-value-smaller c =
    let h = value-told c.args.d.now (text "%type") c.loop-value.i c.next_named.result c.next_named.ensures c.in-Some.is in
    omega (arith, h.moves, h.inside)

pub loop-value-preserved : goal.loop-value-preserved
loop-value-preserved c =
    let d = c.args.d.now in
    let h = value-told d (text "%type") c.loop-value.i c.next_named.result c.next_named.ensures c.in-Some.is in
    let b = c.loop-value.invariant.0 in
    let l = passed-inside d (text "%type") c.loop-value.count c.loop-value.i b _ _ h in
    let few = rows_few d c.requires.described.0 in
    let k = row-kind d c.requires.described.0 c.loop-value.count c.loop-value.i _ _ b h c.args.names c.requires.described.1 c.args.defs c.requires.described.2 c.read_typedef-own.result c.read_typedef-own.ensures c.end_of-t.result c.end_of-t.ensures c.shape_of-kind.result c.text_of.result c.shape_of-kind.ensures c.text_of.ensures in
    (passed-more d (text "%type") c.loop-value.count c.loop-value.i b _ _ h, omega (arith, l), omega (arith, c.read_typedef-own.auto.scratch, c.loop-value.invariant.2), simp length-set c.loop-value.invariant.3, simp length-set c.loop-value.invariant.4, filled_more d c.loop-value.rows c.loop-value.texts c.loop-value.count (record { kind = c.shape_of-kind.result }) c.text_of.result (omega (arith, l, c.loop-value.invariant.3)) (omega (arith, l, c.loop-value.invariant.4)) k c.loop-value.invariant.5)
