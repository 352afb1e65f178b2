use Rattle.std.proofs.Common.{rules, tests}
use Rattle.format.specs.Words.{is_gap}
use native.Mathlib.Omega.{arith}
use mathlib.Core.Path.{refl}
use lib.ListN.{length-set}
use Rattle.format.specs.Bytes.{text}
use Rattle.records.proofs.Readings.{part-readable}
use Rattle.records.proofs.Named.{value-told}
use Rattle.typedefs.proofs.Placing.{placed-start, placed_end, start-inside, placed-more, passed-inside}
use Rattle.typedefs.proofs.add_names.Goals as goal

pub loop-value-init : goal.loop-value-init
loop-value-init c =
    (placed-start c.args.d.now c.args.entries.now _ c.requires.d_value.0 refl c.requires.text_len_bound.1, omega arith, refl)

pub next_named-requires : goal.next_named-requires
next_named-requires c =
    (part-readable c.args.d.now c.loop-value.i c.loop-value.invariant.0.passed.readable)

pub shape_of-entries-in_default : goal.shape_of-entries-in_default
shape_of-entries-in_default c =
    c.loop-value.invariant.2

pub returns-in_default : goal.returns-in_default
returns-in_default c =
    placed_end c.args.d.now c.args.entries.now c.loop-value.rows c.loop-value.entries c.loop-value.count c.loop-value.i c.loop-value.invariant.0 c.requires.text_len_bound.0 c.loop-value.invariant.1 (value-told c.args.d.now (text "%typedef") c.loop-value.i c.next_named.result c.next_named.ensures c.in_default.is)

pub overflow_add-a : goal.overflow_add-a
overflow_add-a c =
    let h = value-told c.args.d.now (text "%typedef") c.loop-value.i c.next_named.result c.next_named.ensures c.in-Some.is in
    omega (arith, h.value_there)

pub pass-at-requires-clause-i_in_bounds : goal.pass-at-requires-clause-i_in_bounds
pass-at-requires-clause-i_in_bounds c =
    let h = value-told c.args.d.now (text "%typedef") c.loop-value.i c.next_named.result c.next_named.ensures c.in-Some.is in
    omega (arith, h.value_there)

pub offset_bounds-rows-count : goal.offset_bounds-rows-count
offset_bounds-rows-count c =
    let h = value-told c.args.d.now (text "%typedef") c.loop-value.i c.next_named.result c.next_named.ensures c.in-Some.is in
    omega (arith, passed-inside c.args.d.now (text "%typedef") c.loop-value.count c.loop-value.i c.loop-value.invariant.0.passed _ _ h, c.requires.text_len_bound.0)

pub bounds-rows-count : goal.bounds-rows-count
bounds-rows-count c =
    let h = value-told c.args.d.now (text "%typedef") c.loop-value.i c.next_named.result c.next_named.ensures c.in-Some.is in
    omega (arith, passed-inside c.args.d.now (text "%typedef") c.loop-value.count c.loop-value.i c.loop-value.invariant.0.passed _ _ h, c.requires.text_len_bound.0)

pub overflow_cast-count : goal.overflow_cast-count
overflow_cast-count c =
    let h = value-told c.args.d.now (text "%typedef") c.loop-value.i c.next_named.result c.next_named.ensures c.in-Some.is in
    omega (arith, passed-inside c.args.d.now (text "%typedef") c.loop-value.count c.loop-value.i c.loop-value.invariant.0.passed _ _ h, c.requires.text_len_bound.0)

pub entry-requires : goal.entry-requires
entry-requires c =
    let h = value-told c.args.d.now (text "%typedef") c.loop-value.i c.next_named.result c.next_named.ensures c.in-Some.is in
    (omega (arith, start-inside c.args.d.now c.args.entries.now c.loop-value.rows c.loop-value.entries c.loop-value.count c.loop-value.i c.loop-value.invariant.0 _ _ h c.pass-at.result (c.pass-at.ensures.passed is_gap (λ b r k. search (rules, tests))), c.requires.d_value.1), omega (arith, passed-inside c.args.d.now (text "%typedef") c.loop-value.count c.loop-value.i c.loop-value.invariant.0.passed _ _ h, c.requires.text_len_bound.0))

pub offset_bounds-entries-count : goal.offset_bounds-entries-count
offset_bounds-entries-count c =
    let h = value-told c.args.d.now (text "%typedef") c.loop-value.i c.next_named.result c.next_named.ensures c.in-Some.is in
    omega (arith, passed-inside c.args.d.now (text "%typedef") c.loop-value.count c.loop-value.i c.loop-value.invariant.0.passed _ _ h, c.requires.text_len_bound.0)

pub bounds-entries-count : goal.bounds-entries-count
bounds-entries-count c =
    let h = value-told c.args.d.now (text "%typedef") c.loop-value.i c.next_named.result c.next_named.ensures c.in-Some.is in
    omega (arith, passed-inside c.args.d.now (text "%typedef") c.loop-value.count c.loop-value.i c.loop-value.invariant.0.passed _ _ h, c.requires.text_len_bound.0, c.requires.text_len_bound.2, c.loop-value.invariant.2)

pub overflow_add-count : goal.overflow_add-count
overflow_add-count c =
    let h = value-told c.args.d.now (text "%typedef") c.loop-value.i c.next_named.result c.next_named.ensures c.in-Some.is in
    omega (arith, passed-inside c.args.d.now (text "%typedef") c.loop-value.count c.loop-value.i c.loop-value.invariant.0.passed _ _ h, c.requires.text_len_bound.0)

pub overflow_add-i : goal.overflow_add-i
overflow_add-i c =
    let h = value-told c.args.d.now (text "%typedef") c.loop-value.i c.next_named.result c.next_named.ensures c.in-Some.is in
    omega (arith, h.inside)

pub loop-value-smaller : goal.loop-value-smaller
loop-value-smaller c =
    let h = value-told c.args.d.now (text "%typedef") c.loop-value.i c.next_named.result c.next_named.ensures c.in-Some.is in
    omega (arith, h.moves, h.inside)

pub loop-value-preserved : goal.loop-value-preserved
loop-value-preserved c =
    let h = value-told c.args.d.now (text "%typedef") c.loop-value.i c.next_named.result c.next_named.ensures c.in-Some.is in
    let l = passed-inside c.args.d.now (text "%typedef") c.loop-value.count c.loop-value.i c.loop-value.invariant.0.passed _ _ h in
    (placed-more c.args.d.now c.args.entries.now c.loop-value.rows c.loop-value.entries c.loop-value.count c.loop-value.i c.loop-value.invariant.0 _ _ h c.pass-at.result (c.pass-at.ensures.passed is_gap (λ b r k. search (rules, tests))) (omega (arith, l, c.requires.text_len_bound.0, c.requires.text_len_bound.2, c.loop-value.invariant.2)) (omega (arith, l, c.requires.text_len_bound.0)) c.entry.result c.entry.ensures.1 c.entry.ensures.2, omega (arith, l), simp length-set c.loop-value.invariant.2)
