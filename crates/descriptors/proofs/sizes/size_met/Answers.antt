use borrow.Author.Tests.{leb-true, not-true, not-false}
use Prim.Native.Nat.{◌+◌}
use native.Mathlib.Omega.{arith}
use mathlib.Core.Path.{refl, sym, ap, ◌∙◌}
use lib.ListN.{length}
use Rattle.format.specs.Bytes.{text, all}
use Rattle.format.specs.Limits.{value_bytes}
use Rattle.values.specs.Value.{value_from}
use Rattle.words.specs.Spans.{span}
use Rattle.records.specs.Walk.{record_in}
use Rattle.records.specs.Named.{values_from}
use Rattle.records.proofs.Readings.{part-readable}
use Rattle.records.proofs.Named.{value-told}
use Rattle.descriptors.proofs.Folds.{all_more, all-stop, all_both}
use Rattle.descriptors.proofs.Limits.{fits-fields, is_short, values-short}
use mathlib.Core.Bool.{not}
use Rattle.descriptors.proofs.sizes.size_met.Invariants.{is_met}
use Rattle.descriptors.proofs.sizes.size_met.Goals as goal

pub loop-value-init : goal.loop-value-init
loop-value-init c =
    (omega arith, c.requires.d_value, values-short (text "%size") (record_in c.args.d.now) (fits-fields (record_in c.args.d.now) c.requires.d_value_2), refl, refl)

pub next_named-requires : goal.next_named-requires
next_named-requires c =
    (part-readable c.args.d.now c.loop-value.i c.loop-value.invariant.1)

pub shape_of-scratch-in_default : goal.shape_of-scratch-in_default
shape_of-scratch-in_default c =
    c.loop-value.invariant.3

pub returns-in_default : goal.returns-in_default
returns-in_default c =
    let none = value-told c.args.d.now (text "%size") c.loop-value.i c.next_named.result c.next_named.ensures c.in_default.is in
    (sym (c.loop-value.invariant.4 ∙ ap (all (is_met c.args.count)) none), c.loop-value.invariant.3)

pub overflow_add-i : goal.overflow_add-i
overflow_add-i c =
    let v = value-told c.args.d.now (text "%size") c.loop-value.i c.next_named.result c.next_named.ensures c.in-Some.is in
    omega (arith, v.within, v.inside)

pub overflow_add-i-in-loop-value : goal.overflow_add-i-in-loop-value
overflow_add-i-in-loop-value c =
    let v = value-told c.args.d.now (text "%size") c.loop-value.i c.next_named.result c.next_named.ensures c.in-Some.is in
    omega (arith, v.inside)

pub slice_bounds-value_met-count : goal.slice_bounds-value_met-count
slice_bounds-value_met-count c =
    let v = value-told c.args.d.now (text "%size") c.loop-value.i c.next_named.result c.next_named.ensures c.in-Some.is in
    omega (arith, v.within)

pub slice_bounds-value_met-start : goal.slice_bounds-value_met-start
slice_bounds-value_met-start c =
    let v = value-told c.args.d.now (text "%size") c.loop-value.i c.next_named.result c.next_named.ensures c.in-Some.is in
    omega (arith, v.within, v.inside)

pub slice_bounds-value_met-end : goal.slice_bounds-value_met-end
slice_bounds-value_met-end c =
    let v = value-told c.args.d.now (text "%size") c.loop-value.i c.next_named.result c.next_named.ensures c.in-Some.is in
    omega (arith, v.inside)

pub value_met-requires : goal.value_met-requires
value_met-requires c =
    let v = value-told c.args.d.now (text "%size") c.loop-value.i c.next_named.result c.next_named.ensures c.in-Some.is in
    let h = all_both is_short (values_from c.args.d.now (text "%size") c.loop-value.i) _ _ v.values c.loop-value.invariant.2 in
    omega (arith, leb-true (length (value_from (span (c.loop-value.i + c.in-Some.field-0.value) (c.loop-value.i + c.in-Some.field-0.end) c.args.d.now))) value_bytes h.0, c.requires.value_bytes_in_bounds, c.loop-value.invariant.3)

pub shape_of-scratch-then-not-value_met : goal.shape_of-scratch-then-not-value_met
shape_of-scratch-then-not-value_met c =
    c.value_met.ensures.1 ∙ c.loop-value.invariant.3

pub returns-then-not-value_met : goal.returns-then-not-value_met
returns-then-not-value_met c =
    let v = value-told c.args.d.now (text "%size") c.loop-value.i c.next_named.result c.next_named.ensures c.in-Some.is in
    (sym (c.loop-value.invariant.4 ∙ all-stop (is_met c.args.count) (values_from c.args.d.now (text "%size") c.loop-value.i) _ _ v.values (sym c.value_met.ensures.0 ∙ not-true c.value_met.result (ap not c.if-not-value_met.true))), c.value_met.ensures.1 ∙ c.loop-value.invariant.3)

pub overflow_add-i-in-loop-value-2 : goal.overflow_add-i-in-loop-value-2
overflow_add-i-in-loop-value-2 c =
    let v = value-told c.args.d.now (text "%size") c.loop-value.i c.next_named.result c.next_named.ensures c.in-Some.is in
    omega (arith, v.inside)

pub loop-value-smaller : goal.loop-value-smaller
loop-value-smaller c =
    let v = value-told c.args.d.now (text "%size") c.loop-value.i c.next_named.result c.next_named.ensures c.in-Some.is in
    omega (arith, v.moves, v.inside)

pub loop-value-preserved : goal.loop-value-preserved
loop-value-preserved c =
    let v = value-told c.args.d.now (text "%size") c.loop-value.i c.next_named.result c.next_named.ensures c.in-Some.is in
    let vs = values_from c.args.d.now (text "%size") c.loop-value.i in
    let h = all_both is_short vs _ _ v.values c.loop-value.invariant.2 in
    (v.inside, v.readable, h.1, c.value_met.ensures.1 ∙ c.loop-value.invariant.3, c.loop-value.invariant.4 ∙ all_more (is_met c.args.count) vs _ _ v.values (sym c.value_met.ensures.0 ∙ not-false c.value_met.result (ap not c.if-not-value_met.false)))
