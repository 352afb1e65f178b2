use Prim.Native.Nat.{◌-◌}
use native.Mathlib.Omega.{arith}
use mathlib.Core.Path.{sym, ◌∙◌}
use lib.ListN.{length, drop, length-take, length-drop}
use borrow.Author.Tests.{not-true, not-false}
use Rattle.records.specs.Fields.{fields_from, field_between}
use Rattle.records.proofs.Readings.{part-readable}
use Rattle.merging.proofs.Twinning.{twins-end, twins-short, twins-names, twins-values, twins-again}
use mathlib.Core.Bool.{not}
use mathlib.Core.Path.{ap}
use Rattle.merging.proofs.twins.are_twins.Goals as goal

pub returns-in_default : goal.returns-in_default
returns-in_default c =
    c.is_last.ensures ∙ twins-end c.loop-f.p.now 0 c.loop-f.q.now 0 c.next_field-y.result c.in_default.ensures c.next_field-y.ensures ∙ sym c.loop-f.invariant.2

pub returns-in_default-y : goal.returns-in_default-y
returns-in_default-y c =
    let h = c.in-Some.ensures in twins-short c.loop-f.p.now 0 c.loop-f.q.now 0 (field_between c.loop-f.p.now c.in-Some.f.start c.in-Some.f.named c.in-Some.f.value c.in-Some.f.end) (fields_from c.loop-f.p.now c.in-Some.f.end) h.fields c.in_default-y.ensures ∙ sym c.loop-f.invariant.2

pub slice_bounds-same_bytes-count : goal.slice_bounds-same_bytes-count
slice_bounds-same_bytes-count c =
    let h = c.in-Some.ensures in omega (arith, h.named, h.name-inside, h.inside)

pub slice_bounds-same_bytes-start : goal.slice_bounds-same_bytes-start
slice_bounds-same_bytes-start c =
    let h = c.in-Some.ensures in omega (arith, h.named, h.name-inside, h.inside)

pub slice_bounds-same_bytes-end : goal.slice_bounds-same_bytes-end
slice_bounds-same_bytes-end c =
    let h = c.in-Some.ensures in omega (arith, h.named, h.name-inside, h.inside)

pub slice_bounds-same_bytes-count-in-loop-f : goal.slice_bounds-same_bytes-count-in-loop-f
slice_bounds-same_bytes-count-in-loop-f c =
    let h = c.in-Some-y.ensures in omega (arith, h.named, h.name-inside, h.inside)

pub slice_bounds-same_bytes-start-in-loop-f : goal.slice_bounds-same_bytes-start-in-loop-f
slice_bounds-same_bytes-start-in-loop-f c =
    let h = c.in-Some-y.ensures in omega (arith, h.named, h.name-inside, h.inside)

pub slice_bounds-same_bytes-end-in-loop-f : goal.slice_bounds-same_bytes-end-in-loop-f
slice_bounds-same_bytes-end-in-loop-f c =
    let h = c.in-Some-y.ensures in omega (arith, h.named, h.name-inside, h.inside)

pub returns-then-not-same_bytes : goal.returns-then-not-same_bytes
returns-then-not-same_bytes c =
    let h = c.in-Some.ensures in let k = c.in-Some-y.ensures in twins-names c.loop-f.p.now 0 c.loop-f.q.now 0 (field_between c.loop-f.p.now c.in-Some.f.start c.in-Some.f.named c.in-Some.f.value c.in-Some.f.end) (field_between c.loop-f.q.now c.in-Some-y.g.start c.in-Some-y.g.named c.in-Some-y.g.value c.in-Some-y.g.end) (fields_from c.loop-f.p.now c.in-Some.f.end) (fields_from c.loop-f.q.now c.in-Some-y.g.end) h.fields k.fields (sym c.same_bytes.ensures ∙ not-true c.same_bytes.result (ap not c.if-not-same_bytes.true)) ∙ sym c.loop-f.invariant.2

pub slice_bounds-are_equal-count : goal.slice_bounds-are_equal-count
slice_bounds-are_equal-count c =
    let h = c.in-Some.ensures in omega (arith, h.value-inside, h.inside)

pub slice_bounds-are_equal-start : goal.slice_bounds-are_equal-start
slice_bounds-are_equal-start c =
    let h = c.in-Some.ensures in omega (arith, h.value-inside, h.inside)

pub slice_bounds-are_equal-end : goal.slice_bounds-are_equal-end
slice_bounds-are_equal-end c =
    let h = c.in-Some.ensures in omega (arith, h.value-inside, h.inside)

pub slice_bounds-are_equal-count-in-loop-f : goal.slice_bounds-are_equal-count-in-loop-f
slice_bounds-are_equal-count-in-loop-f c =
    let h = c.in-Some-y.ensures in omega (arith, h.value-inside, h.inside)

pub slice_bounds-are_equal-start-in-loop-f : goal.slice_bounds-are_equal-start-in-loop-f
slice_bounds-are_equal-start-in-loop-f c =
    let h = c.in-Some-y.ensures in omega (arith, h.value-inside, h.inside)

pub slice_bounds-are_equal-end-in-loop-f : goal.slice_bounds-are_equal-end-in-loop-f
slice_bounds-are_equal-end-in-loop-f c =
    let h = c.in-Some-y.ensures in omega (arith, h.value-inside, h.inside)

pub returns-then-not-are_equal : goal.returns-then-not-are_equal
returns-then-not-are_equal c =
    let h = c.in-Some.ensures in let k = c.in-Some-y.ensures in twins-values c.loop-f.p.now 0 c.loop-f.q.now 0 (field_between c.loop-f.p.now c.in-Some.f.start c.in-Some.f.named c.in-Some.f.value c.in-Some.f.end) (field_between c.loop-f.q.now c.in-Some-y.g.start c.in-Some-y.g.named c.in-Some-y.g.value c.in-Some-y.g.end) (fields_from c.loop-f.p.now c.in-Some.f.end) (fields_from c.loop-f.q.now c.in-Some-y.g.end) h.fields k.fields (sym c.same_bytes.ensures ∙ not-false c.same_bytes.result (ap not c.if-not-same_bytes.false)) (sym c.are_equal.ensures ∙ not-true c.are_equal.result (ap not c.if-not-are_equal.true)) ∙ sym c.loop-f.invariant.2

pub slice_bounds-p-count : goal.slice_bounds-p-count
slice_bounds-p-count c =
    let h = c.in-Some.ensures in omega (arith, h.inside)

pub slice_bounds-p-start : goal.slice_bounds-p-start
slice_bounds-p-start c =
    let h = c.in-Some.ensures in omega (arith, h.inside)

pub slice_bounds-p-end : goal.slice_bounds-p-end
slice_bounds-p-end c =
    let h = c.in-Some.ensures in omega (arith, h.inside)

pub slice_bounds-q-count : goal.slice_bounds-q-count
slice_bounds-q-count c =
    let h = c.in-Some-y.ensures in omega (arith, h.inside)

pub slice_bounds-q-start : goal.slice_bounds-q-start
slice_bounds-q-start c =
    let h = c.in-Some-y.ensures in omega (arith, h.inside)

pub slice_bounds-q-end : goal.slice_bounds-q-end
slice_bounds-q-end c =
    let h = c.in-Some-y.ensures in omega (arith, h.inside)

pub loop-f-smaller : goal.loop-f-smaller
loop-f-smaller c =
    let h = c.in-Some.ensures in omega (arith, h.begins, h.moves, h.inside, length-take (length c.loop-f.p.now - c.in-Some.f.end) (drop c.in-Some.f.end c.loop-f.p.now), length-drop c.in-Some.f.end c.loop-f.p.now)

pub loop-f-preserved : goal.loop-f-preserved
loop-f-preserved c =
    let h = c.in-Some.ensures in let k = c.in-Some-y.ensures in (part-readable c.loop-f.p.now c.in-Some.f.end h.readable, part-readable c.loop-f.q.now c.in-Some-y.g.end k.readable, c.loop-f.invariant.2 ∙ twins-again c.loop-f.p.now c.loop-f.q.now c.in-Some.f.start c.in-Some.f.named c.in-Some.f.value c.in-Some.f.end c.in-Some-y.g.start c.in-Some-y.g.named c.in-Some-y.g.value c.in-Some-y.g.end h k (sym c.same_bytes.ensures ∙ not-false c.same_bytes.result (ap not c.if-not-same_bytes.false)) (sym c.are_equal.ensures ∙ not-false c.are_equal.result (ap not c.if-not-are_equal.false)))
