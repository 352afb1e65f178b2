use native.Mathlib.Omega.{arith}
use mathlib.Core.Path.{sym, subst, ◌∙◌}
use Rattle.records.specs.Named.{NamedNext}
use Rattle.records.proofs.Readings.{part-readable}
use Rattle.records.proofs.NextFields.{next-told}
use Rattle.records.proofs.Named.{unnamed-none, unnamed-on, named-missing, named_here}
use Rattle.records.proofs.next_named.Goals as goal

pub loop-f-init : goal.loop-f-init
loop-f-init c =
    (omega arith, c.requires, unnamed-none c.args.s.now c.args.name.now)

pub next_field-requires : goal.next_field-requires
next_field-requires c =
    (part-readable c.args.s.now c.loop-f.i c.loop-f.invariant.1)

pub returns-in_err-f : goal.returns-in_err-f
returns-in_err-f c =
    subst (NamedNext c.args.s.now c.args.name.now 0) (sym c.from_residual.ensures) (named-missing c.args.s.now c.args.name.now c.loop-f.i c.loop-f.invariant.2 (next-told c.args.s.now c.loop-f.i c.next_field.result c.next_field.ensures c.in_err-f.was))

pub overflow_add-i : goal.overflow_add-i
overflow_add-i c =
    let h = next-told c.args.s.now c.loop-f.i c.next_field.result c.next_field.ensures c.in_ok-f.was in
    omega (arith, h.named, h.name-inside, h.inside)

pub overflow_add-i-in-loop-f : goal.overflow_add-i-in-loop-f
overflow_add-i-in-loop-f c =
    let h = next-told c.args.s.now c.loop-f.i c.next_field.result c.next_field.ensures c.in_ok-f.was in
    omega (arith, h.name-inside, h.inside)

pub slice_bounds-same_bytes-count : goal.slice_bounds-same_bytes-count
slice_bounds-same_bytes-count c =
    let h = next-told c.args.s.now c.loop-f.i c.next_field.result c.next_field.ensures c.in_ok-f.was in
    omega (arith, h.named)

pub slice_bounds-same_bytes-start : goal.slice_bounds-same_bytes-start
slice_bounds-same_bytes-start c =
    let h = next-told c.args.s.now c.loop-f.i c.next_field.result c.next_field.ensures c.in_ok-f.was in
    omega (arith, h.named, h.name-inside, h.inside)

pub slice_bounds-same_bytes-end : goal.slice_bounds-same_bytes-end
slice_bounds-same_bytes-end c =
    let h = next-told c.args.s.now c.loop-f.i c.next_field.result c.next_field.ensures c.in_ok-f.was in
    omega (arith, h.named, h.name-inside, h.inside)

pub overflow_add-result : goal.overflow_add-result
overflow_add-result c =
    let h = next-told c.args.s.now c.loop-f.i c.next_field.result c.next_field.ensures c.in_ok-f.was in
    omega (arith, h.named, h.name-inside, h.inside)

pub overflow_add-result-then-same_bytes : goal.overflow_add-result-then-same_bytes
overflow_add-result-then-same_bytes c =
    let h = next-told c.args.s.now c.loop-f.i c.next_field.result c.next_field.ensures c.in_ok-f.was in
    omega (arith, h.value-inside, h.inside)

pub overflow_add-result-then-same_bytes-2 : goal.overflow_add-result-then-same_bytes-2
overflow_add-result-then-same_bytes-2 c =
    let h = next-told c.args.s.now c.loop-f.i c.next_field.result c.next_field.ensures c.in_ok-f.was in
    omega (arith, h.inside)

pub returns-then-same_bytes : goal.returns-then-same_bytes
returns-then-same_bytes c =
    let h = next-told c.args.s.now c.loop-f.i c.next_field.result c.next_field.ensures c.in_ok-f.was in
    named_here c.args.s.now c.args.name.now c.loop-f.i c.loop-f.invariant.2 _ _ _ _ h (sym c.same_bytes.ensures ∙ c.if-same_bytes.true)

pub overflow_add-i-in-loop-f-2 : goal.overflow_add-i-in-loop-f-2
overflow_add-i-in-loop-f-2 c =
    let h = next-told c.args.s.now c.loop-f.i c.next_field.result c.next_field.ensures c.in_ok-f.was in
    omega (arith, h.inside)

pub loop-f-smaller : goal.loop-f-smaller
loop-f-smaller c =
    let h = next-told c.args.s.now c.loop-f.i c.next_field.result c.next_field.ensures c.in_ok-f.was in
    omega (arith, h.begins, h.moves, h.inside)

pub loop-f-preserved : goal.loop-f-preserved
loop-f-preserved c =
    let h = next-told c.args.s.now c.loop-f.i c.next_field.result c.next_field.ensures c.in_ok-f.was in
    (h.inside, h.readable, unnamed-on c.args.s.now c.args.name.now c.loop-f.i c.loop-f.invariant.2 _ _ _ _ h (sym c.same_bytes.ensures ∙ c.if-same_bytes.false))
