use Prim.Native.Nat.{◌-◌}
use native.Mathlib.Omega.{arith}
use mathlib.Core.Path.{sym, ◌∙◌}
use Rattle.records.proofs.Readings.{part-readable}
use Rattle.records.proofs.Fields.{field-read}
use Rattle.records.proofs.Named.{named-told, occurrence-first, occurrence-later}
use Rattle.records.proofs.find_field.Goals as goal

pub loop-start-init : goal.loop-start-init
loop-start-init c =
    (omega arith, c.requires, field-read c.args.name.now c.args.s.now c.args.o)

pub next_named-requires : goal.next_named-requires
next_named-requires c =
    (part-readable c.args.s.now c.loop-start.i c.loop-start.invariant.1)

pub returns-in_err-start : goal.returns-in_err-start
returns-in_err-start c =
    let h = named-told c.args.s.now c.args.name.now c.loop-start.i c.next_named.result c.next_named.ensures c.in_err-start.was in
    c.from_residual.ensures ∙ sym (c.loop-start.invariant.2 ∙ h.found c.loop-start.left)

pub overflow_add-result : goal.overflow_add-result
overflow_add-result c =
    let h = named-told c.args.s.now c.args.name.now c.loop-start.i c.next_named.result c.next_named.ensures c.in_ok-start.was in
    omega (arith, h.behind, h.value.within, h.value.inside)

pub overflow_add-result-then-left-eq0 : goal.overflow_add-result-then-left-eq0
overflow_add-result-then-left-eq0 c =
    let h = named-told c.args.s.now c.args.name.now c.loop-start.i c.next_named.result c.next_named.ensures c.in_ok-start.was in
    omega (arith, h.value.within, h.value.inside)

pub overflow_add-result-then-left-eq0-2 : goal.overflow_add-result-then-left-eq0-2
overflow_add-result-then-left-eq0-2 c =
    let h = named-told c.args.s.now c.args.name.now c.loop-start.i c.next_named.result c.next_named.ensures c.in_ok-start.was in
    omega (arith, h.value.inside)

pub returns-then-left-eq0 : goal.returns-then-left-eq0
returns-then-left-eq0 c =
    let h = named-told c.args.s.now c.args.name.now c.loop-start.i c.next_named.result c.next_named.ensures c.in_ok-start.was in
    sym (c.loop-start.invariant.2 ∙ occurrence-first c.args.s.now c.args.name.now c.loop-start.i _ _ _ h c.loop-start.left c.if-left-eq0.true)

pub overflow_add-i : goal.overflow_add-i
overflow_add-i c =
    let h = named-told c.args.s.now c.args.name.now c.loop-start.i c.next_named.result c.next_named.ensures c.in_ok-start.was in
    omega (arith, h.value.inside)

pub loop-start-smaller : goal.loop-start-smaller
loop-start-smaller c =
    let h = named-told c.args.s.now c.args.name.now c.loop-start.i c.next_named.result c.next_named.ensures c.in_ok-start.was in
    omega (arith, h.value.moves, h.value.inside)

pub loop-start-preserved : goal.loop-start-preserved
loop-start-preserved c =
    let h = named-told c.args.s.now c.args.name.now c.loop-start.i c.next_named.result c.next_named.ensures c.in_ok-start.was in
    (h.value.inside, h.value.readable, c.loop-start.invariant.2 ∙ occurrence-later c.args.s.now c.args.name.now c.loop-start.i _ _ _ h c.loop-start.left (c.loop-start.left - 1) (omega (arith, c.if-left-eq0.false)))
