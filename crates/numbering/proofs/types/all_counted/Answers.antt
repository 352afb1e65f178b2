use Prim.Native.Nat.{◌-◌}
use native.Mathlib.Omega.{arith}
use mathlib.Core.Path.{refl, sym, ap, ◌∙◌}
use mathlib.Core.Bool.{true, false}
use borrow.Author.Tests.{not-true, not-false}
use Rattle.format.specs.Bytes.{text, all}
use Rattle.records.proofs.Readings.{part-readable}
use Rattle.records.proofs.Named.{value-told}
use Rattle.numbering.specs.Types.{is_type_counted}
use Rattle.numbering.proofs.Counted.{typed-start, typed-here, typed-on, counted-cut}
use mathlib.Core.Bool.{not}
use Rattle.numbering.proofs.types.all_counted.Goals as goal

pub loop-value-init : goal.loop-value-init
loop-value-init c =
    (omega arith, c.requires.described.0.reads, typed-start c.args.d.now c.requires.described.0, refl, refl)

pub next_named-requires : goal.next_named-requires
next_named-requires c =
    part-readable c.args.d.now c.loop-value.i c.loop-value.invariant.1

pub shape_of-scratch-in_default : goal.shape_of-scratch-in_default
shape_of-scratch-in_default c =
    c.loop-value.invariant.3

pub returns-in_default : goal.returns-in_default
returns-in_default c =
    sym (c.loop-value.invariant.4 ∙ ap (all (is_type_counted c.args.d.now)) (value-told c.args.d.now (text "%type") c.loop-value.i c.next_named.result c.next_named.ensures c.in_default.is))

pub overflow_add-i : goal.overflow_add-i
overflow_add-i c =
    let h = value-told c.args.d.now (text "%type") c.loop-value.i c.next_named.result c.next_named.ensures c.in-Some.is in
    omega (arith, h.value_there)

pub kind_at-kind-requires : goal.kind_at-kind-requires
kind_at-kind-requires c =
    let h = value-told c.args.d.now (text "%type") c.loop-value.i c.next_named.result c.next_named.ensures c.in-Some.is in
    record { described = c.requires.described; has_type = (typed-here c.args.d.now c.loop-value.i _ _ h c.loop-value.invariant.2, omega (arith, c.loop-value.invariant.3, c.requires.value_bytes_in_bounds)) }

pub overflow_add-i-in-loop-value : goal.overflow_add-i-in-loop-value
overflow_add-i-in-loop-value c =
    let h = value-told c.args.d.now (text "%type") c.loop-value.i c.next_named.result c.next_named.ensures c.in-Some.is in
    omega (arith, h.value_there)

pub type_counted-requires : goal.type_counted-requires
type_counted-requires c =
    let h = value-told c.args.d.now (text "%type") c.loop-value.i c.next_named.result c.next_named.ensures c.in-Some.is in
    let t = typed-here c.args.d.now c.loop-value.i _ _ h c.loop-value.invariant.2 in
    record { listed = c.requires.listed; value_in_bounds = (omega (arith, t.there), omega (arith, t.fits, c.loop-value.invariant.3, c.kind_at-kind.auto.scratch, c.requires.value_bytes_in_bounds)) }

pub shape_of-scratch-then-not-type_counted : goal.shape_of-scratch-then-not-type_counted
shape_of-scratch-then-not-type_counted c =
    c.type_counted.auto.scratch ∙ c.kind_at-kind.auto.scratch ∙ c.loop-value.invariant.3

pub returns-then-not-type_counted : goal.returns-then-not-type_counted
returns-then-not-type_counted c =
    let h = value-told c.args.d.now (text "%type") c.loop-value.i c.next_named.result c.next_named.ensures c.in-Some.is in
    sym (c.loop-value.invariant.4 ∙ counted-cut c.args.d.now c.loop-value.i _ _ c.kind_at-kind.result c.type_counted.result h c.kind_at-kind.ensures c.type_counted.ensures false (not-true c.type_counted.result (ap not c.if-not-type_counted.true)))

pub overflow_add-i-in-loop-value-2 : goal.overflow_add-i-in-loop-value-2
overflow_add-i-in-loop-value-2 c =
    let h = value-told c.args.d.now (text "%type") c.loop-value.i c.next_named.result c.next_named.ensures c.in-Some.is in
    omega (arith, h.inside, c.well_formed.0.0)

pub loop-value-smaller : goal.loop-value-smaller
loop-value-smaller c =
    let h = value-told c.args.d.now (text "%type") c.loop-value.i c.next_named.result c.next_named.ensures c.in-Some.is in
    omega (arith, h.moves, h.inside)

pub loop-value-preserved : goal.loop-value-preserved
loop-value-preserved c =
    let h = value-told c.args.d.now (text "%type") c.loop-value.i c.next_named.result c.next_named.ensures c.in-Some.is in
    let cut = counted-cut c.args.d.now c.loop-value.i _ _ c.kind_at-kind.result c.type_counted.result h c.kind_at-kind.ensures c.type_counted.ensures true (not-false c.type_counted.result (ap not c.if-not-type_counted.false)) in
    (h.inside, h.readable, typed-on c.args.d.now c.loop-value.i _ _ h c.loop-value.invariant.2, c.type_counted.auto.scratch ∙ c.kind_at-kind.auto.scratch ∙ c.loop-value.invariant.3, c.loop-value.invariant.4 ∙ cut)
