use Prim.Native.Nat.{◌+◌}
use native.Mathlib.Omega.{arith}
use mathlib.Core.Path.{refl, sym, ap, ◌∙◌}
use mathlib.Core.Bool.{Bool, ◌&&◌}
use borrow.Author.Tests.{not-true, not-false}
use lib.ListN.{length}
use Rattle.format.specs.Bytes.{text, all}
use Rattle.values.specs.Value.{value_from}
use Rattle.words.specs.Spans.{span}
use Rattle.records.specs.Named.{values_from}
use Rattle.typedefs.specs.Walks.{names_from}
use Rattle.typedefs.specs.Targets.{targets_in, well_by}
use Rattle.records.proofs.Readings.{part-readable}
use Rattle.records.proofs.Named.{value-told}
use Rattle.typedefs.proofs.Filling.{fit-here}
use Rattle.typedefs.proofs.Deciding.{all-cut}
use mathlib.Core.Bool.{not}
use Rattle.typedefs.proofs.all_well.Goals as goal

pub loop-value-init : goal.loop-value-init
loop-value-init c =
    (omega arith, c.requires.d_value.0, refl, c.requires.text_value, refl)

pub next_named-requires : goal.next_named-requires
next_named-requires c =
    (part-readable c.args.d.now c.loop-value.i c.loop-value.invariant.1)

pub shape_of-scratch-in_default : goal.shape_of-scratch-in_default
shape_of-scratch-in_default c =
    c.loop-value.invariant.2

pub returns-in_default : goal.returns-in_default
returns-in_default c =
    let h = value-told c.args.d.now (text "%type") c.loop-value.i c.next_named.result c.next_named.ensures c.in_default.is in
    sym (c.loop-value.invariant.4 ∙ ap (all (well_by (names_from c.args.d.now 0) (targets_in c.args.targets))) h)

pub overflow_add-i : goal.overflow_add-i
overflow_add-i c =
    let d = c.args.d.now in
    let h = value-told d (text "%type") c.loop-value.i c.next_named.result c.next_named.ensures c.in-Some.is in
    omega (arith, h.value_there)

pub type_well-requires : goal.type_well-requires
type_well-requires c =
    let d = c.args.d.now in
    let h = value-told d (text "%type") c.loop-value.i c.next_named.result c.next_named.ensures c.in-Some.is in
    let f = fit-here (length c.args.scratch.now) (values_from d (text "%type") c.loop-value.i) (value_from (span (c.loop-value.i + c.in-Some.field-0.value) (c.loop-value.i + c.in-Some.field-0.end) d)) (values_from d (text "%type") (c.loop-value.i + c.in-Some.field-0.end)) c.loop-value.invariant.3 h.values in
    record { are_names = (c.requires.d_value.1, c.requires.d_value.2); value_in_bounds = (omega (arith, h.value_there), omega (arith, f.0, c.loop-value.invariant.2, ap length h.ends-itself)) }

pub shape_of-scratch-then-not-type_well : goal.shape_of-scratch-then-not-type_well
shape_of-scratch-then-not-type_well c =
    omega (arith, c.type_well.auto.scratch, c.loop-value.invariant.2)

pub returns-then-not-type_well : goal.returns-then-not-type_well
returns-then-not-type_well c =
    let d = c.args.d.now in
    let p = well_by (names_from d 0) (targets_in c.args.targets) in
    let h = value-told d (text "%type") c.loop-value.i c.next_named.result c.next_named.ensures c.in-Some.is in
    sym (c.loop-value.invariant.4 ∙ all-cut p d (text "%type") c.loop-value.i (c.loop-value.i + c.in-Some.field-0.value) (c.loop-value.i + c.in-Some.field-0.end) c.type_well.result h c.type_well.ensures ∙ ap (λ (b : Bool). b && all p (values_from d (text "%type") (c.loop-value.i + c.in-Some.field-0.end))) (not-true c.type_well.result (ap not c.if-not-type_well.true)))

pub overflow_add-i-in-loop-value : goal.overflow_add-i-in-loop-value
overflow_add-i-in-loop-value c =
    let h = value-told c.args.d.now (text "%type") c.loop-value.i c.next_named.result c.next_named.ensures c.in-Some.is in
    omega (arith, h.inside)

pub loop-value-smaller : goal.loop-value-smaller
loop-value-smaller c =
    let h = value-told c.args.d.now (text "%type") c.loop-value.i c.next_named.result c.next_named.ensures c.in-Some.is in
    omega (arith, h.moves, h.inside)

pub loop-value-preserved : goal.loop-value-preserved
loop-value-preserved c =
    let d = c.args.d.now in
    let p = well_by (names_from d 0) (targets_in c.args.targets) in
    let h = value-told d (text "%type") c.loop-value.i c.next_named.result c.next_named.ensures c.in-Some.is in
    let f = fit-here (length c.args.scratch.now) (values_from d (text "%type") c.loop-value.i) (value_from (span (c.loop-value.i + c.in-Some.field-0.value) (c.loop-value.i + c.in-Some.field-0.end) d)) (values_from d (text "%type") (c.loop-value.i + c.in-Some.field-0.end)) c.loop-value.invariant.3 h.values in
    (h.inside, h.readable, omega (arith, c.type_well.auto.scratch, c.loop-value.invariant.2), f.1, c.loop-value.invariant.4 ∙ all-cut p d (text "%type") c.loop-value.i (c.loop-value.i + c.in-Some.field-0.value) (c.loop-value.i + c.in-Some.field-0.end) c.type_well.result h c.type_well.ensures ∙ ap (λ (b : Bool). b && all p (values_from d (text "%type") (c.loop-value.i + c.in-Some.field-0.end))) (not-false c.type_well.result (ap not c.if-not-type_well.false)))
