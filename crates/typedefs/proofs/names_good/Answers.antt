use Prim.Native.Nat.{◌+◌}
use borrow.Author.Tests.{not-true, not-false}
use native.Mathlib.Omega.{arith}
use mathlib.Core.Path.{refl, sym, ap, ◌∙◌}
use mathlib.Core.Bool.{Bool, ◌&&◌}
use mathlib.Core.List.{List, map}
use lib.ListN.{length}
use Rattle.format.specs.Bytes.{Bytes, text, all}
use Rattle.format.specs.Words.{first_word}
use Rattle.format.specs.Rules.{is_typedef_name}
use Rattle.values.specs.Value.{value_from}
use Rattle.words.specs.Spans.{span}
use Rattle.words.proofs.Decoded.{decoded-all, decoded-length, decoded-inside}
use Rattle.records.specs.Named.{values_from}
use Rattle.typedefs.specs.Walks.{names_from}
use Rattle.records.proofs.Readings.{part-readable}
use Rattle.records.proofs.Named.{value-told}
use Rattle.typedefs.proofs.Filling.{fit-here}
use Rattle.typedefs.proofs.Good.{good-cut}
use mathlib.Core.Bool.{not}
use Rattle.typedefs.proofs.names_good.Goals as goal

pub loop-value-init : goal.loop-value-init
loop-value-init c =
    (omega arith, c.requires.d_value, refl, c.requires.text_value, refl)

pub next_named-requires : goal.next_named-requires
next_named-requires c =
    (part-readable c.args.d.now c.loop-value.i c.loop-value.invariant.1)

pub shape_of-scratch-in_default : goal.shape_of-scratch-in_default
shape_of-scratch-in_default c =
    c.loop-value.invariant.2

pub returns-in_default : goal.returns-in_default
returns-in_default c =
    sym (c.loop-value.invariant.4 ∙ ap (λ (vs : List Bytes). all is_typedef_name (map first_word vs)) (value-told c.args.d.now (text "%typedef") c.loop-value.i c.next_named.result c.next_named.ensures c.in_default.is))

pub overflow_add-i : goal.overflow_add-i
overflow_add-i c =
    let h = value-told c.args.d.now (text "%typedef") c.loop-value.i c.next_named.result c.next_named.ensures c.in-Some.is in
    omega (arith, h.within, h.inside)

pub overflow_add-i-in-loop-value : goal.overflow_add-i-in-loop-value
overflow_add-i-in-loop-value c =
    let h = value-told c.args.d.now (text "%typedef") c.loop-value.i c.next_named.result c.next_named.ensures c.in-Some.is in
    omega (arith, h.inside)

pub slice_bounds-copy_value-count : goal.slice_bounds-copy_value-count
slice_bounds-copy_value-count c =
    let h = value-told c.args.d.now (text "%typedef") c.loop-value.i c.next_named.result c.next_named.ensures c.in-Some.is in
    omega (arith, h.within, h.inside)

pub slice_bounds-copy_value-start : goal.slice_bounds-copy_value-start
slice_bounds-copy_value-start c =
    let h = value-told c.args.d.now (text "%typedef") c.loop-value.i c.next_named.result c.next_named.ensures c.in-Some.is in
    omega (arith, h.within, h.inside)

pub slice_bounds-copy_value-end : goal.slice_bounds-copy_value-end
slice_bounds-copy_value-end c =
    let h = value-told c.args.d.now (text "%typedef") c.loop-value.i c.next_named.result c.next_named.ensures c.in-Some.is in
    omega (arith, h.within, h.inside)

pub copy_value-n-requires : goal.copy_value-n-requires
copy_value-n-requires c =
    let h = value-told c.args.d.now (text "%typedef") c.loop-value.i c.next_named.result c.next_named.ensures c.in-Some.is in
    let f = fit-here (length c.args.scratch.now) (values_from c.args.d.now (text "%typedef") c.loop-value.i) (value_from (span (c.loop-value.i + c.in-Some.field-0.value) (c.loop-value.i + c.in-Some.field-0.end) c.args.d.now)) (values_from c.args.d.now (text "%typedef") (c.loop-value.i + c.in-Some.field-0.end)) c.loop-value.invariant.3 h.values in
    omega (arith, f.0, c.loop-value.invariant.2)

pub slice_bounds-name_good-end : goal.slice_bounds-name_good-end
slice_bounds-name_good-end c =
    let h = value-told c.args.d.now (text "%typedef") c.loop-value.i c.next_named.result c.next_named.ensures c.in-Some.is in
    let v = value_from (span (c.loop-value.i + c.in-Some.field-0.value) (c.loop-value.i + c.in-Some.field-0.end) c.args.d.now) in
    let f = fit-here (length c.args.scratch.now) (values_from c.args.d.now (text "%typedef") c.loop-value.i) v (values_from c.args.d.now (text "%typedef") (c.loop-value.i + c.in-Some.field-0.end)) c.loop-value.invariant.3 h.values in
    decoded-inside v c.loop-value.scratch _ c.copy_value-n.result c.copy_value-n.ensures.0 c.copy_value-n.ensures.1 (omega (arith, f.0, c.loop-value.invariant.2))

pub slice_bounds-name_good-end-in-loop-value : goal.slice_bounds-name_good-end-in-loop-value
slice_bounds-name_good-end-in-loop-value c =
    decoded-length (value_from (span (c.loop-value.i + c.in-Some.field-0.value) (c.loop-value.i + c.in-Some.field-0.end) c.args.d.now)) c.loop-value.scratch _ c.copy_value-n.result c.copy_value-n.ensures.0 c.copy_value-n.ensures.1

pub shape_of-scratch-then-not-name_good : goal.shape_of-scratch-then-not-name_good
shape_of-scratch-then-not-name_good c =
    omega (arith, c.copy_value-n.auto.out, c.loop-value.invariant.2)

pub returns-then-not-name_good : goal.returns-then-not-name_good
returns-then-not-name_good c =
    let d = c.args.d.now in
    let h = value-told d (text "%typedef") c.loop-value.i c.next_named.result c.next_named.ensures c.in-Some.is in
    let v = value_from (span (c.loop-value.i + c.in-Some.field-0.value) (c.loop-value.i + c.in-Some.field-0.end) d) in
    let q = c.name_good.ensures ∙ ap (λ (u : Bytes). is_typedef_name (first_word u)) (decoded-all v c.loop-value.scratch _ c.copy_value-n.result c.copy_value-n.ensures.0 c.copy_value-n.ensures.1) in
    sym (c.loop-value.invariant.4 ∙ good-cut d c.loop-value.i (c.loop-value.i + c.in-Some.field-0.value) (c.loop-value.i + c.in-Some.field-0.end) c.name_good.result h q ∙ ap (λ (b : Bool). b && all is_typedef_name (names_from d (c.loop-value.i + c.in-Some.field-0.end))) (not-true c.name_good.result (ap not c.if-not-name_good.true)))

pub overflow_add-i-in-loop-value-2 : goal.overflow_add-i-in-loop-value-2
overflow_add-i-in-loop-value-2 c =
    let h = value-told c.args.d.now (text "%typedef") c.loop-value.i c.next_named.result c.next_named.ensures c.in-Some.is in
    omega (arith, h.inside)

pub loop-value-smaller : goal.loop-value-smaller
loop-value-smaller c =
    let h = value-told c.args.d.now (text "%typedef") c.loop-value.i c.next_named.result c.next_named.ensures c.in-Some.is in
    omega (arith, h.moves, h.inside)

pub loop-value-preserved : goal.loop-value-preserved
loop-value-preserved c =
    let d = c.args.d.now in
    let h = value-told d (text "%typedef") c.loop-value.i c.next_named.result c.next_named.ensures c.in-Some.is in
    let v = value_from (span (c.loop-value.i + c.in-Some.field-0.value) (c.loop-value.i + c.in-Some.field-0.end) d) in
    let f = fit-here (length c.args.scratch.now) (values_from d (text "%typedef") c.loop-value.i) v (values_from d (text "%typedef") (c.loop-value.i + c.in-Some.field-0.end)) c.loop-value.invariant.3 h.values in
    let q = c.name_good.ensures ∙ ap (λ (u : Bytes). is_typedef_name (first_word u)) (decoded-all v c.loop-value.scratch _ c.copy_value-n.result c.copy_value-n.ensures.0 c.copy_value-n.ensures.1) in
    (h.inside, h.readable, omega (arith, c.copy_value-n.auto.out, c.loop-value.invariant.2), f.1, c.loop-value.invariant.4 ∙ good-cut d c.loop-value.i (c.loop-value.i + c.in-Some.field-0.value) (c.loop-value.i + c.in-Some.field-0.end) c.name_good.result h q ∙ ap (λ (b : Bool). b && all is_typedef_name (names_from d (c.loop-value.i + c.in-Some.field-0.end))) (not-false c.name_good.result (ap not c.if-not-name_good.false)))
