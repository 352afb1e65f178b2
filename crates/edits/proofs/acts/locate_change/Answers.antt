-- `edits::acts::locate_change` meets its contract: each change by the question that may refuse it.
use Prim.Native.Nat.{◌-◌}
use native.Mathlib.Omega.{arith}
use mathlib.Core.Path.{sym, ap, ◌∙◌, subst}
use mathlib.Core.Bool.{Bool}
use borrow.Author.Tests.{not-true, not-false, lt-ltb, le-ltb}
use lib.ListN.{length}
use Rattle.format.specs.Bytes.{pick}
use Rattle.records.specs.Walk.{record_in}
use Rattle.requests.specs.Kinds.{InChange}
use Rattle.edits.specs.Places.{change_at}
use Rattle.format.specs.declared.refusals.Refusal.{Refusal}
use Rattle.edits.specs.declared.Located.{Located}
use Rattle.edits.specs.declared.Splice.{Splice}
use mathlib.Core.Bool.{not}
use Rattle.edits.proofs.acts.locate_change.Goals as goal

pub slice_bounds-is_legal_value-count : goal.slice_bounds-is_legal_value-count
slice_bounds-is_legal_value-count c =
    omega (arith, (subst (InChange c.args.req.now) c.in-Value.is c.requires.in_span.1).0)

pub slice_bounds-is_legal_value-start : goal.slice_bounds-is_legal_value-start
slice_bounds-is_legal_value-start c =
    omega (arith, (subst (InChange c.args.req.now) c.in-Value.is c.requires.in_span.1).0)

pub slice_bounds-is_legal_value-end : goal.slice_bounds-is_legal_value-end
slice_bounds-is_legal_value-end c =
    omega (arith, (subst (InChange c.args.req.now) c.in-Value.is c.requires.in_span.1).1)

pub returns-then-not-is_legal_value : goal.returns-then-not-is_legal_value
returns-then-not-is_legal_value c =
    let a = c.args in
    let f = a.field in
    sym (ap (change_at a.own.now a.req.now a.name f) c.in-Value.is ∙ ap (λ (b : Bool). pick b (Located.At (Splice.Field f.start (f.end - f.start) a.name c.in-Value.value)) (Located.Refused Refusal.Illegal)) (sym c.is_legal_value.ensures ∙ not-true c.is_legal_value.result (ap not c.if-not-is_legal_value.true)))

pub returns-else-not-is_legal_value : goal.returns-else-not-is_legal_value
returns-else-not-is_legal_value c =
    let a = c.args in
    let f = a.field in
    sym (ap (change_at a.own.now a.req.now a.name f) c.in-Value.is ∙ ap (λ (b : Bool). pick b (Located.At (Splice.Field f.start (f.end - f.start) a.name c.in-Value.value)) (Located.Refused Refusal.Illegal)) (sym c.is_legal_value.ensures ∙ not-false c.is_legal_value.result (ap not c.if-not-is_legal_value.false)))

pub count_fields-requires : goal.count_fields-requires
count_fields-requires c =
    c.requires.own_value.0

pub returns-then-count_fields-lt2 : goal.returns-then-count_fields-lt2
returns-then-count_fields-lt2 c =
    let a = c.args in
    let f = a.field in
    let few = le-ltb 1 (length (record_in a.own.now)) (omega (arith, c.count_fields.ensures, c.if-count_fields-lt2.true)) in
    sym (ap (change_at a.own.now a.req.now a.name f) c.in-Dropped.is ∙ ap (λ (b : Bool). pick b (Located.At (Splice.Cut f.start (f.end - f.start))) (Located.Refused Refusal.Emptied)) few)

pub returns-else-count_fields-lt2 : goal.returns-else-count_fields-lt2
returns-else-count_fields-lt2 c =
    let a = c.args in
    let f = a.field in
    let many = lt-ltb 1 (length (record_in a.own.now)) (omega (arith, c.count_fields.ensures, c.if-count_fields-lt2.false)) in
    sym (ap (change_at a.own.now a.req.now a.name f) c.in-Dropped.is ∙ ap (λ (b : Bool). pick b (Located.At (Splice.Cut f.start (f.end - f.start))) (Located.Refused Refusal.Emptied)) many)

pub slice_bounds-is_legal_name-count : goal.slice_bounds-is_legal_name-count
slice_bounds-is_legal_name-count c =
    omega (arith, (subst (InChange c.args.req.now) c.in-Name.is c.requires.in_span.1).0)

pub slice_bounds-is_legal_name-start : goal.slice_bounds-is_legal_name-start
slice_bounds-is_legal_name-start c =
    omega (arith, (subst (InChange c.args.req.now) c.in-Name.is c.requires.in_span.1).0)

pub slice_bounds-is_legal_name-end : goal.slice_bounds-is_legal_name-end
slice_bounds-is_legal_name-end c =
    omega (arith, (subst (InChange c.args.req.now) c.in-Name.is c.requires.in_span.1).1)

pub returns-then-not-is_legal_name : goal.returns-then-not-is_legal_name
returns-then-not-is_legal_name c =
    let a = c.args in
    let f = a.field in
    let n = a.name in
    sym (ap (change_at a.own.now a.req.now n f) c.in-Name.is ∙ ap (λ (b : Bool). pick b (Located.At (Splice.Name f.start (n.end - n.start) c.in-Name.new)) (Located.Refused Refusal.Illegal)) (sym c.is_legal_name.ensures ∙ not-true c.is_legal_name.result (ap not c.if-not-is_legal_name.true)))

pub returns-else-not-is_legal_name : goal.returns-else-not-is_legal_name
returns-else-not-is_legal_name c =
    let a = c.args in
    let f = a.field in
    let n = a.name in
    sym (ap (change_at a.own.now a.req.now n f) c.in-Name.is ∙ ap (λ (b : Bool). pick b (Located.At (Splice.Name f.start (n.end - n.start) c.in-Name.new)) (Located.Refused Refusal.Illegal)) (sym c.is_legal_name.ensures ∙ not-false c.is_legal_name.result (ap not c.if-not-is_legal_name.false)))
