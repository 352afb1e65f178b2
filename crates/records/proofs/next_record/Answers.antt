-- `records::next_record` meets its contract: the first field begins the first place, and the run behind it ends there.
use native.Mathlib.Omega.{arith}
use mathlib.Core.Path.{sym, subst, ◌∙◌}
use Rattle.records.specs.Fields.{FieldNext}
use Rattle.records.proofs.Readings.{part-readable}
use Rattle.records.proofs.FirstPlaces.{next-nothing, next-found, next-inside}
use Rattle.records.proofs.next_record.Goals as goal

pub returns-in_err-f : goal.returns-in_err-f
returns-in_err-f c =
    c.from_residual.ensures ∙ sym (next-nothing c.args.s.now c.requires (subst (FieldNext c.args.s.now 0) c.in_err-f.was c.next_field.ensures))

pub slice_bounds-is_rec-count : goal.slice_bounds-is_rec-count
slice_bounds-is_rec-count c =
    let f = subst (FieldNext c.args.s.now 0) c.in_ok-f.was c.next_field.ensures in
    f.named

pub slice_bounds-is_rec-start : goal.slice_bounds-is_rec-start
slice_bounds-is_rec-start c =
    let f = subst (FieldNext c.args.s.now 0) c.in_ok-f.was c.next_field.ensures in
    f.named

pub slice_bounds-is_rec-end : goal.slice_bounds-is_rec-end
slice_bounds-is_rec-end c =
    let f = subst (FieldNext c.args.s.now 0) c.in_ok-f.was c.next_field.ensures in
    omega (arith, f.name-inside, f.inside)

pub slice_bounds-record_run-count : goal.slice_bounds-record_run-count
slice_bounds-record_run-count c =
    let f = subst (FieldNext c.args.s.now 0) c.in_ok-f.was c.next_field.ensures in
    f.inside

pub slice_bounds-record_run-start : goal.slice_bounds-record_run-start
slice_bounds-record_run-start c =
    let f = subst (FieldNext c.args.s.now 0) c.in_ok-f.was c.next_field.ensures in
    f.inside

pub record_run-r-requires : goal.record_run-r-requires
record_run-r-requires c =
    let f = subst (FieldNext c.args.s.now 0) c.in_ok-f.was c.next_field.ensures in
    part-readable c.args.s.now _ f.readable

pub overflow_add-result : goal.overflow_add-result
overflow_add-result c =
    let f = subst (FieldNext c.args.s.now 0) c.in_ok-f.was c.next_field.ensures in
    let x = next-inside c.args.s.now _ _ _ _ c.is_rec-here.result c.record_run-r.result c.requires f c.is_rec-here.ensures c.record_run-r.ensures in
    omega (arith, x.0, x.1)

pub overflow_add-result-2 : goal.overflow_add-result-2
overflow_add-result-2 c =
    let f = subst (FieldNext c.args.s.now 0) c.in_ok-f.was c.next_field.ensures in
    let x = next-inside c.args.s.now _ _ _ _ c.is_rec-here.result c.record_run-r.result c.requires f c.is_rec-here.ensures c.record_run-r.ensures in
    omega (arith, x.1)

pub returns : goal.returns
returns c =
    let f = subst (FieldNext c.args.s.now 0) c.in_ok-f.was c.next_field.ensures in
    let x = next-found c.args.s.now _ _ _ _ c.is_rec-here.result c.record_run-r.result c.requires f c.is_rec-here.ensures c.record_run-r.ensures in
    sym x
