-- `editor::settle` meets its contract: each return is one case of the answer.
use native.Mathlib.Omega.{arith}
use mathlib.Core.Path.{sym, subst}
use lib.ListN.{length, take}
use Rattle.format.specs.Calls.{check_answer}
use Rattle.edits.specs.Splices.{made_by}
use Rattle.editor.specs.Plans.{Planned}
use Rattle.records.proofs.Checked.{checked}
use Rattle.format.specs.Refusals.{refusal_no}
use Rattle.editor.proofs.Editing.{number-zero, plan-refused, plan-over, plan-sound, plan-hands-on, plan-done}
use Rattle.editor.proofs.settle.Goals as goal

pub returns-in-Refused : goal.returns-in-Refused
unfolding check_answer
returns-in-Refused c =
    let p = subst (Planned (take c.args.used c.args.buf.now) c.args.req.now c.args.added.now) c.in-Refused.is c.requires.used_value.1 in
    plan-refused c.args.buf.now c.args.used c.requires.used_value.0 c.args.req.now c.args.added.now c.in-Refused.refusal p

pub returns-in-Over : goal.returns-in-Over
unfolding check_answer
returns-in-Over c =
    let p = subst (Planned (take c.args.used c.args.buf.now) c.args.req.now c.args.added.now) c.in-Over.is c.requires.used_value.1 in
    plan-over c.args.buf.now c.args.used c.requires.used_value.0 c.args.req.now c.args.added.now c.in-Over.n (refusal_no c.over_no.result) p c.over_no.ensures

pub slice_bounds-edit_no-end : goal.slice_bounds-edit_no-end
unfolding check_answer
slice_bounds-edit_no-end c =
    (checked c.args.buf.now c.args.used c.requires.used_value.0).fits

pub slice_bounds-edit_no-end-in-At : goal.slice_bounds-edit_no-end-in-At
unfolding check_answer
slice_bounds-edit_no-end-in-At c =
    sym (checked c.args.buf.now c.args.used c.requires.used_value.0).long

pub edit_no-requires : goal.edit_no-requires
unfolding check_answer
edit_no-requires c =
    let p = subst (Planned (take c.args.used c.args.buf.now) c.args.req.now c.args.added.now) c.in-At.is c.requires.used_value.1 in
    record { file_bytes_in_bounds = c.requires.file_bytes_in_bounds; sound = plan-sound c.args.buf.now c.args.used c.requires.used_value.0 c.args.req.now c.args.added.now c.in-At.x p; s_len_bound = (omega (arith, (checked c.args.buf.now c.args.used c.requires.used_value.0).fits, (checked c.args.buf.now c.args.used c.requires.used_value.0).long), (checked c.args.buf.now c.args.used c.requires.used_value.0).short) }

pub returns-in_err-edit_no-in-At : goal.returns-in_err-edit_no-in-At
unfolding check_answer
returns-in_err-edit_no-in-At c =
    let p = subst (Planned (take c.args.used c.args.buf.now) c.args.req.now c.args.added.now) c.in-At.is c.requires.used_value.1 in
    plan-hands-on c.args.buf.now c.args.used c.requires.used_value.0 c.args.req.now c.args.added.now c.in-At.x p c.in_err-edit_no-in-At.field-0.0 c.in_err-edit_no-in-At.ensures c.from_residual.result c.from_residual.ensures

pub carry_out-new-requires : goal.carry_out-new-requires
unfolding check_answer
carry_out-new-requires c =
    let p = subst (Planned (take c.args.used c.args.buf.now) c.args.req.now c.args.added.now) c.in-At.is c.requires.used_value.1 in
    record { used_in_bounds = ((checked c.args.buf.now c.args.used c.requires.used_value.0).fits, plan-sound c.args.buf.now c.args.used c.requires.used_value.0 c.args.req.now c.args.added.now c.in-At.x p); x_in_bounds = number-zero (length c.args.buf.now) (made_by (take c.args.used c.args.buf.now) c.args.req.now c.args.added.now c.in-At.x) (sym c.in_ok-edit_no-in-At.ensures) }

pub returns-in_ok-edit_no-in-At : goal.returns-in_ok-edit_no-in-At
unfolding check_answer
returns-in_ok-edit_no-in-At c =
    let p = subst (Planned (take c.args.used c.args.buf.now) c.args.req.now c.args.added.now) c.in-At.is c.requires.used_value.1 in
    plan-done c.args.buf.now c.args.used c.requires.used_value.0 c.args.req.now c.args.added.now c.in-At.x p c.in_ok-edit_no-in-At.ensures c.carry_out-new.result c.carry_out-new.new.buf c.carry_out-new.ensures.0 c.carry_out-new.ensures.1
