-- `editor::plan` meets its contract: the request is none, or where it acts was located.
use mathlib.Core.Path.{refl, sym, subst}
use mathlib.Core.Option.{Option}
use lib.ListN.{take}
use Rattle.format.specs.Calls.{check_answer}
use Rattle.format.specs.Requests.{Request}
use Rattle.requests.proofs.Filling.{request-bytes}
use Rattle.format.specs.declared.refusals.Refusal.{Refusal}
use Rattle.edits.specs.declared.Located.{Located}
use Rattle.editor.specs.Plans.{planned_by}
use Rattle.records.proofs.Checked.{checked}
use Rattle.editor.proofs.plan.Goals as goal

pub returns-in_default : goal.returns-in_default
returns-in_default c =
    subst (λ (o : Option Request). planned_by o (take c.args.used c.args.buf.now) c.args.req.now c.args.added.now (Located.Refused Refusal.Form)) c.in_default.ensures.0 refl

pub slice_bounds-locate-end : goal.slice_bounds-locate-end
unfolding check_answer
slice_bounds-locate-end c =
    sym (checked c.args.buf.now c.args.used c.requires.used_value).long

pub locate-requires : goal.locate-requires
unfolding check_answer
locate-requires c =
    let v = c.requires.used_value in
    let e = c.in-Some.ensures.0 in
    record { s_value = ((checked c.args.buf.now c.args.used v).readable, (checked c.args.buf.now c.args.used v).short, (checked c.args.buf.now c.args.used v).passes, request-bytes c.args.req.now c.in-Some.q e); inside = c.in-Some.ensures.1; file_bytes_in_bounds = c.requires.file_bytes_in_bounds }

pub returns : goal.returns
returns c =
    let e = c.in-Some.ensures.0 in
    subst (λ (o : Option Request). planned_by o (take c.args.used c.args.buf.now) c.args.req.now c.locate.new.added c.locate.result) e c.locate.ensures
