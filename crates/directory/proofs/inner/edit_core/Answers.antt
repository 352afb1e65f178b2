-- `directory::inner::edit_core` meets its contract.
use Rattle.std.specs.Prelude.{ℕ, ◌<◌, ◌≤◌}
use native.Mathlib.Omega.{arith}
use mathlib.Core.Path.{sym, ◌∙◌, subst}
use Rattle.format.proofs.Refused.{value-told}
use Rattle.directory.specs.Rows.{Does}
use Rattle.records.proofs.Checked.{checked}
use Rattle.directory.proofs.Files.{checked-passes, does-fail, does-short, does-edit}
use Rattle.directory.proofs.inner.edit_core.Goals as goal

pub returns-in-Err : goal.returns-in-Err
returns-in-Err c =
    does-fail c.args.buf.now c.args.used c.args.req.now c.args.room c.in-Err.q c.in-Err.ensures

pub slice_bounds-count_sets-end : goal.slice_bounds-count_sets-end
slice_bounds-count_sets-end c =
    let v = checked-passes c.args.buf.now c.args.used c.in_default.ensures in
    (checked c.args.buf.now c.args.used v).fits

pub slice_bounds-count_sets-end-2 : goal.slice_bounds-count_sets-end-2
slice_bounds-count_sets-end-2 c =
    let v = checked-passes c.args.buf.now c.args.used c.in_default.ensures in
    sym (checked c.args.buf.now c.args.used v).long

pub count_sets-n-requires : goal.count_sets-n-requires
count_sets-n-requires c =
    let v = checked-passes c.args.buf.now c.args.used c.in_default.ensures in
    (checked c.args.buf.now c.args.used v).readable

pub returns-then-room-n : goal.returns-then-room-n
returns-then-room-n c =
    let v = checked-passes c.args.buf.now c.args.used c.in_default.ensures in
    does-short c.args.buf.now c.args.used c.args.req.now c.args.room v (subst (λ (n : ℕ). c.args.room < n) c.count_sets-n.ensures c.if-room-n.true)

pub settle-answer-requires : goal.settle-answer-requires
settle-answer-requires c =
    record { used_value = (sym c.in_default.ensures, c.plan-p.ensures); file_bytes_in_bounds = omega arith }

pub returns : goal.returns
returns c =
    let v = checked-passes c.args.buf.now c.args.used c.in_default.ensures in
    let fits = subst (λ (n : ℕ). n ≤ c.args.room) c.count_sets-n.ensures c.if-room-n.false in
    let done = does-edit c.args.buf.now c.args.used c.args.req.now c.args.room v fits c.settle-answer.result c.settle-answer.new.buf c.settle-answer.ensures in
    subst (Does c.args.buf.now c.args.used c.args.req.now c.args.room c.settle-answer.new.buf) (λ i. record { answer = c.settle-answer.result; used = sym (c.unwrap_or.ensures ∙ value-told c.args.used c.settle-answer.result) i; sets = sym c.count_sets-n.ensures i }) done
