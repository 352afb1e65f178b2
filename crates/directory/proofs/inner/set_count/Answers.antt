-- `directory::inner::set_count` meets its contract.
use Rattle.std.specs.Prelude.{ℕ, ◌<◌, ◌≤◌}
use mathlib.Core.Path.{sym, ap, ◌∙◌, subst}
use Rattle.format.specs.Calls.{Answer}
use Rattle.records.proofs.Checked.{checked}
use Rattle.directory.proofs.Files.{checked-passes, counted-fails, counted-short, counted-fits}
use Rattle.directory.proofs.inner.set_count.Goals as goal

pub returns-in_err-check : goal.returns-in_err-check
returns-in_err-check c =
    counted-fails c.args.buf.now c.args.used c.args.room c.in_err-check.field-0.0 c.in_err-check.ensures c.from_residual.result c.from_residual.ensures

pub slice_bounds-count_sets-end : goal.slice_bounds-count_sets-end
slice_bounds-count_sets-end c =
    let v = checked-passes c.args.buf.now c.args.used c.in_ok-check.ensures in
    sym (checked c.args.buf.now c.args.used v).long

pub count_sets-n-requires : goal.count_sets-n-requires
count_sets-n-requires c =
    let v = checked-passes c.args.buf.now c.args.used c.in_ok-check.ensures in
    (checked c.args.buf.now c.args.used v).readable

pub returns-then-room-n : goal.returns-then-room-n
returns-then-room-n c =
    let v = checked-passes c.args.buf.now c.args.used c.in_ok-check.ensures in
    counted-short c.args.buf.now c.args.used c.args.room v (subst (λ (n : ℕ). c.args.room < n) c.count_sets-n.ensures c.if-room-n.true)

pub returns : goal.returns
returns c =
    let v = checked-passes c.args.buf.now c.args.used c.in_ok-check.ensures in
    ap Answer.value c.count_sets-n.ensures ∙ counted-fits c.args.buf.now c.args.used c.args.room v (subst (λ (n : ℕ). n ≤ c.args.room) c.count_sets-n.ensures c.if-room-n.false)
