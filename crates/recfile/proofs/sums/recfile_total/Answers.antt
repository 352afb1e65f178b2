-- What each case of the answer tells C.
use mathlib.Core.Path.{◌∙◌}
use Rattle.recfile.proofs.Added.{sums-told, refusal-told}
use Rattle.recfile.proofs.sums.recfile_total.Goals as goal

pub returns-in-Ok : goal.returns-in-Ok
returns-in-Ok c =
    sums-told c.args.buf.now c.args.used c.args.set.now c.args.name.now c.total.result c.total.ensures c.in-Ok.field-0.hundredths c.in-Ok.field-0.millionths c.in-Ok.field-0.number c.in-Ok.is c.args.hundredths.now c.args.millionths.now

pub returns-in-Err : goal.returns-in-Err
returns-in-Err c =
    let t = refusal-told c.args.buf.now c.args.used c.args.set.now c.args.name.now c.total.result c.total.ensures c.in-Err.refusal c.in-Err.is c.args.hundredths.now c.args.millionths.now in
    (t.0, t.1, t.2, c.number.ensures ∙ t.3)
