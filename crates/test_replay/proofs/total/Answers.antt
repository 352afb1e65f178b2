-- `test_replay::total` meets its contract: both sums of an answer fit.
use mathlib.Core.Path.{sym, ap, ◌∙◌}
use Rattle.totals.specs.Totals.{Total, totalled_by}
use Rattle.totals.proofs.Bits.{seen-held}
use Rattle.totals.proofs.Totalling.{total-held}
use Rattle.test_replay.proofs.total.Goals as goal

pub tell_total-requires : goal.tell_total-requires
tell_total-requires c =
    let t : Total = record { hundredths = c.in-Ok.field-0.hundredths; millionths = c.in-Ok.field-0.millionths; number = c.in-Ok.field-0.number } in
    let held = total-held c.args.buf.now c.args.used c.args.set.now c.args.name.now t (sym c.total.ensures ∙ ap totalled_by c.in-Ok.is) in
    (seen-held t.hundredths held.0, seen-held t.millionths held.1)
