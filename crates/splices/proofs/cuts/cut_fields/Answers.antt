-- `splices::cuts::cut_fields` meets its contract: what stays stands at the part's front, and the text's tail closes up behind it.
use native.Mathlib.Omega.{arith}
use mathlib.Core.Path.{sym, ap, ◌∙◌}
use Rattle.records.specs.Places.{is_readable}
use Rattle.splices.proofs.Left.{span-front, fields-cut}
use Rattle.splices.proofs.cuts.cut_fields.Goals as goal

pub keep_loose-requires : goal.keep_loose-requires
keep_loose-requires c =
    let a = c.args in ap is_readable (sym (span-front a.buf.now a.used a.start a.end (omega arith))) ∙ c.requires.buf_value

pub returns : goal.returns
returns c =
    let a = c.args in
    let k = c.keep_loose in
    fields-cut a.buf.now k.new.part a.used a.start a.end k.result (omega arith) (omega arith) (omega arith) (omega arith) (omega arith) k.ensures.1 c.cut_text.result c.cut_text.new.buf c.cut_text.ensures.0 c.cut_text.ensures.1
