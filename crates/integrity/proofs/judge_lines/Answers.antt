-- `integrity::judge_lines` meets its contract, by what the walk over the pieces has found.
use mathlib.Core.Path.{refl, sym, ap, ◌∙◌}
use Rattle.format.specs.Pieces.{read_of}
use Rattle.format.specs.Refusals.{no_of}
use Rattle.format.proofs.Records.{records}
use Rattle.rules.proofs.Leasts.{handed}
use Rattle.integrity.proofs.Staging.{text-ended, text-records, bounds-told, few-heads}
use Rattle.integrity.proofs.judge_lines.Goals as goal

pub bounds_of-requires : goal.bounds_of-requires
bounds_of-requires c =
    record { s_value = (text-ended c.args.s.now c.requires.s_value, c.requires.s_len_bound); starts_len = (refl, refl, refl) }

pub judge_described-requires : goal.judge_described-requires
judge_described-requires c =
    let t = c.in_ok-count.ensures in
    record { s_len_bound = c.requires.s_len_bound; s_value = (t.1, t.2); head_rows = (t.4, few-heads (records (read_of c.args.s.now)) t.1 _ t.3) }

pub returns-in_err-count : goal.returns-in_err-count
returns-in_err-count c =
    handed c.bounds_of.result c.in_err-count.field-0.0 c.in_err-count.was c.from_residual.result c.from_residual.ensures.1
    ∙ ap no_of c.in_err-count.was
    ∙ bounds-told c.args.s.now c.requires.s_value c.in_err-count.field-0.0 c.in_err-count.ensures

pub returns : goal.returns
returns c =
    let t = c.in_ok-count.ensures in
    c.judge_described.ensures ∙ sym (text-records c.args.s.now c.requires.s_value t.0)
