-- `integrity::judge` meets its contract: question 2, else the others.
use mathlib.Core.Path.{sym, ◌∙◌}
use Rattle.integrity.proofs.Staging.{text-no}
use Rattle.integrity.proofs.judge.Goals as goal

pub judge_lines-requires : goal.judge_lines-requires
judge_lines-requires c =
    record { s_value = sym c.is_text.ensures ∙ c.if-is_text.true; s_len_bound = c.requires }

pub returns-then-is_text : goal.returns-then-is_text
returns-then-is_text c =
    c.judge_lines.ensures

pub returns : goal.returns
returns c =
    text-no c.args.s.now (sym c.is_text.ensures ∙ c.if-is_text.false)
