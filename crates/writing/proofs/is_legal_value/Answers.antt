-- `writing::is_legal_value` meets its contract: the length, and then the walk over the bytes.
use mathlib.Core.Path.{sym, ◌∙◌}
use Rattle.writing.proofs.Plain.{value-long, value-short}
use Rattle.writing.proofs.is_legal_value.Goals as goal

pub returns-then-s-gt-VALUE : goal.returns-then-s-gt-VALUE
returns-then-s-gt-VALUE c =
    sym (value-long c.args.s.now c.if-s-gt-VALUE.true)

pub returns : goal.returns
returns c =
    c.is_plain.ensures ∙ sym (value-short c.args.s.now c.if-s-gt-VALUE.false)
