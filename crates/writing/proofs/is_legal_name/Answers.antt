-- `writing::is_legal_name` meets its contract: a name is legal by its length, its first byte and the run of name bytes at its front.
use native.Mathlib.Omega.{arith}
use mathlib.Core.Path.{sym, ◌∙◌}
use Rattle.writing.proofs.IsLegalName.{name-long, name-special, name-unnamed, name-legal}
use Rattle.writing.proofs.is_legal_name.Goals as goal

pub returns-then-s-gt-NAME : goal.returns-then-s-gt-NAME
returns-then-s-gt-NAME c =
    sym (name-long c.args.s.now c.if-s-gt-NAME.true)

pub returns-then-is_special : goal.returns-then-is_special
returns-then-is_special c =
    sym (name-special c.args.s.now (sym c.is_special.ensures ∙ c.if-is_special.true))

pub returns-then-n-eq0 : goal.returns-then-n-eq0
returns-then-n-eq0 c =
    sym (name-unnamed c.args.s.now (sym c.name_len-n.ensures ∙ c.if-n-eq0.true))

pub returns : goal.returns
returns c =
    rw c.name_len-n.ensures (sym (name-legal c.args.s.now c.if-s-gt-NAME.false (sym c.is_special.ensures ∙ c.if-is_special.false) (omega (arith, c.name_len-n.ensures))))
