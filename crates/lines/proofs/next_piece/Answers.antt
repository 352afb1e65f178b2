-- `lines::next_piece` meets its contract: the first bytes of the line tell its form.
use mathlib.Core.Path.{sym, ◌∙◌}
use native.Mathlib.Omega.{arith}
use borrow.Author.Tests.{eq-eqb, ne_eqb}
use Rattle.lines.proofs.Cuts.{line-inside}
use Rattle.lines.proofs.Heads.{name-first}
use Rattle.lines.proofs.Nexts.{next-end, next-unnamed, next-newline}
use Rattle.lines.proofs.next_piece.Goals as goal

pub returns-then-s-eq0 : goal.returns-then-s-eq0
returns-then-s-eq0 c =
    sym (next-end c.args.s.now c.if-s-eq0.true)

pub returns-then-b-eq10 : goal.returns-then-b-eq10
returns-then-b-eq10 c =
    sym (next-newline c.args.s.now (omega arith) c.if-b-eq10.true)

pub next_field-requires : goal.next_field-requires
next_field-requires c =
    record { s_value = c.requires.s_value; s_nonzero = omega (arith, name-first c.args.s.now (omega arith) (sym c.is_first.ensures ∙ c.if-is_first.true)) }

pub overflow_add-result : goal.overflow_add-result
overflow_add-result c =
    omega (arith, line-inside c.args.s.now c.requires.s_value (omega arith))

pub returns-then-b-eq35 : goal.returns-then-b-eq35
returns-then-b-eq35 c =
    rw (next-unnamed c.args.s.now (omega arith) (sym c.is_first.ensures ∙ c.if-is_first.false), eq-eqb _ _ c.if-b-eq35.true, ← c.line_len-n.ensures)

pub overflow_add-result-then-blank_line : goal.overflow_add-result-then-blank_line
overflow_add-result-then-blank_line c =
    omega (arith, line-inside c.args.s.now c.requires.s_value (omega arith))

pub returns-then-blank_line : goal.returns-then-blank_line
returns-then-blank_line c =
    rw (next-unnamed c.args.s.now (omega arith) (sym c.is_first.ensures ∙ c.if-is_first.false), ne_eqb _ _ c.if-b-eq35.false, ← c.blank_line.ensures, c.if-blank_line.true, ← c.line_len-n-then-blank_line.ensures)

pub returns : goal.returns
returns c =
    rw (next-unnamed c.args.s.now (omega arith) (sym c.is_first.ensures ∙ c.if-is_first.false), ne_eqb _ _ c.if-b-eq35.false, ← c.blank_line.ensures, c.if-blank_line.false)
