-- `numbers::int_within` meets its contract.
use mathlib.Core.Path.{sym, ap, ◌∙◌}
use Rattle.format.specs.Numbers.{plus, minus}
use Rattle.numbers.specs.Meaning.{int_answer, bounds_in}
use Rattle.numbers.proofs.Reading.{signed, int-minus, int-plus}
use Rattle.numbers.proofs.int_within.Goals as goal

pub returns-in_err-unsigned_of : goal.returns-in_err-unsigned_of
returns-in_err-unsigned_of c =
    ap int_answer c.from_residual.ensures ∙ sym (int-minus (bounds_in c.args.ends) c.args.s.now (sym c.byte.ensures ∙ c.if-byte-eq45.true) ∙ ap (signed minus) (sym (c.in_err-unsigned_of.ensures)))

pub returns-then-byte-eq45 : goal.returns-then-byte-eq45
returns-then-byte-eq45 c =
    sym (int-minus (bounds_in c.args.ends) c.args.s.now (sym c.byte.ensures ∙ c.if-byte-eq45.true) ∙ ap (signed minus) (sym (c.in_ok-unsigned_of.ensures)))

pub returns-in_err-unsigned_of-2 : goal.returns-in_err-unsigned_of-2
returns-in_err-unsigned_of-2 c =
    ap int_answer c.from_residual-in_err-unsigned_of-2.ensures ∙ sym (int-plus (bounds_in c.args.ends) c.args.s.now (λ e. c.if-byte-eq45.false (c.byte.ensures ∙ e)) ∙ ap (signed plus) (sym (c.in_err-unsigned_of-2.ensures)))

pub returns : goal.returns
returns c =
    sym (int-plus (bounds_in c.args.ends) c.args.s.now (λ e. c.if-byte-eq45.false (c.byte.ensures ∙ e)) ∙ ap (signed plus) (sym (c.in_ok-unsigned_of-2.ensures)))
