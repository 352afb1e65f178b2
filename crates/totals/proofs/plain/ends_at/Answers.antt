-- A newline with no plus behind it ends a value.
use mathlib.Core.Path.{sym, ◌∙◌}
use mathlib.Core.Bool.{false≢true}
use Rattle.values.proofs.Decoding.{end-at}
use Rattle.totals.proofs.plain.ends_at.Goals as goal

pub returns-then-byte-ne10 : goal.returns-then-byte-ne10
returns-then-byte-ne10 c = λ q. absurd (false≢true q)

pub returns-then-byte-eq43 : goal.returns-then-byte-eq43
returns-then-byte-eq43 c = λ q. absurd (false≢true q)

pub returns : goal.returns
returns c =
    λ y. end-at c.args.s.now c.args.i (sym c.byte.ensures ∙ c.if-byte-ne10.false) (λ q. c.if-byte-eq43.false (c.byte-2.ensures ∙ q))
