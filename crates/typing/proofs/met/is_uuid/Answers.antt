-- `typing::met::is_uuid` meets its contract.
use borrow.Author.Tests.{not-true, not-false}
use mathlib.Core.Path.{sym, ◌∙◌}
use Rattle.typing.proofs.Uuids.{uuid-length, uuid-by}
use mathlib.Core.Bool.{not}
use mathlib.Core.Path.{ap}
use Rattle.typing.proofs.met.is_uuid.Goals as goal

pub returns-then-s-ne36 : goal.returns-then-s-ne36
returns-then-s-ne36 c =
    sym (uuid-length c.args.s.now c.if-s-ne36.true)

pub returns-then-not-dashed : goal.returns-then-not-dashed
returns-then-not-dashed c =
    sym (uuid-by c.args.s.now c.if-s-ne36.false ∙ rw (← c.dashed.ensures, not-true c.dashed.result (ap not c.if-not-dashed.true)))

pub returns-then-not-dashed-2 : goal.returns-then-not-dashed-2
returns-then-not-dashed-2 c =
    sym (uuid-by c.args.s.now c.if-s-ne36.false ∙ rw (← c.dashed.ensures, not-false c.dashed.result (ap not c.if-not-dashed.false), ← c.dashed-2.ensures, not-true c.dashed-2.result (ap not c.if-not-dashed-2.true)))

pub returns-then-not-dashed-3 : goal.returns-then-not-dashed-3
returns-then-not-dashed-3 c =
    sym (uuid-by c.args.s.now c.if-s-ne36.false ∙ rw (← c.dashed.ensures, not-false c.dashed.result (ap not c.if-not-dashed.false), ← c.dashed-2.ensures, not-false c.dashed-2.result (ap not c.if-not-dashed-2.false), ← c.dashed-3.ensures, not-true c.dashed-3.result (ap not c.if-not-dashed-3.true)))

pub returns-then-not-dashed-4 : goal.returns-then-not-dashed-4
returns-then-not-dashed-4 c =
    sym (uuid-by c.args.s.now c.if-s-ne36.false ∙ rw (← c.dashed.ensures, not-false c.dashed.result (ap not c.if-not-dashed.false), ← c.dashed-2.ensures, not-false c.dashed-2.result (ap not c.if-not-dashed-2.false), ← c.dashed-3.ensures, not-false c.dashed-3.result (ap not c.if-not-dashed-3.false), ← c.dashed-4.ensures, not-true c.dashed-4.result (ap not c.if-not-dashed-4.true)))

pub returns : goal.returns
returns c =
    sym (uuid-by c.args.s.now c.if-s-ne36.false ∙ rw (← c.dashed.ensures, not-false c.dashed.result (ap not c.if-not-dashed.false), ← c.dashed-2.ensures, not-false c.dashed-2.result (ap not c.if-not-dashed-2.false), ← c.dashed-3.ensures, not-false c.dashed-3.result (ap not c.if-not-dashed-3.false), ← c.dashed-4.ensures, not-false c.dashed-4.result (ap not c.if-not-dashed-4.false), ← c.are_digits.ensures))
