-- The class tells, and each test of the code is one of the class.
use Rattle.std.proofs.Common.{rules, eq-eqb, ne_eqb}
use Rattle.format.proofs.Table.{later-class}
use Rattle.format.proofs.bytes.Classes.is_later.Goals as goal

pub returns-then-k-eq-LETTER : goal.returns-then-k-eq-LETTER
returns-then-k-eq-LETTER c =
    rw (later-class c.args.b (search rules), ← c.class-k.ensures, eq-eqb _ _ c.if-k-eq-LETTER.true)

pub returns-then-k-eq-DIGIT : goal.returns-then-k-eq-DIGIT
returns-then-k-eq-DIGIT c =
    rw (later-class c.args.b (search rules), ← c.class-k.ensures, ne_eqb _ _ c.if-k-eq-LETTER.false, eq-eqb _ _ c.if-k-eq-DIGIT.true)

pub returns-else-k-eq-DIGIT : goal.returns-else-k-eq-DIGIT
returns-else-k-eq-DIGIT c =
    rw (later-class c.args.b (search rules), ← c.class-k.ensures, ne_eqb _ _ c.if-k-eq-LETTER.false, ne_eqb _ _ c.if-k-eq-DIGIT.false)
