-- The class tells, and each test of the code is one of the class.
use Rattle.std.proofs.Common.{rules, eq-eqb, ne_eqb}
use Rattle.format.proofs.Table.{first-class}
use Rattle.format.proofs.bytes.Classes.is_first.Goals as goal

pub returns-then-k-eq-LETTER : goal.returns-then-k-eq-LETTER
returns-then-k-eq-LETTER c =
    let b = c.args.b in
    rw (first-class b (search rules), ← c.class-k.ensures, eq-eqb _ _ c.if-k-eq-LETTER.true)

pub returns-else-k-eq-LETTER : goal.returns-else-k-eq-LETTER
returns-else-k-eq-LETTER c =
    let b = c.args.b in
    rw (first-class b (search rules), ← c.class-k.ensures, ne_eqb _ _ c.if-k-eq-LETTER.false)
