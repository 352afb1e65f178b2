-- `words::is_type_name` meets its contract.
use native.Mathlib.Omega.{arith}
use mathlib.Core.Path.{sym, ◌∙◌}
use borrow.Author.Tests.{eq-eqb, ne_eqb}
use Rattle.words.proofs.IsName.{type-name-told}
use Rattle.words.proofs.is_type_name.Goals as goal

pub returns-then-class-eq-LETTER : goal.returns-then-class-eq-LETTER
returns-then-class-eq-LETTER c =
    let told = type-name-told c.args.s.now c.in-Some.rest.now c.in-Some.first.now c.in-Some.ensures.cases.0 (omega (arith, c.type_inv.s 0)) in
    c.later_bytes.ensures ∙ sym (told ∙ rw (← c.class.ensures, eq-eqb _ _ c.if-class-eq-LETTER.true))

pub returns-else-class-eq-LETTER : goal.returns-else-class-eq-LETTER
returns-else-class-eq-LETTER c =
    let told = type-name-told c.args.s.now c.in-Some.rest.now c.in-Some.first.now c.in-Some.ensures.cases.0 (omega (arith, c.type_inv.s 0)) in
    sym (told ∙ rw (← c.class.ensures, ne_eqb _ _ c.if-class-eq-LETTER.false))
