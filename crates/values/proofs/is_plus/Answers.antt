-- `values::is_plus` meets its contract: before the second place nothing stands that a byte could be behind.
use native.Mathlib.Omega.{arith}
use mathlib.Core.Path.{sym, ◌∙◌}
use Prim.Native.Nat.{◌-◌}
use borrow.Author.Tests.{eq-eqb, ne_eqb}
use Rattle.values.proofs.Backwards.{untrue, byte_at, is-plus, plus-far}
use Rattle.values.proofs.is_plus.Goals as goal

pub returns-then-byte-ne43 : goal.returns-then-byte-ne43
returns-then-byte-ne43 c =
    rw (ne_eqb _ 43 (λ q. c.if-byte-ne43.true (c.byte.ensures ∙ q)))

pub returns-then-i-eq0 : goal.returns-then-i-eq0
returns-then-i-eq0 c =
    let n = c.if-i-eq0.true in sym (untrue _ (λ e. omega (arith, plus-far c.args.s.now c.args.i e)))

pub returns-then-byte-ne10 : goal.returns-then-byte-ne10
returns-then-byte-ne10 c =
    rw (eq-eqb _ 43 (sym c.byte.ensures ∙ c.if-byte-ne43.false), ne_eqb _ 10 (λ q. c.if-byte-ne10.true (c.byte-2.ensures ∙ q)))

pub returns-then-i-eq1 : goal.returns-then-i-eq1
returns-then-i-eq1 c =
    let s = c.args.s.now in
    let i = c.args.i in
    let n = c.if-i-eq1.true in
    let b = sym c.byte-2.ensures ∙ c.if-byte-ne10.false in
    sym (is-plus s i (sym c.byte.ensures ∙ c.if-byte-ne43.false) b (λ q. omega (arith, b, byte_at s (i - 2) (i - 1) (omega arith))))

pub returns : goal.returns
returns c =
    rw (eq-eqb _ 43 (sym c.byte.ensures ∙ c.if-byte-ne43.false), eq-eqb _ 10 (sym c.byte-2.ensures ∙ c.if-byte-ne10.false), c.byte-3.ensures)
