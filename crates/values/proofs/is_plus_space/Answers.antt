-- `values::is_plus_space` meets its contract: at the first place no plus stands before it.
use native.Mathlib.Omega.{arith}
use mathlib.Core.Path.{sym, ◌∙◌}
use borrow.Author.Tests.{eq-eqb, ne_eqb}
use Rattle.values.proofs.Backwards.{untrue, space-far}
use Rattle.values.proofs.is_plus_space.Goals as goal

pub returns-then-byte-ne32 : goal.returns-then-byte-ne32
returns-then-byte-ne32 c =
    rw (ne_eqb _ 32 (λ q. c.if-byte-ne32.true (c.byte.ensures ∙ q)))

pub returns-then-i-eq0 : goal.returns-then-i-eq0
returns-then-i-eq0 c =
    let n = c.if-i-eq0.true in sym (untrue _ (λ e. omega (arith, space-far c.args.s.now c.args.i e)))

pub returns : goal.returns
returns c =
    rw (eq-eqb _ 32 (sym c.byte.ensures ∙ c.if-byte-ne32.false)) c.is_plus.ensures
