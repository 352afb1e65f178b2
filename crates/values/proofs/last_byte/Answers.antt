-- `values::last_byte` meets its contract: the tests of the byte before k tell the step that led there.
use native.Mathlib.Omega.{arith}
use mathlib.Core.Path.{sym, ◌∙◌}
use Prim.Native.Nat.{◌-◌}
use Rattle.values.proofs.Backwards.{reaches-inside, plus-far, space-far, plus-before, space-before, plain-before}
use Rattle.values.proofs.last_byte.Goals as goal

pub overflow_sub-result : goal.overflow_sub-result
overflow_sub-result c =
    plus-far c.args.s.now (c.args.k - 1) (sym c.is_plus.ensures ∙ c.if-is_plus.true)

pub returns-then-is_plus : goal.returns-then-is_plus
returns-then-is_plus c =
    plus-before c.args.s.now c.args.k c.requires.reaches c.requires.k_nonzero.0 (sym c.is_plus.ensures ∙ c.if-is_plus.true)

pub overflow_sub-result-then-is_plus_space : goal.overflow_sub-result-then-is_plus_space
overflow_sub-result-then-is_plus_space c =
    space-far c.args.s.now (c.args.k - 1) (sym c.is_plus_space.ensures ∙ c.if-is_plus_space.true)

pub returns-then-is_plus_space : goal.returns-then-is_plus_space
returns-then-is_plus_space c =
    space-before c.args.s.now c.args.k c.requires.reaches c.requires.k_nonzero.0 (sym c.is_plus_space.ensures ∙ c.if-is_plus_space.true)

pub bounds-s-i : goal.bounds-s-i
bounds-s-i c =
    omega (arith, reaches-inside c.args.s.now c.args.k c.requires.reaches, c.requires.k_nonzero.0)

pub returns : goal.returns
returns c =
    plain-before c.args.s.now c.args.k c.requires.reaches c.requires.k_nonzero.0 c.requires.k_nonzero.1 (sym c.is_plus.ensures ∙ c.if-is_plus.false) (sym c.is_plus_space.ensures ∙ c.if-is_plus_space.false)
