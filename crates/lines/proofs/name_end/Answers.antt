use native.Mathlib.Omega.{arith}
use mathlib.Core.Path.{sym, ◌∙◌}
use Rattle.format.specs.Lines.{is_later}
use Rattle.lines.proofs.Heads.{run_more, run-stop, name-some, name-inside}
use Rattle.lines.proofs.name_end.Goals as goal

pub loop-i-init : goal.loop-i-init
loop-i-init c =
    (omega (arith, name-inside c.args.s.now c.requires.s_value c.requires.s_nonzero), name-some c.args.s.now c.requires.s_nonzero)

pub loop-i-preserved : goal.loop-i-preserved
loop-i-preserved c =
    let m = run_more is_later c.args.s.now c.loop-i.i c.loop-i.invariant.0 (sym c.is_later.ensures ∙ c.if-is_later.true) in
    (omega (arith, m, name-inside c.args.s.now c.requires.s_value c.requires.s_nonzero), omega (arith, m))

pub returns-else-is_later : goal.returns-else-is_later
returns-else-is_later c =
    omega (arith, run-stop is_later c.args.s.now c.loop-i.i c.loop-i.invariant.0 (sym c.is_later.ensures ∙ c.if-is_later.false))
