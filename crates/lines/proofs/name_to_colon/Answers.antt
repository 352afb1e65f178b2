use native.Mathlib.Omega.{arith}
use mathlib.Core.Path.{sym}
use Rattle.lines.proofs.Heads.{name-some, name-inside, colon-more, colon-stop}
use Rattle.lines.proofs.name_to_colon.Goals as goal

pub loop-i-init : goal.loop-i-init
loop-i-init c =
    (omega (arith, name-inside c.args.s.now c.requires.s_value c.requires.s_nonzero.0), name-some c.args.s.now c.requires.s_nonzero.0)

pub loop-i-preserved : goal.loop-i-preserved
loop-i-preserved c =
    let m = colon-more c.args.s.now c.loop-i.i c.loop-i.invariant.0 c.requires.s_nonzero.1 c.loop-i.invariant.1 c.loop-i-test.true in
    (omega (arith, m, name-inside c.args.s.now c.requires.s_value c.requires.s_nonzero.0), m)

pub returns : goal.returns
returns c =
    sym (colon-stop c.args.s.now c.loop-i.i c.loop-i.invariant.0 c.requires.s_nonzero.1 c.loop-i.invariant.1 c.loop-i-test.false)
