use native.Mathlib.Numerals.{add-one}
use native.Mathlib.Omega.{arith}
use mathlib.Core.Path.{refl, ◌∙◌}
use lib.ListN.{length-set, drop_of_length-le}
use lib.Seq.{drop-cons}
use Rattle.lines.proofs.Over.{over-sets}
use Rattle.writing.proofs.put_bytes.Goals as goal

pub loop-i-init : goal.loop-i-init
loop-i-init c = (refl, refl)

pub loop-i-preserved : goal.loop-i-preserved
loop-i-preserved c =
    (simp length-set (omega arith), rw add-one (rw (drop-cons c.args.s.now c.loop-i.i 0 c.loop-i-test.true) at c.loop-i.invariant.1))

pub returns : goal.returns
returns c =
    (rw (drop_of_length-le c.args.s.now c.loop-i-test.false) at c.loop-i.invariant.1) ∙ over-sets c.args.s.now c.args.out.now (omega arith)
