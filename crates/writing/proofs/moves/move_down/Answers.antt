use native.Mathlib.Omega.{arith}
use mathlib.Core.Path.{◌≡◌, refl}
use lib.ListN.{drop, length-set}
use lib.Seq.{paste-zero}
use Rattle.writing.proofs.Moving.{moved_down}
use Rattle.writing.proofs.moves.move_down.Goals as goal

pub loop-i-init : goal.loop-i-init
loop-i-init c = (omega arith, refl, paste-zero c.args.buf.now c.args.to (drop c.args.from c.args.buf.now))

pub loop-i-preserved : goal.loop-i-preserved
loop-i-preserved c =
    let a = c.args in
    let e = moved_down a.buf.now a.from a.to a.n c.loop-i.i (omega arith) (omega arith) (omega arith) in
    (omega arith, simp length-set (omega arith), cc)

pub returns : goal.returns
returns c =
    let e : c.loop-i.i ≡ c.args.n = omega arith in
    cc
