use Prim.Native.Nat.{◌-◌}
use native.Mathlib.Omega.{arith}
use mathlib.Core.Path.{◌≡◌, refl, ◌∙◌}
use mathlib.Core.List.{append-nil}
use lib.ListN.{length, length-set}
use lib.Seq.{drop-length}
use borrow.Author.Fill.{fill_more}
use Rattle.splices.proofs.space.clear.Goals as goal

pub loop-i-init : goal.loop-i-init
loop-i-init c = (omega arith, refl, refl)

pub loop-i-preserved : goal.loop-i-preserved
loop-i-preserved c =
    (omega arith, simp length-set (omega arith), cc (fill_more c.loop-i.i 0 c.args.part.now (omega arith)))

pub returns : goal.returns
returns c =
    let e : c.loop-i.i ≡ length c.args.part.now = omega arith in
    c.loop-i.invariant.2 ∙ rw (e, drop-length, append-nil)
