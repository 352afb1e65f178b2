use Prim.Native.Nat.{◌+◌}
use native.Mathlib.Omega.{arith}
use mathlib.Core.Path.{refl, ap, ◌∙◌}
use lib.ListN.{length, drop, get_or, length-set}
use Rattle.format.specs.Written.{indent}
use Rattle.writing.proofs.Texts.{indent-some, indent-more, indent-newline, indent-end, sets-byte, sets-newline}
use Rattle.writing.proofs.put_value.Goals as goal
use Rattle.writing.proofs.put_value.Goals.{then-b-eq10, else-b-eq10}

pub loop-b-init : goal.loop-b-init
loop-b-init c = (refl, refl, refl)

pub bounds-out-n : goal.bounds-out-n
bounds-out-n c =
    omega (arith, indent-some c.args.value.now c.loop-b.b-index c.loop-b-test.true)

pub bounds-out-n-then-b-eq10 : goal.bounds-out-n-then-b-eq10
bounds-out-n-then-b-eq10 c =
    simp length-set (omega (arith, ap length (indent-newline c.args.value.now c.loop-b.b-index c.loop-b-test.true c.if-b-eq10.true)))

pub bounds-out-n-then-b-eq10-2 : goal.bounds-out-n-then-b-eq10-2
bounds-out-n-then-b-eq10-2 c =
    simp length-set (omega (arith, ap length (indent-newline c.args.value.now c.loop-b.b-index c.loop-b-test.true c.if-b-eq10.true)))

pub loop-b-preserved : goal.loop-b-preserved
loop-b-preserved c =
    let v = c.args.value.now in
    let i = c.loop-b.b-index in
    let t = indent (drop (i + 1) v) in
    elim c.if-b-eq10.branch [
      | then-b-eq10 w ↦ let e = indent-newline v i c.loop-b-test.true w.if-b-eq10.true in
          (ap length w.out-is ∙ simp length-set c.loop-b.invariant.0, omega (arith, ap length e), rw (w.out-is, w.n-is) (sets-newline c.loop-b.out c.loop-b.n (get_or v i 0) t ∙ (rw e at c.loop-b.invariant.2)))
      | else-b-eq10 w ↦ let e = indent-more v i c.loop-b-test.true w.if-b-eq10.false in
          (ap length w.out-is ∙ simp length-set c.loop-b.invariant.0, omega (arith, ap length e), rw (w.out-is, w.n-is) (sets-byte c.loop-b.out c.loop-b.n (get_or v i 0) t ∙ (rw e at c.loop-b.invariant.2)))
    ]

pub returns : goal.returns
returns c =
    let e = indent-end c.args.value.now c.loop-b.b-index c.loop-b-test.false in (omega (arith, ap length e), rw e at c.loop-b.invariant.2)
