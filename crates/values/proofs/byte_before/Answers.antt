use Rattle.std.specs.Prelude.{Some}
use native.Mathlib.Omega.{arith}
use Prim.Native.Nat.{◌-◌}
use mathlib.Core.Path.{refl, ◌∙◌}
use lib.ListN.{get_or}
use Rattle.values.proofs.Backwards.{reaches-inside, joint-before, high-before, precedes-from, precedes-none}
use Rattle.values.proofs.byte_before.Goals as goal

pub loop-at-init : goal.loop-at-init
loop-at-init c =
    (omega arith, c.requires, refl)

pub bounds-s-at : goal.bounds-s-at
bounds-s-at c =
    let h = c.loop-at-test.true in omega (arith, reaches-inside c.args.s.now c.loop-at.at c.loop-at.invariant.1)

pub returns-then-b-gt43 : goal.returns-then-b-gt43
returns-then-b-gt43 c =
    precedes-from c.args.s.now c.args.k c.loop-at.at (Some (record { byte = get_or c.args.s.now (c.loop-at.at - 1) 0; next = c.loop-at.at - 1 })) c.loop-at.invariant.0 c.loop-at.invariant.2 (high-before c.args.s.now c.loop-at.at c.loop-at.invariant.1 c.loop-at-test.true c.if-b-gt43.true)

pub last_byte-requires : goal.last_byte-requires
last_byte-requires c =
    record { reaches = c.loop-at.invariant.1; k_nonzero = (c.loop-at-test.true, c.if-b-ne10.true) }

pub returns-then-b-ne10 : goal.returns-then-b-ne10
returns-then-b-ne10 c =
    precedes-from c.args.s.now c.args.k c.loop-at.at c.last_byte.result c.loop-at.invariant.0 c.loop-at.invariant.2 c.last_byte.ensures

pub overflow_sub-at : goal.overflow_sub-at
overflow_sub-at c =
    (joint-before c.args.s.now c.loop-at.at c.loop-at.invariant.1 c.loop-at-test.true c.if-b-ne10.false).0

pub loop-at-smaller : goal.loop-at-smaller
loop-at-smaller c =
    let h = c.loop-at-test.true in omega arith

pub loop-at-preserved : goal.loop-at-preserved
loop-at-preserved c =
    let j = joint-before c.args.s.now c.loop-at.at c.loop-at.invariant.1 c.loop-at-test.true c.if-b-ne10.false in
    (omega arith, j.1, j.2 ∙ c.loop-at.invariant.2)

pub returns : goal.returns
returns c =
    precedes-none c.args.s.now c.args.k c.loop-at.at (omega arith) c.loop-at.invariant.2
