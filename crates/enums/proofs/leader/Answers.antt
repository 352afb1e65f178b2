use Prim.Native.Nat.{ℕ}
use native.Mathlib.Omega.{arith}
use mathlib.Core.Path.{◌≡◌, ap}
use lib.ListN.{get_or}
use Rattle.enums.proofs.Rows.{leader-start, place_here, place-on}
use Rattle.enums.proofs.leader.Goals as goal

pub loop-i-init : goal.loop-i-init
loop-i-init c =
    leader-start c.args.texts.now c.args.from c.args.row

pub returns-then-texts-i : goal.returns-then-texts-i
returns-then-texts-i c =
    let v = get_or c.args.texts.now c.args.row 0 in
    let p = place_here c.args.texts.now v c.loop-i.i (omega (arith, c.requires.1, c.loop-i-test.true)) c.if-texts-i.true in
    (omega (arith, c.loop-i.invariant, p), omega arith, omega (arith, c.loop-i-test.true))

pub loop-i-preserved : goal.loop-i-preserved
loop-i-preserved c =
    let v = get_or c.args.texts.now c.args.row 0 in
    let p = place-on c.args.texts.now v c.loop-i.i (omega (arith, c.requires.1, c.loop-i-test.true)) c.if-texts-i.false in
    omega (arith, c.loop-i.invariant, p)

pub returns : goal.returns
returns c =
    let e : c.loop-i.i ≡ c.args.row = omega (arith, c.requires.0, c.loop-i-test.false) in
    let p = place_here c.args.texts.now (get_or c.args.texts.now c.args.row 0) c.loop-i.i (omega (arith, c.requires.1)) (ap (λ (j : ℕ). get_or c.args.texts.now j 0) e) in
    (omega (arith, c.loop-i.invariant, p), c.requires.0, omega arith)
