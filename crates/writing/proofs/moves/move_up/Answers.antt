use Prim.Native.Nat.{ℕ, ◌+◌, ◌-◌}
use native.Mathlib.Omega.{arith}
use mathlib.Core.Path.{◌≡◌, refl}
use lib.ListN.{length, take, drop, length-set, length-take, length-drop}
use Rattle.format.specs.Bytes.{Bytes}
use Rattle.writing.proofs.Moving.{hung-none, hung-all, moved_up}
use Rattle.writing.proofs.moves.move_up.Goals as goal

pub loop-i-init : goal.loop-i-init
loop-i-init c =
    let a = c.args in
    let s : Bytes = take a.n (drop a.from a.buf.now) in
    let e : length s ≡ a.n = simp (length-take, length-drop) (omega arith) in
    (omega arith, refl, cc (hung-none a.buf.now a.to s))

pub loop-i-preserved : goal.loop-i-preserved
loop-i-preserved c =
    let a = c.args in
    let j : ℕ = c.loop-i.i - 1 in
    let i : c.loop-i.i ≡ j + 1 = omega arith in
    let e = moved_up a.buf.now a.from a.to a.n j (omega arith) (omega arith) (omega arith) in
    (omega arith, simp length-set (omega arith), cc)

pub returns : goal.returns
returns c =
    let a = c.args in
    let s : Bytes = take a.n (drop a.from a.buf.now) in
    let e : length s ≡ a.n = simp (length-take, length-drop) (omega arith) in
    let i : c.loop-i.i ≡ 0 = omega arith in
    cc (hung-all a.buf.now a.to s a.n e)
