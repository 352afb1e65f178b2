use Prim.Native.Nat.{◌-◌}
use mathlib.Core.Path.{refl}
use Rattle.io.proofs.Counting.{prefix_len_of_le}
use Rattle.test_frames.proofs.expand.Goals as goal

pub loop-i-init : goal.loop-i-init
loop-i-init c = refl

pub shape_of-out-then-frame-i-lt4 : goal.shape_of-out-then-frame-i-lt4
shape_of-out-then-frame-i-lt4 c =
    c.loop-i.invariant

pub returns-then-frame-i-lt4 : goal.returns-then-frame-i-lt4
returns-then-frame-i-lt4 c =
    prefix_len_of_le c.least.result c.loop-i.out c.least.ensures.1

pub shape_of-out-then-frame-a : goal.shape_of-out-then-frame-a
shape_of-out-then-frame-a c =
    c.loop-i.invariant

pub returns-then-frame-a : goal.returns-then-frame-a
returns-then-frame-a c =
    prefix_len_of_le c.least-then-frame-a.result c.loop-i.out c.least-then-frame-a.ensures.1

pub shape_of-out : goal.shape_of-out
shape_of-out c =
    c.loop-i.invariant

pub returns : goal.returns
returns c =
    prefix_len_of_le c.least-2.result c.loop-i.out c.least-2.ensures.1
