use Prim.Native.Nat.{◌+◌}
use native.Mathlib.Omega.{arith}
use mathlib.Core.Path.{refl, sym, ◌∙◌}
use Rattle.values.specs.Value.{here, further, joint}
use Rattle.values.proofs.Decoding.{byte_inside, nothing-at, joined_at, unfolds-from}
use Rattle.values.proofs.value_byte.Goals as goal

pub loop-at-init : goal.loop-at-init
loop-at-init c = (omega arith, refl, here)

pub plain_byte-requires : goal.plain_byte-requires
plain_byte-requires c =
    record { i_in_bounds = c.loop-at-test.true; fact = λ p q. c.if-s-at-ne92.true p }

pub returns-then-s-at-ne92 : goal.returns-then-s-at-ne92
returns-then-s-at-ne92 c =
    unfolds-from c.args.s.now c.args.i c.loop-at.at c.plain_byte.result c.loop-at.invariant.0 c.loop-at.invariant.2 c.loop-at.invariant.1 c.plain_byte.ensures

pub plain_byte-requires-then-byte-ne10 : goal.plain_byte-requires-then-byte-ne10
plain_byte-requires-then-byte-ne10 c =
    record { i_in_bounds = c.loop-at-test.true; fact = λ p q. c.if-byte-ne10.true (c.byte.ensures ∙ q) }

pub returns-then-byte-ne10 : goal.returns-then-byte-ne10
returns-then-byte-ne10 c =
    unfolds-from c.args.s.now c.args.i c.loop-at.at c.plain_byte-then-byte-ne10.result c.loop-at.invariant.0 c.loop-at.invariant.2 c.loop-at.invariant.1 c.plain_byte-then-byte-ne10.ensures

pub overflow_add-at-in-loop-at : goal.overflow_add-at-in-loop-at
overflow_add-at-in-loop-at c =
    let q = sym c.byte.ensures ∙ c.if-byte-ne10.false in
    omega (arith, byte_inside c.args.s.now (c.loop-at.at + 1) 9 q)

pub loop-at-preserved : goal.loop-at-preserved
loop-at-preserved c =
    let q = sym c.byte.ensures ∙ c.if-byte-ne10.false in
    (omega arith, c.loop-at.invariant.1 ∙ joined_at c.args.s.now c.loop-at.at c.if-s-at-ne92.false q, further c.loop-at.invariant.2 (joint refl c.if-s-at-ne92.false q))

pub returns : goal.returns
returns c =
    c.loop-at.invariant.1 ∙ nothing-at c.args.s.now c.loop-at.at c.loop-at-test.false
