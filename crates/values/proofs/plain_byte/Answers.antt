-- `values::plain_byte` meets its contract: the tests that led to a return say which byte the text stands for there.
use native.Mathlib.Omega.{arith}
use mathlib.Core.Path.{◌≡◌, refl, sym, ◌∙◌}
use lib.ListN.{get_or}
use Rattle.values.specs.Value.{here, further, plain, space, plus}
use Prim.Native.Nat.{◌+◌}
use Rattle.values.proofs.Decoding.{byte_inside, plain_at, end-at, space-at, plus-at}
use Rattle.values.proofs.plain_byte.Goals as goal

pub returns-then-b-ne10 : goal.returns-then-b-ne10
returns-then-b-ne10 c =
    let s = c.args.s.now in
    let i = c.args.i in
    (plain_at s i c.requires.i_in_bounds c.if-b-ne10.true c.requires.fact, omega arith, omega arith, further here (plain refl c.requires.i_in_bounds c.if-b-ne10.true c.requires.fact))

pub returns-then-byte-ne43 : goal.returns-then-byte-ne43
returns-then-byte-ne43 c =
    end-at c.args.s.now c.args.i c.if-b-ne10.false (λ q. c.if-byte-ne43.true (c.byte.ensures ∙ q))

pub returns-then-byte-eq32 : goal.returns-then-byte-eq32
returns-then-byte-eq32 c =
    let s = c.args.s.now in
    let i = c.args.i in
    let p = sym c.byte.ensures ∙ c.if-byte-ne43.false in
    let q = sym c.byte-2.ensures ∙ c.if-byte-eq32.true in
    (space-at s i c.if-b-ne10.false p q, omega arith, omega (arith, byte_inside s (i + 2) 31 q), further here (space refl c.if-b-ne10.false p q))

pub returns : goal.returns
returns c =
    let s = c.args.s.now in
    let i = c.args.i in
    let p = sym c.byte.ensures ∙ c.if-byte-ne43.false in
    let n : get_or s (i + 2) 0 ≡ 32 → ⊥ = λ q. c.if-byte-eq32.false (c.byte-2.ensures ∙ q) in
    (plus-at s i c.if-b-ne10.false p n, omega arith, omega (arith, byte_inside s (i + 1) 42 p), further here (plus refl c.if-b-ne10.false p n))
