use mathlib.Core.Path.{sym, ◌∙◌}
use Prim.Native.Nat.{ℕ, ◌<◌, ◌+◌, ◌-◌, ◌*◌}
use native.Mathlib.Omega.{arith}
use lib.ListN.{length, take, drop, get_or}
use Rattle.format.specs.Bytes.{Bytes}
use Rattle.format.specs.Numbers.{digit}
use Rattle.numbers.proofs.Reading.{natural-over, natural-more, product-fits, product-passes}
use Rattle.numbers.proofs.natural_of.Goals as goal

pub returns-then-most-m : goal.returns-then-most-m
returns-then-most-m c =
    let r : Bytes = take (length c.args.s.now - c.args.from) (drop c.args.from c.args.s.now) in
    let limit : ℕ = c.args.limit in
    let base : ℕ = c.args.base in
    let i : ℕ = c.loop-b.b-index in
    let m : ℕ = c.loop-b.m in
    let d : ℕ = digit (get_or r i 0) in
    let q : d < base = omega (arith, c.digit_of-d.ensures) in
    sym (c.loop-b.invariant.1 ∙ (natural-more limit base m r i c.loop-b-test.true q ∙ natural-over limit base (m * base + d) (drop (i + 1) r) c.requires (omega (arith, product-passes limit base m c.requires c.if-most-m.true))))

pub returns-then-limit-m : goal.returns-then-limit-m
returns-then-limit-m c =
    let r : Bytes = take (length c.args.s.now - c.args.from) (drop c.args.from c.args.s.now) in
    let limit : ℕ = c.args.limit in
    let base : ℕ = c.args.base in
    let i : ℕ = c.loop-b.b-index in
    let m : ℕ = c.loop-b.m in
    let d : ℕ = digit (get_or r i 0) in
    let q : d < base = omega (arith, c.digit_of-d.ensures) in
    sym (c.loop-b.invariant.1 ∙ (natural-more limit base m r i c.loop-b-test.true q ∙ natural-over limit base (m * base + d) (drop (i + 1) r) c.requires (omega (arith, c.digit_of-d.ensures, c.if-limit-m.true, product-fits limit base m c.requires c.if-most-m.false))))
