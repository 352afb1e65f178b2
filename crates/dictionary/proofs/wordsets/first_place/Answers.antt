use Prim.Native.Nat.{ℕ}
use native.Mathlib.Omega.{arith}
use mathlib.Core.Path.{◌≡◌, sym, ◌∙◌}
use mathlib.Core.Bool.{false}
use borrow.Author.Count.{below_more}
use Rattle.terms.specs.Sets.{in_set}
use Rattle.dictionary.proofs.wordsets.first_place.Goals as goal

pub loop-k-init : goal.loop-k-init
loop-k-init c = λ j h. absurd (omega arith)

pub has-requires : goal.has-requires
has-requires c =
    omega (arith, c.loop-k-test.true, c.requires)

pub returns-then-has : goal.returns-then-has
returns-then-has c =
    (omega (arith, c.loop-k-test.true), λ h. sym c.has.ensures ∙ c.if-has.true, c.loop-k.invariant)

pub loop-k-preserved : goal.loop-k-preserved
loop-k-preserved c =
    (below_more (λ (j : ℕ). in_set j c.args.set ≡ false) c.loop-k.k c.loop-k.invariant (sym c.has.ensures ∙ c.if-has.false))

pub returns : goal.returns
returns c =
    (omega arith, λ h. absurd (omega (arith, h)), λ k h. c.loop-k.invariant k (omega (arith, h, c.loop-k-test.false)))
