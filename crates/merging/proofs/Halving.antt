-- Halving finds the last place at which a test passes that falls once.
use Prim.Native.Nat.{ℕ, zero, suc, ◌+◌, ◌/◌, ◌≤◌, ◌<◌}
use native.Mathlib.Omega.{arith}
use mathlib.Core.Path.{◌≡◌, refl, sym, ap, ◌∙◌}
use mathlib.Core.Bool.{Bool, true, false, false≢true}
use Rattle.format.specs.Bytes.{pick}
use Rattle.merging.specs.Appending.{two_to, halving}

-- a test that passes at every place below one where it passes
abbrev pub FallsOnce : (ℕ → Bool) → Type 0
FallsOnce test = (j k : ℕ) → j ≤ k → test k ≡ true → test j ≡ true

-- it passes here and not at the next place
pub record Turns (test : ℕ → Bool) (k : ℕ) : Type 0 where
  pub passes : test k ≡ true
  pub fails : test (suc k) ≡ false

-- there is one such place, and the test fails at all behind it
pub one-turn : (test : ℕ → Bool) → FallsOnce test → (j k : ℕ) → Turns test j → Turns test k → j ≡ k
one-turn test falls j k a b = omega (arith, no_less j k a b, no_less k j b a)
  where
    no_less : (j k : ℕ) → Turns test j → Turns test k → (j < k → ⊥)
    no_less j k a b l = false≢true (sym a.fails ∙ falls (suc j) k (omega arith) b.passes)

pub behind-turn : (test : ℕ → Bool) → FallsOnce test → (k : ℕ) → Turns test k → (j : ℕ) → k < j → test j ≡ false
behind-turn test falls k h j l = go (test j) refl
  where
    go : (t : Bool) → test j ≡ t → t ≡ false
    go true e = absurd (false≢true (sym h.fails ∙ falls (suc k) j (omega arith) e))
    go false e = refl

-- Between a place where it passes and one where it fails, which are at most 2 to the power of turns apart, halving ends where it turns.
abbrev FindsTurn : ℕ → (ℕ → Bool) → Type 0
FindsTurn turns test = (low high : ℕ) → test low ≡ true → test high ≡ false → low < high → high ≤ low + two_to turns → Turns test (halving turns test low high)

pub halving-turn : (turns : ℕ) (test : ℕ → Bool) (low high : ℕ) → test low ≡ true → test high ≡ false → low < high → high ≤ low + two_to turns → Turns test (halving turns test low high)
halving-turn zero test low high p f l w = record { passes = p; fails = ap test (omega arith) ∙ f }
halving-turn (suc turns) test low high p f l w = go (test ((low + high) / 2)) refl (halving-turn turns test)
  where
    go : (t : Bool) → test ((low + high) / 2) ≡ t → FindsTurn turns test → Turns test (halving turns test (pick t ((low + high) / 2) low) (pick t high ((low + high) / 2)))
    go true e ih = ih ((low + high) / 2) high e f (omega arith) (omega arith)
    go false e ih =
        let other : (low + high) / 2 ≡ low → ⊥ = λ q. false≢true (sym e ∙ ap test q ∙ p) in
        ih low ((low + high) / 2) p e (omega (arith, other)) (omega arith)

-- So halving finds the place up to which the test passes and behind which it fails.
pub record LastPlace (test : ℕ → Bool) (k : ℕ) : Type 0 where
  pub up_to : (j : ℕ) → j ≤ k → test j ≡ true
  pub behind : (j : ℕ) → k < j → test j ≡ false

pub halving-last : (turns : ℕ) (test : ℕ → Bool) (low high : ℕ) → FallsOnce test → test low ≡ true → test high ≡ false → high ≤ low + two_to turns → LastPlace test (halving turns test low high)
halving-last turns test low high falls p f w =
    let over : high ≤ low → ⊥ = λ l. false≢true (sym f ∙ falls high low l p) in
    let k : ℕ = halving turns test low high in
    let h = halving-turn turns test low high p f (omega (arith, over)) w in
    record { up_to = λ j l. falls j k l h.passes; behind = behind-turn test falls k h }
