-- What the listed numbers are, and that `!`, `&&` and `||` are those of logic.
use Prim.Native.Nat.{ℕ, zero, suc, ◌+◌, ◌≤◌, ◌<◌}
use native.Mathlib.Omega.{arith}
use mathlib.Core.Path.{◌≡◌, refl, sym, ◌∙◌, subst}
use mathlib.Core.Logic.{◌⊎◌, inl, inr, ⊎_elim}
use mathlib.Core.Bool.{Bool, true, false, ◌&&◌, ◌||◌, not}
use mathlib.Core.List.{List, [], ◌∷◌}
use lib.ListN.{length, get_or}
use Rattle.format.specs.Bytes.{pick}
use Rattle.format.specs.Records.{Record}
use Rattle.selection.specs.Expressions.{Expression, negation, conjunction, disjunction}
use Rattle.selection.specs.Meaning.{holds}
use Rattle.selection.specs.Found.{numbers_from}
use Rattle.selection.proofs.Ints.{no_truth, pick-either}

-- is a number listed
abbrev pub Lists : ℕ → List ℕ → Type 0
Lists n [] = ⊥
Lists n (m ∷ ms) = (n ≡ m) ⊎ Lists n ms

-- each is below the next, so that none is listed twice
abbrev pub Rises : ℕ → List ℕ → Type 0
Rises n [] = Unit {0}
Rises n (m ∷ ms) = (n ≤ m) × Rises (suc m) ms

rises-from : (n m : ℕ) (ms : List ℕ) → n ≤ m → Rises m ms → Rises n ms
rises-from n m [] h r = tt
rises-from n m (k ∷ ks) h r = (omega (arith, r.0), r.1)

module _ (p : Record → Bool) where
  -- the numbers rise
  pub found-rises : (k : ℕ) (rs : List Record) → Rises k (numbers_from p k rs)
  found-rises k [] = tt
  found-rises k (r ∷ rs) =
      pick-either (Rises k) (p r) (k ∷ numbers_from p (suc k) rs) (numbers_from p (suc k) rs)
      (λ e. (omega arith, found-rises (suc k) rs)) (λ e. rises-from k (suc k) (numbers_from p (suc k) rs) (omega arith) (found-rises (suc k) rs))

  -- each is that of a record that passes
  pub found-passes : (k : ℕ) (rs : List Record) (n : ℕ) → Lists n (numbers_from p k rs) → (i : ℕ) × (n ≡ k + i) × (i < length rs) × (p (get_or rs i []) ≡ true)
  found-passes k [] n h = absurd h
  found-passes k (r ∷ rs) n h =
      pick-either (λ (ms : List ℕ). Lists n ms → (i : ℕ) × (n ≡ k + i) × (i < length (r ∷ rs)) × (p (get_or (r ∷ rs) i []) ≡ true)) (p r) (k ∷ numbers_from p (suc k) rs) (numbers_from p (suc k) rs)
      (λ e h. ⊎_elim (λ q. (0, omega (arith, q), omega arith, e)) (λ l. later (found-passes (suc k) rs n l)) h)
      (λ e h. later (found-passes (suc k) rs n h)) h
    where
      later : (i : ℕ) × (n ≡ suc k + i) × (i < length rs) × (p (get_or rs i []) ≡ true) → (i : ℕ) × (n ≡ k + i) × (i < length (r ∷ rs)) × (p (get_or (r ∷ rs) i []) ≡ true)
      later x = (suc x.0, omega (arith, x.1), omega (arith, x.2), x.3)

  -- and each record that passes has its own listed
  pub passing-found : (k : ℕ) (rs : List Record) (i : ℕ) → i < length rs → p (get_or rs i []) ≡ true → Lists (k + i) (numbers_from p k rs)
  passing-found k [] i h e = absurd (omega arith)
  passing-found k (r ∷ rs) zero h e =
      pick-either (λ (ms : List ℕ). Lists (k + 0) ms) (p r) (k ∷ numbers_from p (suc k) rs) (numbers_from p (suc k) rs)
      (λ t. inl (omega arith)) (λ t. absurd (no_truth (sym e ∙ t)))
  passing-found k (r ∷ rs) (suc i) h e =
      pick-either (λ (ms : List ℕ). Lists (k + suc i) ms) (p r) (k ∷ numbers_from p (suc k) rs) (numbers_from p (suc k) rs)
      (λ t. inr (there (passing-found (suc k) rs i (omega arith) e))) (λ t. there (passing-found (suc k) rs i (omega arith) e))
    where
      there : Lists (suc k + i) (numbers_from p (suc k) rs) → Lists (k + suc i) (numbers_from p (suc k) rs)
      there l = let q : suc k + i ≡ k + suc i = omega arith in subst (λ (n : ℕ). Lists n (numbers_from p (suc k) rs)) q l

-- `!(a && b)` finds what `!a || !b` does
not-both : (a b : Bool) → not (a && b) ≡ (not a || not b)
not-both true b = refl
not-both false b = refl

pub negated-conjunction : (e f : Expression) (r : Record) → holds (negation (conjunction e f)) r ≡ holds (disjunction (negation e) (negation f)) r
unfolding holds
negated-conjunction e f r = not-both (holds e r) (holds f r)

same_numbers : (p q : Record → Bool) → ((r : Record) → p r ≡ q r) → (k : ℕ) (rs : List Record) → numbers_from p k rs ≡ numbers_from q k rs
same_numbers p q h k [] = refl
same_numbers p q h k (r ∷ rs) = (λ i. pick (h r i) (k ∷ same_numbers p q h (suc k) rs i) (same_numbers p q h (suc k) rs i))

pub de-morgan-finds : (e f : Expression) (k : ℕ) (rs : List Record) → numbers_from (holds (negation (conjunction e f))) k rs ≡ numbers_from (holds (disjunction (negation e) (negation f))) k rs
de-morgan-finds e f k rs = same_numbers (holds (negation (conjunction e f))) (holds (disjunction (negation e) (negation f))) (negated-conjunction e f) k rs
