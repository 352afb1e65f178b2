-- What entries stand for is distinct exactly if no two places of the list have the same; so it is where each is before the next, it is not where two
-- neighbours are the same, and places may be exchanged.
use Prim.Native.Nat.{ℕ, zero, suc, ◌-◌, ◌<◌, suc-le-suc}
use native.Mathlib.Nat.{le_of_suc-le-suc, zero-lt-suc}
use native.Mathlib.Omega.{arith}
use mathlib.Core.Path.{◌≡◌, refl, sym, ap, ◌∙◌, subst}
use mathlib.Core.Bool.{Bool, true, false, false≢true}
use mathlib.Core.List.{List, [], ◌∷◌, map}
use lib.ListN.{length, get_or}
use Rattle.format.specs.Bytes.{Bytes, same, among}
use Rattle.format.specs.Rules.{distinct}
use Rattle.keys.specs.Order.{ranked}
use Rattle.std.specs.declared.cmp.Ordering.{Ordering}
use Rattle.format.proofs.Listing.{same_true}
use Rattle.values.proofs.Tests.{by_bool, dec-lt, same_self}
use Rattle.keys.proofs.Order.{ranked-trans, ranked-apart}

pub bool_same : (a b : Bool) → (a ≡ true → b ≡ true) → (b ≡ true → a ≡ true) → a ≡ b
bool_same true b f g = sym (f refl)
bool_same false true f g = g refl
bool_same false false f g = refl

module _ (f : ℕ → Bytes) where
  among_none : (x : Bytes) (l : List ℕ) → ((j : ℕ) → j < length l → x ≡ f (get_or l j 0) → ⊥) → among x (map f l) ≡ false
  among_none x [] h = refl
  among_none x (y ∷ l) h =
      by_bool (same x (f y)) (λ e. absurd (h 0 (zero-lt-suc (length l)) (same_true x (f y) e)))
      (λ e. rw e (among_none x l (λ j g. h (suc j) (suc-le-suc g))))

  among-not : (x : Bytes) (l : List ℕ) → among x (map f l) ≡ false → (j : ℕ) → j < length l → x ≡ f (get_or l j 0) → ⊥
  among-not x [] e j g q = omega arith
  among-not x (y ∷ l) e zero g q =
      by_bool (same x (f y)) (λ p. false≢true (sym (rw p at e))) (λ p. false≢true (sym (rw (← q) at p) ∙ same_self x))
  among-not x (y ∷ l) e (suc j) g q =
      by_bool (same x (f y)) (λ p. absurd (false≢true (sym (rw p at e)))) (λ p. among-not x l (rw p at e) j (le_of_suc-le-suc g) q)

  -- no two places have the same
  abbrev pub Apart : List ℕ → Type 0
  Apart l = (j : ℕ) → j < length l → (i : ℕ) → i < j → f (get_or l i 0) ≡ f (get_or l j 0) → ⊥

  pub apart_distinct : (l : List ℕ) → Apart l → distinct (map f l) ≡ true
  apart_distinct [] h = refl
  apart_distinct (x ∷ l) h =
      rw (among_none (f x) l (λ j g. h (suc j) (suc-le-suc g) 0 (zero-lt-suc j)))
      (apart_distinct l (λ j g i k. h (suc j) (suc-le-suc g) (suc i) (suc-le-suc k)))

  pub distinct_apart : (l : List ℕ) → distinct (map f l) ≡ true → Apart l
  distinct_apart [] e j g i k q = omega arith
  distinct_apart (x ∷ l) e zero g i k q = omega arith
  distinct_apart (x ∷ l) e (suc j) g zero k q =
      by_bool (among (f x) (map f l)) (λ p. false≢true (rw p at e)) (λ p. among-not (f x) l p j (le_of_suc-le-suc g) q)
  distinct_apart (x ∷ l) e (suc j) g (suc i) k q =
      by_bool (among (f x) (map f l)) (λ p. absurd (false≢true (rw p at e)))
      (λ p. distinct_apart l (rw p at e) j (le_of_suc-le-suc g) i (le_of_suc-le-suc k) q)

  -- two places in any order
  apart-both : (l : List ℕ) → Apart l → (i j : ℕ) → i < length l → j < length l → (i ≡ j → ⊥) → f (get_or l i 0) ≡ f (get_or l j 0) → ⊥
  apart-both l h i j a b n q = dec-lt i j (λ g. h j b i g q) (λ g. h i a j (omega arith) (sym q))

  -- the same at places that are renamed
  pub apart-renamed : (l m : List ℕ) (σ : ℕ → ℕ) → length m ≡ length l → ((i : ℕ) → i < length m → σ i < length l) → ((i j : ℕ) → σ i ≡ σ j → i ≡ j) → ((i : ℕ) → get_or m i 0 ≡ get_or l (σ i) 0) → Apart l → Apart m
  apart-renamed l m σ n b u at h j g i k q =
      apart-both l h (σ i) (σ j) (b i (omega arith)) (b j g) (λ e. omega (arith, u i j e)) (ap f (sym (at i)) ∙ q ∙ ap f (at j))

  -- neighbours
  abbrev pub Rising : ℕ → List ℕ → Type 0
  Rising n l = (q : ℕ) → q < n → 0 < q → ranked (f (get_or l (q - 1) 0)) (f (get_or l q 0)) ≡ Ordering.Less

  rises : (l : List ℕ) → Rising (length l) l → (j : ℕ) → j < length l → (i : ℕ) → i < j → ranked (f (get_or l i 0)) (f (get_or l j 0)) ≡ Ordering.Less
  rises l h zero g i k = absurd (omega arith)
  rises l h (suc j) g i k =
      let one : suc j - 1 ≡ j = omega arith in
      let step : ranked (f (get_or l j 0)) (f (get_or l (suc j) 0)) ≡ Ordering.Less = rw one at (h (suc j) g (omega arith)) in
      dec-lt i j (λ d. ranked-trans (f (get_or l i 0)) (f (get_or l j 0)) (f (get_or l (suc j) 0)) (rises l h j (omega arith) i d) step)
      (λ d. let e : j ≡ i = omega arith in subst (λ (p : ℕ). ranked (f (get_or l p 0)) (f (get_or l (suc j) 0)) ≡ Ordering.Less) e step)

  pub rising-distinct : (l : List ℕ) → Rising (length l) l → distinct (map f l) ≡ true
  rising-distinct l h = apart_distinct l (λ j g i k. ranked-apart (f (get_or l i 0)) (f (get_or l j 0)) (rises l h j g i k))

  pub twins-distinct : (l : List ℕ) (q : ℕ) → q < length l → 0 < q → f (get_or l (q - 1) 0) ≡ f (get_or l q 0) → distinct (map f l) ≡ false
  twins-distinct l q g k e = by_bool (distinct (map f l)) (λ p. absurd (distinct_apart l p q g (q - 1) (omega arith) e)) (λ p. p)
