-- What is said of a list's elements: each has something, there is one, there is one at a place.
use Prim.Native.Nat.{ℕ, zero, suc, ◌<◌}
use native.Mathlib.Omega.{arith}
use mathlib.Core.Path.{◌≡◌, refl, sym, ap, ◌∙◌}
use mathlib.Core.Bool.{Bool, true, false, ◌&&◌, ◌||◌, and-eq-true_iff, and-false, false≢true}
use mathlib.Core.List.{List, [], ◌∷◌, ◌++◌, map}
use lib.ListN.{length}
use Rattle.format.specs.Bytes.{all, any}

abbrev pub Each : {A : Type 0} → (A → Type 0) → List A → Type 0
Each P [] = Unit {0}
Each P (x ∷ xs) = P x × Each P xs

module _ {A : Type 0} (P : A → Type 0) where
  pub each_append : (xs ys : List A) → Each P xs → Each P ys → Each P (xs ++ ys)
  each_append [] ys h k = k
  each_append (x ∷ xs) ys h k = (h.0, each_append xs ys h.1 k)

  pub each-parts : (xs ys : List A) → Each P (xs ++ ys) → Each P xs × Each P ys
  each-parts [] ys h = (tt, h)
  each-parts (x ∷ xs) ys h = let k = each-parts xs ys h.1 in ((h.0, k.0), k.1)

  pub each_map : {B : Type 0} (f : B → A) (xs : List B) → Each (λ (x : B). P (f x)) xs → Each P (map f xs)
  each_map f [] h = tt
  each_map f (x ∷ xs) h = (h.0, each_map f xs h.1)

pub each-imp : {A : Type 0} (P Q : A → Type 0) → ((x : A) → P x → Q x) → (xs : List A) → Each P xs → Each Q xs
each-imp P Q f [] h = tt
each-imp P Q f (x ∷ xs) h = (f x h.0, each-imp P Q f xs h.1)

pub each_both : {A : Type 0} (P Q : A → Type 0) (xs : List A) → Each P xs → Each Q xs → Each (λ (x : A). P x × Q x) xs
each_both P Q [] h k = tt
each_both P Q (x ∷ xs) h k = ((h.0, k.0), each_both P Q xs h.1 k.1)

-- a test of all, or of some one, and of each
neither : (a b : Bool) → (a || b) ≡ false → (a ≡ false) × (b ≡ false)
neither true b e = absurd (false≢true (sym e))
neither false b e = (refl, e)

module _ {A : Type 0} (p : A → Bool) where
  pub all-each : (xs : List A) → all p xs ≡ true → Each (λ (x : A). p x ≡ true) xs
  all-each [] e = tt
  all-each (x ∷ xs) e = let h = (and-eq-true_iff (p x) (all p xs)).0 e in (h.0, all-each xs h.1)

  pub each_all : (xs : List A) → Each (λ (x : A). p x ≡ true) xs → all p xs ≡ true
  each_all [] h = refl
  each_all (x ∷ xs) h = (and-eq-true_iff (p x) (all p xs)).1 (h.0, each_all xs h.1)

  pub any_none : (xs : List A) → any p xs ≡ false → Each (λ (x : A). p x ≡ false) xs
  any_none [] e = tt
  any_none (x ∷ xs) e = let h = neither (p x) (any p xs) e in (h.0, any_none xs h.1)

  pub none_any : (xs : List A) → Each (λ (x : A). p x ≡ false) xs → any p xs ≡ false
  none_any [] h = refl
  none_any (x ∷ xs) h = ap (λ (b : Bool). b || any p xs) h.0 ∙ none_any xs h.1

-- a test that follows from another; two tests of all, one that always passes, and two alike
pub all-imp : {A : Type 0} (p q : A → Bool) → ((x : A) → p x ≡ true → q x ≡ true) → (xs : List A) → all p xs ≡ true → all q xs ≡ true
all-imp p q h xs e = each_all q xs (each-imp (λ x. p x ≡ true) (λ x. q x ≡ true) h xs (all-each p xs e))

both-swap : (a b c d : Bool) → (a && b && (c && d)) ≡ (a && c && (b && d))
both-swap true true c d = refl
both-swap true false c d = sym (and-false c)
both-swap false b c d = refl

pub all_both : {A : Type 0} (p q : A → Bool) (xs : List A) → all (λ (x : A). p x && q x) xs ≡ (all p xs && all q xs)
all_both p q [] = refl
all_both p q (x ∷ xs) = ap (λ (b : Bool). p x && q x && b) (all_both p q xs) ∙ both-swap (p x) (q x) (all p xs) (all q xs)

pub all_yes : {A : Type 0} (xs : List A) → all (λ (x : A). true) xs ≡ true
all_yes [] = refl
all_yes (x ∷ xs) = all_yes xs

pub all_alike : {A : Type 0} (p q : A → Bool) → ((x : A) → p x ≡ q x) → (xs : List A) → all p xs ≡ all q xs
all_alike p q h [] = refl
all_alike p q h (x ∷ xs) = (λ i. h x i && all_alike p q h xs i)

abbrev pub Filled : {A : Type 0} → List A → Type 0
Filled [] = ⊥
Filled (x ∷ xs) = Unit {0}

abbrev pub Has : {A : Type 0} → List A → ℕ → Type 0
Has [] k = ⊥
Has (x ∷ xs) zero = Unit {0}
Has (x ∷ xs) (suc k) = Has xs k

module _ {A : Type 0} where
  pub below-has : (xs : List A) (k : ℕ) → k < length xs → Has xs k
  below-has [] k h = omega arith
  below-has (x ∷ xs) zero h = tt
  below-has (x ∷ xs) (suc k) h = below-has xs k (omega arith)
