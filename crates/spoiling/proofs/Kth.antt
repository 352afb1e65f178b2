-- One element of a list replaced, the k-th that passes a test: where all passed before, only what stands in its place is asked.
use Prim.Native.Nat.{ℕ, zero, suc, ◌<◌}
use native.Mathlib.Omega.{arith}
use mathlib.Core.Path.{◌≡◌, refl, ap, ◌∙◌}
use mathlib.Core.Bool.{Bool, true, false, ◌&&◌, and-true, and-eq-true_iff}
use mathlib.Core.List.{List, [], ◌∷◌, ◌++◌, map}
use mathlib.Core.Option.{some}
use lib.ListN.{length, get_or}
use Rattle.format.specs.Bytes.{all}
use Rattle.format.specs.Lists.{turn, at, always, before}
use Rattle.format.specs.Numbering.{or_else}
use Rattle.format.proofs.Elements.{Each}
use Rattle.format.proofs.Lines.{all_append}
use Rattle.format.proofs.Least.{least, leasts}
use Rattle.spoiling.specs.Effects.{kth_of}
use Rattle.spoiling.proofs.Distinct.{Within, within-self}

-- the k-th of all elements
pub kth-element : {A : Type 0} (d : A) (xs : List A) (k : ℕ) → k < length xs → kth_of always k xs ≡ some (get_or xs k d)
kth-element d [] k h = absurd (omega arith)
kth-element d (x ∷ xs) zero h = refl
kth-element d (x ∷ xs) (suc k) h = kth-element d xs k (omega arith)

-- the least number of several questions

pub least-none : (m : ℕ) → least m 0 ≡ m
least-none zero = refl
least-none (suc m) = refl

pub least-both : (m n : ℕ) → least m n ≡ 0 → (m ≡ 0) × (n ≡ 0)
least-both zero n e = (refl, e)
least-both (suc m) zero e = absurd (omega arith)
least-both (suc m) (suc n) e = absurd (omega arith)

module _ {A : Type 0} (f : A → ℕ) where
  pub leasts-none : (xs : List A) → leasts (map f xs) ≡ 0 → Each (λ (x : A). f x ≡ 0) xs
  leasts-none [] e = tt
  leasts-none (x ∷ xs) e = let k = least-both (f x) (leasts (map f xs)) e in (k.0, leasts-none xs k.1)

  pub none-leasts : (xs : List A) → Each (λ (x : A). f x ≡ 0) xs → leasts (map f xs) ≡ 0
  none-leasts [] h = refl
  none-leasts (x ∷ xs) h = ap (λ (n : ℕ). least n (leasts (map f xs))) h.0 ∙ none-leasts xs h.1

  leasts-before : (xs ys : List A) → leasts (map f ys) ≡ 0 → leasts (map f (xs ++ ys)) ≡ leasts (map f xs)
  leasts-before [] ys e = e
  leasts-before (x ∷ xs) ys e = ap (least (f x)) (leasts-before xs ys e)

  pub leasts-after : (xs ys : List A) → leasts (map f xs) ≡ 0 → leasts (map f (xs ++ ys)) ≡ leasts (map f ys)
  leasts-after [] ys e = refl
  leasts-after (x ∷ xs) ys e =
      let k = least-both (f x) (leasts (map f xs)) e in
      ap (λ (n : ℕ). least n (leasts (map f (xs ++ ys)))) k.0 ∙ leasts-after xs ys k.1

-- the elements behind the k-th
abbrev pub behind_kth : {A : Type 0} → (A → Bool) → ℕ → List A → List A
behind_kth t k [] = []
behind_kth t k (x ∷ xs) = turn (t x) k xs (λ (j : ℕ). behind_kth t j xs)

-- others take the place of the k-th
module _ {A : Type 0} (t : A → Bool) (g : A → List A) where
  -- the least number is theirs
  pub leasts-replaced : (f : A → ℕ) (xs : List A) (k : ℕ) → leasts (map f xs) ≡ 0 → leasts (map f (at t k g xs)) ≡ leasts (map f (or_else [] g (kth_of t k xs)))
  leasts-replaced f [] k e = refl
  leasts-replaced f (x ∷ xs) k e = let h = least-both (f x) (leasts (map f xs)) e in go (t x) k h.0 h.1 (λ j. leasts-replaced f xs j h.1)
    where
      go : (b : Bool) (k : ℕ) → f x ≡ 0 → leasts (map f xs) ≡ 0 → ((j : ℕ) → leasts (map f (at t j g xs)) ≡ leasts (map f (or_else [] g (kth_of t j xs))))
          → leasts (map f (turn b k (g x ++ xs) (λ (j : ℕ). x ∷ at t j g xs))) ≡ leasts (map f (or_else [] g (turn b k (some x) (λ (j : ℕ). kth_of t j xs))))
      go true zero n ns ih = leasts-before f (g x) xs ns
      go true (suc k) n ns ih = ap (λ (m : ℕ). least m (leasts (map f (at t k g xs)))) n ∙ ih k
      go false k n ns ih = ap (λ (m : ℕ). least m (leasts (map f (at t k g xs)))) n ∙ ih k

  -- a test of all asks them
  pub all-replaced : (p : A → Bool) (xs : List A) (k : ℕ) → all p xs ≡ true → all p (at t k g xs) ≡ all p (or_else [] g (kth_of t k xs))
  all-replaced p [] k e = refl
  all-replaced p (x ∷ xs) k e = let h = (and-eq-true_iff (p x) (all p xs)).0 e in go (t x) k h.0 h.1 (λ j. all-replaced p xs j h.1)
    where
      go : (b : Bool) (k : ℕ) → p x ≡ true → all p xs ≡ true → ((j : ℕ) → all p (at t j g xs) ≡ all p (or_else [] g (kth_of t j xs)))
          → all p (turn b k (g x ++ xs) (λ (j : ℕ). x ∷ at t j g xs)) ≡ all p (or_else [] g (turn b k (some x) (λ (j : ℕ). kth_of t j xs)))
      go true zero n ns ih = all_append p (g x) xs ∙ ap (λ (c : Bool). all p (g x) && c) ns ∙ and-true (all p (g x))
      go true (suc k) n ns ih = ap (λ (c : Bool). c && all p (at t k g xs)) n ∙ ih k
      go false k n ns ih = ap (λ (c : Bool). c && all p (at t k g xs)) n ∙ ih k

  -- the list is what stands before, they, and what stands behind
  pub replaced-parts : (xs : List A) (k : ℕ) → at t k g xs ≡ before t k xs ++ (or_else [] g (kth_of t k xs) ++ behind_kth t k xs)
  replaced-parts [] k = refl
  replaced-parts (x ∷ xs) k = go (t x) k (replaced-parts xs)
    where
      go : (b : Bool) (k : ℕ) → ((j : ℕ) → at t j g xs ≡ before t j xs ++ (or_else [] g (kth_of t j xs) ++ behind_kth t j xs))
          → turn b k (g x ++ xs) (λ (j : ℕ). x ∷ at t j g xs) ≡ turn b k [] (λ (j : ℕ). x ∷ before t j xs) ++ (or_else [] g (turn b k (some x) (λ (j : ℕ). kth_of t j xs)) ++ turn b k xs (λ (j : ℕ). behind_kth t j xs))
      go true zero ih = refl
      go true (suc k) ih = ap {B = List A} (λ ys. x ∷ ys) (ih k)
      go false k ih = ap {B = List A} (λ ys. x ∷ ys) (ih k)

-- the k-th left out
pub removed-within : {A : Type 0} (t : A → Bool) (xs : List A) (k : ℕ) → Within (at t k (λ (x : A). []) xs) xs
removed-within t [] k = Within.nothing
removed-within t (x ∷ xs) k = go (t x) k (removed-within t xs)
  where
    go : (b : Bool) (k : ℕ) → ((j : ℕ) → Within (at t j (λ y. []) xs) xs) → Within (turn b k xs (λ (j : ℕ). x ∷ at t j (λ y. []) xs)) (x ∷ xs)
    go true zero ih = Within.leaves (within-self xs)
    go true (suc k) ih = Within.keeps (ih k)
    go false k ih = Within.keeps (ih k)
