-- The k-th of a list changed and another, and the places of sets by their names.
use Prim.Native.Nat.{ℕ, zero, suc}
use mathlib.Core.Path.{◌≡◌, refl, sym, ap, ◌∙◌, subst}
use mathlib.Core.Logic.{◌≢◌}
use mathlib.Core.Bool.{Bool, true, false}
use mathlib.Core.List.{List, [], ◌∷◌, map}
use mathlib.Core.Option.{Option, none, some}
use lib.ListN.{length, get_or}
use Rattle.format.specs.Bytes.{Bytes, pick, same}
use Rattle.format.specs.Lists.{onward, nth}
use Rattle.format.specs.Sets.{RecSet}
use Rattle.format.specs.Edits.{Edit, in_set}
use Rattle.format.specs.Questions.{name_of}
use Rattle.format.specs.Plain.{index_of}
use Rattle.format.proofs.Elements.{Has}
use Rattle.format.proofs.Listing.{same_true}

module _ {A : Type 0} where
  pub nth_here : (f : A → A) (d : A) (i : ℕ) (xs : List A) → Has xs i → get_or (nth i f xs) i d ≡ f (get_or xs i d)
  nth_here f d i [] h = absurd h
  nth_here f d zero (x ∷ xs) h = refl
  nth_here f d (suc i) (x ∷ xs) h = nth_here f d i xs h

  pub nth-other : (f : A → A) (d : A) (i k : ℕ) (xs : List A) → i ≢ k → get_or (nth i f xs) k d ≡ get_or xs k d
  nth-other f d i k [] h = refl
  nth-other f d zero zero (x ∷ xs) h = absurd (h refl)
  nth-other f d zero (suc k) (x ∷ xs) h = refl
  nth-other f d (suc i) zero (x ∷ xs) h = refl
  nth-other f d (suc i) (suc k) (x ∷ xs) h = nth-other f d i k xs (λ (q : i ≡ k). h (ap suc q))

  -- two functions that do the same there
  pub nth-alike : (f g : A → A) (d : A) (i : ℕ) (xs : List A) → f (get_or xs i d) ≡ g (get_or xs i d) → nth i f xs ≡ nth i g xs
  nth-alike f g d i [] e = refl
  nth-alike f g d zero (x ∷ xs) e = ap {B = List A} (λ y. y ∷ xs) e
  nth-alike f g d (suc i) (x ∷ xs) e = ap {B = List A} (λ ys. x ∷ ys) (nth-alike f g d i xs e)

  pub nth-length : (f : A → A) (i : ℕ) (xs : List A) → length (nth i f xs) ≡ length xs
  nth-length f i [] = refl
  nth-length f zero (x ∷ xs) = refl
  nth-length f (suc i) (x ∷ xs) = ap suc (nth-length f i xs)

  pub nth-has : (f : A → A) (i k : ℕ) (xs : List A) → Has xs k → Has (nth i f xs) k
  nth-has f i k [] h = h
  nth-has f zero zero (x ∷ xs) h = tt
  nth-has f zero (suc k) (x ∷ xs) h = h
  nth-has f (suc i) zero (x ∷ xs) h = tt
  nth-has f (suc i) (suc k) (x ∷ xs) h = nth-has f i k xs h

pub map-has : {A B : Type 0} (f : A → B) (xs : List A) (k : ℕ) → Has (map f xs) k → Has xs k
map-has f [] k h = h
map-has f (x ∷ xs) zero h = tt
map-has f (x ∷ xs) (suc k) h = map-has f xs k h

-- the place of a set stays
pub index_stays : (n : Bytes) (i : ℕ) (e : Edit) (ss : List RecSet) → index_of n (nth i (in_set e) ss) ≡ index_of n ss
index_stays n i e [] = refl
index_stays n zero e (s ∷ ss) = refl
index_stays n (suc i) e (s ∷ ss) = ap (λ (x : Option ℕ). pick (same n s.name) (some zero) (onward (λ (k : ℕ). some (suc k)) x)) (index_stays n i e ss)

-- the set at the place of a name has that name
abbrev IsCalled : Bytes → List RecSet → Option ℕ → Type 0
IsCalled n ss none = Unit {0}
IsCalled n ss (some i) = n ≡ get_or (map name_of ss) i []

called-by : (n : Bytes) (s : RecSet) (ss : List RecSet) (b : Bool) (x : Option ℕ) → same n s.name ≡ b → IsCalled n ss x → IsCalled n (s ∷ ss) (pick b (some zero) (onward (λ (k : ℕ). some (suc k)) x))
called-by n s ss true x e h = same_true n s.name e
called-by n s ss false none e h = tt
called-by n s ss false (some i) e h = h

called-in : (n : Bytes) (ss : List RecSet) → IsCalled n ss (index_of n ss)
called-in n [] = tt
called-in n (s ∷ ss) = called-by n s ss (same n s.name) (index_of n ss) refl (called-in n ss)

pub index-called : (n : Bytes) (ss : List RecSet) (i : ℕ) → index_of n ss ≡ some i → n ≡ get_or (map name_of ss) i []
index-called n ss i e = subst (IsCalled n ss) e (called-in n ss)

-- two names have two places
pub places-differ : (n m : Bytes) (ss : List RecSet) (i k : ℕ) → index_of n ss ≡ some i → index_of m ss ≡ some k → n ≢ m → i ≢ k
places-differ n m ss i k e f d q = d (index-called n ss i e ∙ sym (index-called m ss i (f ∙ ap {B = Option ℕ} (λ (x : ℕ). some x) (sym q))))
