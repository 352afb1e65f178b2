-- Lists of names of which each is taken once, and what is left of them.
use Prim.Native.Nat.{suc, ◌+◌}
use native.Mathlib.Omega.{arith}
use mathlib.Core.Path.{◌≡◌, refl, sym, ap, ◌∙◌}
use mathlib.Core.Bool.{Bool, true, false, ◌&&◌, ◌||◌, not, and-eq-true_iff}
use mathlib.Core.List.{List, [], ◌∷◌, ◌++◌}
use lib.Dec.{eqb}
use lib.ListN.{length}
use borrow.Author.Tests.{ne_eqb}
use Rattle.format.specs.Bytes.{Bytes, pick, all, same, among}
use Rattle.format.specs.Lists.{filter}
use Rattle.format.specs.Rules.{distinct}
use Rattle.format.specs.Numbering.{firsts}
use Rattle.format.proofs.Listing.{same_true, same-swap}

abbrev without : Bytes → List Bytes → List Bytes
without n ms = filter (λ (m : Bytes). not (same n m)) ms

-- what is asked of each once is asked of all

all_without : (p : Bytes → Bool) (n : Bytes) (ms : List Bytes) → p n ≡ true → all p (without n ms) ≡ all p ms
all_without p n [] e = refl
all_without p n (m ∷ ms) e = go (same n m) refl (all_without p n ms e)
  where
    go : (c : Bool) → same n m ≡ c → all p (without n ms) ≡ all p ms → all p (pick (not c) (m ∷ without n ms) (without n ms)) ≡ (p m && all p ms)
    go true s h = h ∙ sym (ap (λ (b : Bool). b && all p ms) (ap p (sym (same_true n m s)) ∙ e))
    go false s h = ap (λ (b : Bool). p m && b) h

pub all_firsts : (p : Bytes → Bool) (ns : List Bytes) → all p (firsts ns) ≡ all p ns
all_firsts p [] = refl
all_firsts p (n ∷ ns) = go (p n) refl (all_firsts p ns)
  where
    go : (c : Bool) → p n ≡ c → all p (firsts ns) ≡ all p ns → (c && all p (without n (firsts ns))) ≡ (c && all p ns)
    go true e h = all_without p n (firsts ns) e ∙ h
    go false e h = refl

-- none is left exactly where all pass
pub none_left : {A : Type 0} (p : A → Bool) (xs : List A) → eqb (length (filter (λ (x : A). not (p x)) xs)) 0 ≡ all p xs
none_left p [] = refl
none_left {A = A} p (x ∷ xs) = go (p x) (none_left p xs)
  where
    go : (c : Bool) → eqb (length (filter (λ (y : A). not (p y)) xs)) 0 ≡ all p xs → eqb (length (pick (not c) (x ∷ filter (λ (y : A). not (p y)) xs) (filter (λ (y : A). not (p y)) xs))) 0 ≡ (c && all p xs)
    go true h = h
    go false h = ne_eqb (suc (length (filter (λ (y : A). not (p y)) xs))) 0 (λ e. absurd (omega arith))

-- is a name among those that pass
pub among-append : (n : Bytes) (xs ys : List Bytes) → among n (xs ++ ys) ≡ (among n xs || among n ys)
among-append n [] ys = refl
among-append n (x ∷ xs) ys = go (same n x) (among-append n xs ys)
  where
    go : (c : Bool) → among n (xs ++ ys) ≡ (among n xs || among n ys) → (c || among n (xs ++ ys)) ≡ ((c || among n xs) || among n ys)
    go true h = refl
    go false h = h

pub among-filter : (p : Bytes → Bool) (n : Bytes) (xs : List Bytes) → among n (filter p xs) ≡ (p n && among n xs)
among-filter p n [] = go (p n)
  where
    go : (c : Bool) → false ≡ (c && false)
    go true = refl
    go false = refl
among-filter p n (x ∷ xs) = go (p x) (same n x) refl refl (among-filter p n xs)
  where
    here : (c d : Bool) → c ≡ d → (c && true) ≡ d
    here true d e = e
    here false d e = e

    go : (c d : Bool) → p x ≡ c → same n x ≡ d → among n (filter p xs) ≡ (p n && among n xs) → among n (pick c (x ∷ filter p xs) (filter p xs)) ≡ (p n && (d || among n xs))
    go true true e s h = ap (λ (b : Bool). b || among n (filter p xs)) s ∙ sym (here (p n) true (ap p (same_true n x s) ∙ e))
    go true false e s h = ap (λ (b : Bool). b || among n (filter p xs)) s ∙ h
    go false true e s h = h ∙ ap (λ (b : Bool). b && among n xs) (ap p (same_true n x s) ∙ e) ∙ sym (here (p n) false (ap p (same_true n x s) ∙ e))
    go false false e s h = h

pub among-firsts : (n : Bytes) (ns : List Bytes) → among n (firsts ns) ≡ among n ns
among-firsts n [] = refl
among-firsts n (m ∷ ns) = go (same n m) refl (among-filter (λ (k : Bytes). not (same m k)) n (firsts ns)) (among-firsts n ns)
  where
    go : (c : Bool) → same n m ≡ c → among n (without m (firsts ns)) ≡ (not (same m n) && among n (firsts ns)) → among n (firsts ns) ≡ among n ns → (c || among n (without m (firsts ns))) ≡ (c || among n ns)
    go true s f h = refl
    go false s f h = f ∙ ap (λ (b : Bool). not b && among n (firsts ns)) (same-swap m n ∙ s) ∙ h

-- of names of which none occurs twice, one goes at most
pub one_less : (n : Bytes) (ms : List Bytes) → distinct ms ≡ true → length ms ≡ pick (among n ms) 1 0 + length (without n ms)
one_less n [] d = refl
one_less n (m ∷ ms) d = go (same n m) refl ((and-eq-true_iff (not (among m ms)) (distinct ms)).0 d).0 (one_less n ms ((and-eq-true_iff (not (among m ms)) (distinct ms)).0 d).1)
  where
    none : (c : Bool) → not c ≡ true → c ≡ false
    none true e = sym e
    none false e = refl

    go : (c : Bool) → same n m ≡ c → not (among m ms) ≡ true → length ms ≡ pick (among n ms) 1 0 + length (without n ms) → suc (length ms) ≡ pick (c || among n ms) 1 0 + length (pick (not c) (m ∷ without n ms) (without n ms))
    go true s f h =
        let e : length ms ≡ 0 + length (without n ms) = h ∙ ap (λ (b : Bool). pick b 1 0 + length (without n ms)) (ap (λ (x : Bytes). among x ms) (same_true n m s) ∙ none (among m ms) f) in
        omega (arith, e)
    go false s f h = omega (arith, h)

-- tests that are alike, and two of them, one after the other
pub filter_alike : {A : Type 0} (p q : A → Bool) → ((x : A) → p x ≡ q x) → (xs : List A) → filter p xs ≡ filter q xs
filter_alike p q h [] = refl
filter_alike {A = A} p q h (x ∷ xs) = (λ i. pick (h x i) (x ∷ filter_alike p q h xs i) (filter_alike p q h xs i))

pub filter-both : {A : Type 0} (p q : A → Bool) (xs : List A) → filter (λ (x : A). p x && q x) xs ≡ filter q (filter p xs)
filter-both p q [] = refl
filter-both {A = A} p q (x ∷ xs) = go (p x) (filter-both p q xs)
  where
    go : (c : Bool) → filter (λ (y : A). p y && q y) xs ≡ filter q (filter p xs) → pick (c && q x) (x ∷ filter (λ (y : A). p y && q y) xs) (filter (λ (y : A). p y && q y) xs) ≡ filter q (pick c (x ∷ filter p xs) (filter p xs))
    go true h = ap (λ (ys : List A). pick (q x) (x ∷ ys) ys) h
    go false h = h
