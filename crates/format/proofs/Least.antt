-- The first question that says no of many things, as the least over them of what each fails.
use Prim.Native.Nat.{ℕ, zero, suc, ◌<◌, ◌≤◌, min}
use native.Mathlib.Omega.{arith}
use mathlib.Core.Path.{◌≡◌, refl, sym, ap, ◌∙◌}
use mathlib.Core.Logic.{◌⊎◌, inl, inr}
use mathlib.Core.Bool.{Bool, true, false, ◌&&◌}
use mathlib.Core.List.{List, [], ◌∷◌, ◌++◌, map}
use lib.Dec.{eqb}
use borrow.Author.Tests.{ne_eqb}
use Rattle.format.specs.Bytes.{pick, all}
use Rattle.format.specs.Questions.{Row, first_no}

-- the lesser of two numbers of questions, 0 being none
abbrev pub least : ℕ → ℕ → ℕ
least zero n = n
least (suc k) zero = suc k
least (suc k) (suc n) = suc (min k n)

abbrev pub leasts : List ℕ → ℕ
leasts [] = 0
leasts (k ∷ ks) = least k (leasts ks)

-- questions asked of each thing
abbrev pub each_of : {A : Type 0} → List (Row A) → List (Row (List A))
each_of [] = []
each_of (r ∷ rs) = record { number = r.number; asks = λ (xs : List _). all r.asks xs } ∷ each_of rs

-- numbers that rise from above k
abbrev pub Rise : {A : Type 0} → ℕ → List (Row A) → Type 0
Rise k [] = Unit {0}
Rise k (r ∷ rs) = (k < r.number) × Rise r.number rs

-- no question, or one above k
abbrev pub Above : ℕ → ℕ → Type 0
Above k n = (n ≡ 0) ⊎ (k < n)

above_more : (k j n : ℕ) → j ≤ k → Above k n → Above j n
above_more k j n h (inl e) = inl e
above_more k j n h (inr l) = inr (omega arith)

first_by : (b : Bool) (k m n : ℕ) → k < n → Above n m → Above k (pick b m n)
first_by true k m n h a = above_more n k m (omega arith) a
first_by false k m n h a = inr h

pub first_above : {A : Type 0} (rs : List (Row A)) (k : ℕ) → Rise k rs → (x : A) → Above k (first_no rs x)
first_above [] k h x = inl refl
first_above (r ∷ rs) k h x = first_by (r.asks x) k (first_no rs x) r.number h.0 (first_above rs r.number h.1 x)

rise-each : {A : Type 0} (rs : List (Row A)) (k : ℕ) → Rise k rs → Rise k (each_of rs)
rise-each [] k h = tt
rise-each (r ∷ rs) k h = (h.0, rise-each rs r.number h.1)

least-left : (m n : ℕ) → 0 < n → Above n m → least m n ≡ n
least-left zero n p a = refl
least-left (suc m) zero p a = absurd (omega arith)
least-left (suc m) (suc n) p (inl e) = absurd (omega arith)
least-left (suc m) (suc n) p (inr l) = omega arith

least-right : (m n : ℕ) → 0 < n → Above n m → least n m ≡ n
least-right m zero p a = absurd (omega arith)
least-right zero (suc n) p a = refl
least-right (suc m) (suc n) p (inl e) = absurd (omega arith)
least-right (suc m) (suc n) p (inr l) = omega arith

least_self : (n : ℕ) → least n n ≡ n
least_self zero = refl
least_self (suc n) = omega arith

first-both : (a b : Bool) (n x xs both : ℕ) → 0 < n → Above n x → Above n xs → both ≡ least x xs → pick (a && b) both n ≡ least (pick a x n) (pick b xs n)
first-both true true n x xs both p ax axs e = e
first-both true false n x xs both p ax axs e = sym (least-left x n p ax)
first-both false true n x xs both p ax axs e = sym (least-right xs n p axs)
first-both false false n x xs both p ax axs e = sym (least_self n)

-- asked of one thing and of others
pub first-cons : {A : Type 0} (rs : List (Row A)) (k : ℕ) → Rise k rs → (x : A) (xs : List A) → first_no (each_of rs) (x ∷ xs) ≡ least (first_no rs x) (first_no (each_of rs) xs)
first-cons [] k h x xs = refl
first-cons (r ∷ rs) k h x xs =
    let n : ℕ = r.number in
    first-both (r.asks x) (all r.asks xs) n (first_no rs x) (first_no (each_of rs) xs) (first_no (each_of rs) (x ∷ xs)) (omega (arith, h.0))
    (first_above rs n h.1 x) (first_above (each_of rs) n (rise-each rs n h.1) xs) (first-cons rs n h.1 x xs)

first-none : {A : Type 0} (rs : List (Row A)) → first_no (each_of rs) [] ≡ 0
first-none [] = refl
first-none (r ∷ rs) = first-none rs

-- the first question that says no of some thing is the least that one of them fails
pub first-leasts : {A : Type 0} (rs : List (Row A)) → Rise 0 rs → (xs : List A) → first_no (each_of rs) xs ≡ leasts (map (first_no rs) xs)
first-leasts rs h [] = first-none rs
first-leasts rs h (x ∷ xs) = first-cons rs 0 h x xs ∙ ap (least (first_no rs x)) (first-leasts rs h xs)

pub rise-less : {A : Type 0} (rs : List (Row A)) (k : ℕ) → Rise k rs → Rise 0 rs
rise-less [] k h = tt
rise-less (r ∷ rs) k h = (omega (arith, h.0), h.1)

first_then : (a : Bool) (both rs ts n : ℕ) → 0 < n → both ≡ pick (eqb rs 0) ts rs → pick a both n ≡ pick (eqb (pick a rs n) 0) ts (pick a rs n)
first_then true both rs ts n p e = e
first_then false both rs ts n p e = rw (ne_eqb n 0 (λ q. omega arith))

-- questions one list after another
pub first-append : {A : Type 0} (rs ts : List (Row A)) (x : A) → Rise 0 rs → first_no (rs ++ ts) x ≡ pick (eqb (first_no rs x) 0) (first_no ts x) (first_no rs x)
first-append [] ts x h = refl
first-append (r ∷ rs) ts x h = first_then (r.asks x) (first_no (rs ++ ts) x) (first_no rs x) (first_no ts x) r.number h.0 (first-append rs ts x (rise-less rs r.number h.1))
