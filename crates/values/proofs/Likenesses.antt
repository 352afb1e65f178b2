-- The comparison of two values is right: it answers equal exactly for the same bytes, lengths unlike exactly where they are, and the place is the last at which they differ.
use Prim.Native.Nat.{ℕ, zero, suc, ◌<◌, suc-le-suc}
use native.Mathlib.Nat.{le_of_suc-le-suc, zero-lt-suc}
use native.Mathlib.Omega.{arith}
use mathlib.Core.Path.{◌≡◌, refl, sym, ap, ◌∙◌, subst}
use mathlib.Core.Bool.{Bool, true, false}
use mathlib.Core.List.{[], ◌∷◌, ◌++◌}
use borrow.Author.Tests.{eqb-true, eqb-false, eq-eqb, ne_eqb, lt-ltb, le-ltb}
use lib.Dec.{eqb, ltb}
use lib.ListN.{length, get_or}
use Rattle.format.specs.Bytes.{Bytes, pick}
use Rattle.values.specs.Likeness.{ahead, last_of, likeness_of, Means}
use Rattle.values.specs.declared.ends.Likeness.{Likeness}
use Rattle.values.proofs.Tests.{by_bool, three_ways}

-- which case applies
pub likeness-unlike : (a b : Bytes) → (length a ≡ length b → ⊥) → likeness_of a b ≡ Likeness.Unlike (ltb (length a) (length b))
unfolding likeness_of
likeness-unlike a b h = rw (ne_eqb (length a) (length b) h)

pub likeness-shorter : (a b : Bytes) → length a < length b → likeness_of a b ≡ Likeness.Unlike true
likeness-shorter a b h = likeness-unlike a b (λ e. omega arith) ∙ ap Likeness.Unlike (lt-ltb (length a) (length b) h)

pub likeness-longer : (a b : Bytes) → length b < length a → likeness_of a b ≡ Likeness.Unlike false
likeness-longer a b h = likeness-unlike a b (λ e. omega arith) ∙ ap Likeness.Unlike (le-ltb (length a) (length b) (omega arith))

pub likeness-last : (a b : Bytes) → length a ≡ length b → likeness_of a b ≡ last_of a b
unfolding likeness_of
likeness-last a b h = rw (eq-eqb (length a) (length b) h)

-- two bytes more in front
module _ (x y : ℕ) (a b : Bytes) (h : length a ≡ length b) where
  first-means : (t : Bool) → eqb x y ≡ t → a ≡ b → Means (x ∷ a) (y ∷ b) (pick t Likeness.Equal (Likeness.Differ 0 (ltb x y)))
  first-means true q e = let p = eqb-true x y q in cc
  first-means false q e = (ap suc h, zero-lt-suc (length a), eqb-false x y q, behind, refl)
    where
      behind : (i : ℕ) → 0 < i → i < suc (length a) → get_or (x ∷ a) i 0 ≡ get_or (y ∷ b) i 0
      behind zero g k = absurd (omega arith)
      behind (suc i) g k = ap (λ (v : Bytes). get_or v i 0) e

  ahead-means : (r : Likeness) → Means a b r → Means (x ∷ a) (y ∷ b) (ahead x y r)
  ahead-means Likeness.Equal m = first-means (eqb x y) refl m
  ahead-means (Likeness.Unlike f) m = absurd (m.0 h)
  ahead-means (Likeness.Differ k f) m = (ap suc h, suc-le-suc m.1, m.2, behind, m.4)
    where
      behind : (i : ℕ) → suc k < i → i < suc (length a) → get_or (x ∷ a) i 0 ≡ get_or (y ∷ b) i 0
      behind zero g l = absurd (omega arith)
      behind (suc i) g l = m.3 i (le_of_suc-le-suc g) (le_of_suc-le-suc l)

last-means : (a b : Bytes) → length a ≡ length b → Means a b (last_of a b)
unfolding last_of
last-means [] [] h = refl
last-means [] (y ∷ b) h = absurd (omega arith)
last-means (x ∷ a) [] h = absurd (omega arith)
last-means (x ∷ a) (y ∷ b) h = let e : length a ≡ length b = omega arith in ahead-means x y a b e (last_of a b) (last-means a b e)

pub last-equal : (a b : Bytes) → length a ≡ length b → last_of a b ≡ Likeness.Equal → a ≡ b
last-equal a b h e = subst (Means a b) e (last-means a b h)

-- The answer means what it says,
pub likeness-means : (a b : Bytes) → Means a b (likeness_of a b)
likeness-means a b =
    by_bool (eqb (length a) (length b))
    (λ q. let h = eqb-true (length a) (length b) q in subst (Means a b) (sym (likeness-last a b h)) (last-means a b h))
    (λ q. let h = eqb-false (length a) (length b) q in subst (Means a b) (sym (likeness-unlike a b h)) (h, refl))

-- and it is the only one that does.
one-means : (a b : Bytes) (q r : Likeness) → Means a b q → Means a b r → q ≡ r
one-means a b Likeness.Equal Likeness.Equal m n = refl
one-means a b Likeness.Equal (Likeness.Unlike g) m n = absurd (n.0 (ap length m))
one-means a b Likeness.Equal (Likeness.Differ l g) m n = absurd (n.2 (ap (λ (v : Bytes). get_or v l 0) m))
one-means a b (Likeness.Unlike f) Likeness.Equal m n = absurd (m.0 (ap length n))
one-means a b (Likeness.Unlike f) (Likeness.Unlike g) m n = ap Likeness.Unlike (m.1 ∙ sym n.1)
one-means a b (Likeness.Unlike f) (Likeness.Differ l g) m n = absurd (m.0 n.0)
one-means a b (Likeness.Differ k f) Likeness.Equal m n = absurd (m.2 (ap (λ (v : Bytes). get_or v k 0) n))
one-means a b (Likeness.Differ k f) (Likeness.Unlike g) m n = absurd (n.0 m.0)
one-means a b (Likeness.Differ k f) (Likeness.Differ l g) m n =
    three_ways k l (λ p. absurd (n.2 (m.3 l p n.1))) (λ p. absurd (m.2 (n.3 k p m.1)))
    (λ p. let e : ltb (get_or a k 0) (get_or b k 0) ≡ ltb (get_or a l 0) (get_or b l 0) = ap (λ (i : ℕ). ltb (get_or a i 0) (get_or b i 0)) p in let u = m.4 ∙ e ∙ sym n.4 in cc)

pub means-likeness : (a b : Bytes) (r : Likeness) → Means a b r → r ≡ likeness_of a b
means-likeness a b r m = one-means a b r (likeness_of a b) m (likeness-means a b)

-- The same by its cases: equal exactly when the bytes are,
pub likeness-same : (a b : Bytes) → likeness_of a b ≡ Likeness.Equal → a ≡ b
likeness-same a b e = subst (Means a b) e (likeness-means a b)

pub same-likeness : (a b : Bytes) → a ≡ b → likeness_of a b ≡ Likeness.Equal
same-likeness a b e = sym (means-likeness a b Likeness.Equal e)

-- lengths unlike exactly where they are,
pub unlike-lengths : (a b : Bytes) {f : Bool} → likeness_of a b ≡ Likeness.Unlike f → length a ≡ length b → ⊥
unlike-lengths a b {f} e = (subst (Means a b) e (likeness-means a b)).0

-- and of two of one length, the greatest place at which they differ.
pub last-difference : (a b : Bytes) {k : ℕ} {f : Bool} → likeness_of a b ≡ Likeness.Differ k f → Means a b (Likeness.Differ k f)
last-difference a b {k} {f} e = subst (Means a b) e (likeness-means a b)

-- Two texts that end alike, behind fronts of one length and two bytes that differ.
pub last-same : (a : Bytes) → last_of a a ≡ Likeness.Equal
unfolding last_of
last-same [] = refl
last-same (x ∷ a) = rw (last-same a, eq-eqb x x refl)

pub last-here : (f g r : Bytes) (c d : ℕ) → length f ≡ length g → (c ≡ d → ⊥) → last_of (f ++ (c ∷ r)) (g ++ (d ∷ r)) ≡ Likeness.Differ (length f) (ltb c d)
unfolding last_of
last-here [] [] r c d h n = rw (last-same r, ne_eqb c d n)
last-here [] (y ∷ g) r c d h n = absurd (omega arith)
last-here (x ∷ f) [] r c d h n = absurd (omega arith)
last-here (x ∷ f) (y ∷ g) r c d h n = let e : length f ≡ length g = omega arith in rw (last-here f g r c d e n)
