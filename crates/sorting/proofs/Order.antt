-- The order of texts, by their first bytes; it is transitive, nothing comes before itself, and what is equal is the same.
use Prim.Native.Nat.{ℕ, ◌<◌, ◌≤◌}
use native.Mathlib.Omega.{arith}
use mathlib.Core.Path.{◌≡◌, refl, sym, ◌∙◌}
use mathlib.Core.List.{[], ◌∷◌}
use mathlib.Core.Logic.{◌⊎◌, inl, inr, ⊎_elim}
use borrow.Author.Tests.{lt-ltb, le-ltb, ne_eqb}
use Rattle.std.specs.Ordering.{nat_cmp}
use Rattle.format.specs.Bytes.{Bytes}
use Rattle.values.proofs.Tests.{three_ways}
use Rattle.sorting.specs.Order.{compared_of}
use Rattle.std.specs.declared.cmp.Ordering.{Ordering}

-- where two different constructors would be equal
pub never : {A : Type 0} → ◌≡◌ {A = ℕ} 0 1 → A
never e = absurd (omega arith)

-- what the first bytes decide
module _ (x y : ℕ) (s t : Bytes) where
  pub compared-lt : x < y → compared_of (x ∷ s) (y ∷ t) ≡ Ordering.Less
  unfolding compared_of
  compared-lt h = rw (lt-ltb x y h)

  pub compared-gt : y < x → compared_of (x ∷ s) (y ∷ t) ≡ Ordering.Greater
  unfolding compared_of
  compared-gt h = rw (le-ltb x y (omega arith), lt-ltb y x h)

  pub compared-on : y ≤ x → x ≤ y → compared_of (x ∷ s) (y ∷ t) ≡ compared_of s t
  unfolding compared_of
  compared-on h g = rw (le-ltb x y h, le-ltb y x g)

-- bytes that differ decide as numbers do
pub compared-cmp : (x y : ℕ) (s t : Bytes) → (x ≡ y → ⊥) → compared_of (x ∷ s) (y ∷ t) ≡ nat_cmp x y
compared-cmp x y s t n =
    three_ways x y (λ h. compared-lt x y s t h ∙ sym (rw (lt-ltb x y h)))
    (λ h. compared-gt x y s t h ∙ sym (rw (le-ltb x y (omega arith), ne_eqb x y n)))
    (λ h. absurd (n h))

pub compared-eq : (x y : ℕ) (s t : Bytes) → x ≡ y → compared_of (x ∷ s) (y ∷ t) ≡ compared_of s t
compared-eq x y s t e = compared-on x y s t (omega arith) (omega arith)

pub compared_same : (a : Bytes) → compared_of a a ≡ Ordering.Equal
unfolding compared_of
compared_same [] = refl
compared_same (x ∷ a) = rw (le-ltb x x (omega arith)) (compared_same a)

pub equal-same : (a b : Bytes) → compared_of a b ≡ Ordering.Equal → a ≡ b
unfolding compared_of
equal-same [] [] e = refl
equal-same [] (y ∷ t) e = never (cc)
equal-same (x ∷ s) [] e = never (cc)
equal-same (x ∷ s) (y ∷ t) e =
    three_ways x y (λ h. never (cc (compared-lt x y s t h)))
    (λ h. never (cc (compared-gt x y s t h)))
    (λ h. let q = equal-same s t (sym (compared-on x y s t (omega arith) (omega arith)) ∙ e) in cc)

before-cases : (x y : ℕ) (s t : Bytes) → compared_of (x ∷ s) (y ∷ t) ≡ Ordering.Less → (x < y) ⊎ ((x ≡ y) × (compared_of s t ≡ Ordering.Less))
before-cases x y s t e =
    three_ways x y (λ h. inl h)
    (λ h. never (cc (compared-gt x y s t h)))
    (λ h. inr (h, sym (compared-on x y s t (omega arith) (omega arith)) ∙ e))

pub before-trans : (a b c : Bytes) → compared_of a b ≡ Ordering.Less → compared_of b c ≡ Ordering.Less → compared_of a c ≡ Ordering.Less
unfolding compared_of
before-trans [] [] c e f = f
before-trans [] (y ∷ t) [] e f = never (cc)
before-trans [] (y ∷ t) (w ∷ u) e f = refl
before-trans (x ∷ s) [] c e f = never (cc)
before-trans (x ∷ s) (y ∷ t) [] e f = f
before-trans (x ∷ s) (y ∷ t) (w ∷ u) e f =
    ⊎_elim
    (λ h. ⊎_elim (λ g. compared-lt x w s u (omega arith)) (λ g. let q = g.0 in compared-lt x w s u (omega arith)) (before-cases y w t u f))
    (λ h.
    let p = h.0 in
    ⊎_elim (λ g. compared-lt x w s u (omega arith))
    (λ g. let q = g.0 in compared-on x w s u (omega arith) (omega arith) ∙ before-trans s t u h.1 g.1)
    (before-cases y w t u f))
    (before-cases x y s t e)

pub before-apart : (a b : Bytes) → compared_of a b ≡ Ordering.Less → a ≡ b → ⊥
before-apart a b e q = let f : compared_of a a ≡ Ordering.Less = rw (← q) at e in never (cc (compared_same a))

-- the other way round
pub behind-before : (a b : Bytes) → compared_of a b ≡ Ordering.Greater → compared_of b a ≡ Ordering.Less
unfolding compared_of
behind-before [] [] e = never (cc)
behind-before [] (y ∷ t) e = never (cc)
behind-before (x ∷ s) [] e = refl
behind-before (x ∷ s) (y ∷ t) e =
    three_ways x y (λ h. never (cc (compared-lt x y s t h)))
    (λ h. compared-lt y x t s h)
    (λ h. compared-on y x t s (omega arith) (omega arith) ∙ behind-before s t (sym (compared-on x y s t (omega arith) (omega arith)) ∙ e))
