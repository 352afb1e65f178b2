-- The order of values is transitive, nothing comes before itself, and what is equal is the same.
use Prim.Native.Nat.{ℕ, ◌<◌}
use native.Mathlib.Omega.{arith}
use mathlib.Core.Path.{◌≡◌, refl, sym, ap, ◌∙◌, subst}
use mathlib.Core.Bool.{Bool, true, false}
use mathlib.Core.List.{[], ◌∷◌}
use mathlib.Core.Logic.{◌⊎◌, inl, inr, ⊎_elim}
use borrow.Author.Tests.{ltb-true, lt-ltb, ne_eqb}
use lib.Dec.{eqb, ltb}
use lib.ListN.{length}
use Rattle.format.specs.Bytes.{Bytes, pick}
use Rattle.values.specs.Likeness.{ahead, last_of, likeness_of}
use Rattle.sorting.specs.Order.{first_of, order_of}
use Rattle.std.specs.declared.cmp.Ordering.{Ordering}
use Rattle.values.specs.declared.ends.Likeness.{Likeness}
use Rattle.values.proofs.Tests.{three_ways}
use Rattle.sorting.proofs.Order.{never}
use Rattle.values.proofs.Likenesses.{likeness-shorter, likeness-longer, likeness-last, likeness-same, same-likeness, last-equal, last-same}

first-true : (t : Bool) → first_of t ≡ Ordering.Less → t ≡ true
first-true true e = refl
first-true false e = never (cc)

first-never : (t : Bool) → first_of t ≡ Ordering.Equal → ⊥
first-never true e = never (cc)
first-never false e = never (cc)

equal-only : (r : Likeness) → order_of r ≡ Ordering.Equal → r ≡ Likeness.Equal
equal-only Likeness.Equal e = refl
equal-only (Likeness.Unlike f) e = absurd (first-never f e)
equal-only (Likeness.Differ k f) e = absurd (first-never f e)

pub order_same : (a b : Bytes) → order_of (likeness_of a b) ≡ Ordering.Equal → a ≡ b
order_same a b e = likeness-same a b (equal-only (likeness_of a b) e)

pub order-apart : (a b : Bytes) → order_of (likeness_of a b) ≡ Ordering.Less → a ≡ b → ⊥
order-apart a b e q = let f = sym (ap order_of (same-likeness a b q)) ∙ e in never (cc)

-- two bytes more in front
module _ (x y : ℕ) where
  first-before : (t : Bool) → eqb x y ≡ t → order_of (pick t Likeness.Equal (Likeness.Differ 0 (ltb x y))) ≡ Ordering.Less → x < y
  first-before true q e = never (cc)
  first-before false q e = ltb-true x y (first-true (ltb x y) e)

  ahead-cases : (r : Likeness) → order_of (ahead x y r) ≡ Ordering.Less → (order_of r ≡ Ordering.Less) ⊎ ((r ≡ Likeness.Equal) × (x < y))
  ahead-cases Likeness.Equal e = inr (refl, first-before (eqb x y) refl e)
  ahead-cases (Likeness.Unlike f) e = inl e
  ahead-cases (Likeness.Differ k f) e = inl e

  ahead_before : (r : Likeness) → order_of r ≡ Ordering.Less → order_of (ahead x y r) ≡ Ordering.Less
  ahead_before Likeness.Equal e = never (cc)
  ahead_before (Likeness.Unlike f) e = e
  ahead_before (Likeness.Differ k f) e = e

  ahead-first : (a : Bytes) → x < y → order_of (ahead x y (last_of a a)) ≡ Ordering.Less
  ahead-first a h = rw (last-same a, ne_eqb x y (λ q. omega arith), lt-ltb x y h)

last-cases : (x y : ℕ) (a b : Bytes) → length a ≡ length b → order_of (ahead x y (last_of a b)) ≡ Ordering.Less → (order_of (last_of a b) ≡ Ordering.Less) ⊎ ((a ≡ b) × (x < y))
last-cases x y a b h e = ⊎_elim (λ p. inl p) (λ p. inr (last-equal a b h p.0, p.1)) (ahead-cases x y (last_of a b) e)

last-trans : (a b c : Bytes) → length a ≡ length b → length b ≡ length c → order_of (last_of a b) ≡ Ordering.Less → order_of (last_of b c) ≡ Ordering.Less → order_of (last_of a c) ≡ Ordering.Less
unfolding last_of
last-trans [] b c h g e f = never (cc)
last-trans (x ∷ a) [] c h g e f = never (cc)
last-trans (x ∷ a) (y ∷ b) [] h g e f = never (cc)
last-trans (x ∷ a) (y ∷ b) (z ∷ c) h g e f =
    let m : length a ≡ length b = omega arith in
    let n : length b ≡ length c = omega arith in
    let P : Bytes → Bytes → Type 0 = λ v w. order_of (last_of v w) ≡ Ordering.Less in
    ⊎_elim
    (λ p. ⊎_elim (λ q. ahead_before x z (last_of a c) (last-trans a b c m n p q)) (λ q. ahead_before x z (last_of a c) (subst (P a) q.0 p)) (last-cases y z b c n f))
    (λ p.
    ⊎_elim (λ q. ahead_before x z (last_of a c) (subst (λ (v : Bytes). P v c) (sym p.0) q))
    (λ q. let u = p.1 in let w = q.1 in subst (λ (v : Bytes). order_of (ahead x z (last_of a v)) ≡ Ordering.Less) (p.0 ∙ q.0) (ahead-first x z a (omega arith)))
    (last-cases y z b c n f))
    (last-cases x y a b m e)

order-cases : (a b : Bytes) → order_of (likeness_of a b) ≡ Ordering.Less → (length a < length b) ⊎ ((length a ≡ length b) × (order_of (last_of a b) ≡ Ordering.Less))
order-cases a b e =
    three_ways (length a) (length b) (λ h. inl h)
    (λ h. let f = sym (ap order_of (likeness-longer a b h)) ∙ e in never (cc))
    (λ h. inr (h, sym (ap order_of (likeness-last a b h)) ∙ e))

order-shorter : (a b : Bytes) → length a < length b → order_of (likeness_of a b) ≡ Ordering.Less
order-shorter a b h = ap order_of (likeness-shorter a b h)

pub order_trans : (a b c : Bytes) → order_of (likeness_of a b) ≡ Ordering.Less → order_of (likeness_of b c) ≡ Ordering.Less → order_of (likeness_of a c) ≡ Ordering.Less
order_trans a b c e f =
    ⊎_elim
    (λ p. ⊎_elim (λ q. order-shorter a c (omega arith)) (λ q. let g = q.0 in order-shorter a c (omega arith)) (order-cases b c f))
    (λ p.
    let h = p.0 in
    ⊎_elim (λ q. order-shorter a c (omega arith))
    (λ q. ap order_of (likeness-last a c (h ∙ q.0)) ∙ last-trans a b c h q.0 p.1 q.1)
    (order-cases b c f))
    (order-cases a b e)
