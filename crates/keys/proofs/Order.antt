-- The order is transitive, nothing comes before itself, and what is equal is the same.
use Prim.Native.Nat.{ℕ, ◌<◌}
use native.Mathlib.Omega.{arith}
use mathlib.Core.Path.{◌≡◌, sym, ap, ◌∙◌}
use mathlib.Core.Logic.{◌⊎◌, inl, inr, ⊎_elim}
use mathlib.Core.List.{◌∷◌}
use borrow.Author.Tests.{lt-ltb, le-ltb}
use Rattle.format.specs.Bytes.{Bytes}
use Rattle.values.specs.Likeness.{likeness_of}
use Rattle.sorting.specs.Order.{order_of}
use Rattle.std.specs.declared.cmp.Ordering.{Ordering}
use Rattle.values.proofs.Tests.{three_ways}
use Rattle.sorting.proofs.Order.{never}
use Rattle.sorting.proofs.Ordered.{order_same, order-apart, order_trans}
use Rattle.keys.specs.Order.{number_in, value_in, ranked}

-- what the numbers decide
module _ (a b : Bytes) where
  pub ranked-lt : number_in a < number_in b → ranked a b ≡ Ordering.Less
  unfolding ranked
  ranked-lt h = rw (lt-ltb (number_in a) (number_in b) h)

  pub ranked-gt : number_in b < number_in a → ranked a b ≡ Ordering.Greater
  unfolding ranked
  ranked-gt h = rw (le-ltb (number_in a) (number_in b) (omega arith), lt-ltb (number_in b) (number_in a) h)

  pub ranked-on : number_in a ≡ number_in b → ranked a b ≡ order_of (likeness_of (value_in a) (value_in b))
  unfolding ranked
  ranked-on h = rw (le-ltb (number_in a) (number_in b) (omega arith), le-ltb (number_in b) (number_in a) (omega arith))

  before-cases : ranked a b ≡ Ordering.Less → (number_in a < number_in b) ⊎ ((number_in a ≡ number_in b) × (order_of (likeness_of (value_in a) (value_in b)) ≡ Ordering.Less))
  before-cases e = three_ways (number_in a) (number_in b) (λ h. inl h) (λ h. never (cc (ranked-gt h))) (λ h. inr (h, sym (ranked-on h) ∙ e))

  pub ranked-apart : ranked a b ≡ Ordering.Less → a ≡ b → ⊥
  ranked-apart e q = order-apart (value_in a) (value_in b) (sym (ranked-on (ap number_in q)) ∙ e) (ap value_in q)

pub ranked-same : (m n : ℕ) (a b : Bytes) → ranked (m ∷ a) (n ∷ b) ≡ Ordering.Equal → ◌≡◌ {A = Bytes} (m ∷ a) (n ∷ b)
ranked-same m n a b e =
    three_ways m n (λ h. never (cc (ranked-lt (m ∷ a) (n ∷ b) h)))
    (λ h. never (cc (ranked-gt (m ∷ a) (n ∷ b) h)))
    (λ h. let q : a ≡ b = order_same a b (sym (ranked-on (m ∷ a) (n ∷ b) h) ∙ e) in λ i. h i ∷ q i)

pub ranked-trans : (a b c : Bytes) → ranked a b ≡ Ordering.Less → ranked b c ≡ Ordering.Less → ranked a c ≡ Ordering.Less
ranked-trans a b c e f =
    ⊎_elim
    (λ p. ⊎_elim (λ q. ranked-lt a c (omega arith)) (λ q. let h = q.0 in ranked-lt a c (omega arith)) (before-cases b c f))
    (λ p.
    let h = p.0 in
    ⊎_elim (λ q. ranked-lt a c (omega arith)) (λ q. ranked-on a c (h ∙ q.0) ∙ order_trans (value_in a) (value_in b) (value_in c) p.1 q.1) (before-cases b c f))
    (before-cases a b e)
