-- The byte-class table: its rule, proved once over all entries by a computed test.
use Prim.Native.Nat.{ℕ, zero, suc, ◌+◌, ◌<◌}
use native.Mathlib.Nat.{add-zero, zero-add}
use native.Mathlib.Omega.{arith}
use mathlib.Core.Path.{◌≡◌, refl, sym, ap, ◌∙◌, subst}
use mathlib.Core.Bool.{Bool, true, false, ◌||◌, not, beq, and-eq-true_iff}
use mathlib.Core.List.{map}
use lib.Dec.{eqb}
use lib.ListN.{get_or}
use Rattle.format.specs.Bytes.{all, up_from, class_of, class_table, is_letter, is_digit, is_blank, is_newline, is_allowed}
use Rattle.format.specs.Lines.{is_first, is_later}

-- a test of all bytes from c on holds of each
each : (p : ℕ → Bool) (n c i : ℕ) → all p (up_from n c) ≡ true → i < n → p (c + i) ≡ true
each p zero c i e h = absurd (omega arith)
each p (suc n) c zero e h = rw add-zero ((and-eq-true_iff (p c) (all p (up_from n (suc c)))).0 e).0
each p (suc n) c (suc i) e h =
    let q : suc c + i ≡ c + suc i = omega arith in
    subst (λ (x : ℕ). p x ≡ true) q (each p n (suc c) i ((and-eq-true_iff (p c) (all p (up_from n (suc c)))).0 e).1 (omega arith))

pub each-byte : (p : ℕ → Bool) → all p (up_from 256 0) ≡ true → (c : ℕ) → c < 256 → p c ≡ true
each-byte p e c h = rw zero-add at (each p 256 0 c e h)

entry : (f : ℕ → ℕ) (n c i : ℕ) → i < n → get_or (map f (up_from n c)) i 0 ≡ f (c + i)
entry f zero c i h = absurd (omega arith)
entry f (suc n) c zero h = rw add-zero
entry f (suc n) c (suc i) h = entry f n (suc c) i (omega arith) ∙ ap f (omega arith)

-- the table holds each byte's class
pub class-at : (c : ℕ) → c < 256 → get_or class_table c 0 ≡ class_of c
unfolding class_table
class-at c h = entry class_of 256 0 c h ∙ ap class_of (zero-add c)

-- two tests that agree on every byte
beq-eq : (a b : Bool) → beq a b ≡ true → a ≡ b
beq-eq true true e = refl
beq-eq true false e = sym e
beq-eq false true e = e
beq-eq false false e = refl

agree : (p q : ℕ → Bool) → all (λ (c : ℕ). beq (p c) (q c)) (up_from 256 0) ≡ true → (c : ℕ) → c < 256 → p c ≡ q c
agree p q e c h = beq-eq (p c) (q c) (each-byte (λ (x : ℕ). beq (p x) (q x)) e c h)

-- each test of a byte by its class
abbrev has : ℕ → ℕ → Bool
has k c = eqb (class_of c) k

module _ (c : ℕ) (h : c < 256) where
  pub letter-class : is_letter c ≡ has 1 c
  unfolding class_of
  letter-class = agree is_letter (has 1) refl c h

  pub digit-class : is_digit c ≡ has 2 c
  unfolding class_of
  digit-class = agree is_digit (has 2) refl c h

  pub blank-class : is_blank c ≡ has 3 c
  unfolding class_of
  blank-class = agree is_blank (has 3) refl c h

  pub newline-class : is_newline c ≡ has 4 c
  unfolding class_of
  newline-class = agree is_newline (has 4) refl c h

  pub control-class : is_allowed c ≡ not (has 0 c)
  unfolding class_of
  control-class = agree is_allowed (λ (x : ℕ). not (has 0 x)) refl c h

  pub first-class : is_first c ≡ has 1 c || has 6 c
  unfolding class_of
  first-class = agree is_first (λ (x : ℕ). has 1 x || has 6 x) refl c h

  pub later-class : is_later c ≡ has 1 c || has 2 c || has 5 c
  unfolding class_of
  later-class = agree is_later (λ (x : ℕ). has 1 x || has 2 x || has 5 x) refl c h
