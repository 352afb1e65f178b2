-- Decimal digits, written from the last one on.
use Prim.Native.Nat.{ℕ, zero, suc, ◌+◌, ◌-◌, ◌/◌, ◌%◌, ◌≤◌, ◌<◌}
use native.Mathlib.Nat.{mod-eq_of_lt}
use native.Mathlib.Omega.{arith}
use mathlib.Core.Path.{◌≡◌, refl, sym, ap, ◌∙◌}
use mathlib.Core.List.{[], ◌∷◌, ◌++◌, append-nil, append_assoc}
use lib.ListN.{length, drop, set, length-append, drop_of_length-le}
use borrow.Author.Tests.{ne_eqb}
use Rattle.format.specs.Bytes.{Bytes}
use Rattle.format.specs.Written.{indent}
use Rattle.format.specs.Numbering.{decimal}
use Rattle.format.proofs.Elements.{Each}
use Rattle.format.proofs.Digits.{Digit, decimal-one, decimal-more, decimal-digits, decimal-length}
use Rattle.numbering.specs.Bounds.{numbers}

pub digits-start : (n : ℕ) (t : Bytes) → decimal n ≡ decimal n ++ drop (length t) t
digits-start n t = sym (ap (λ (x : Bytes). decimal n ++ x) (drop_of_length-le t (let l : length t ≤ length t = omega arith in l)) ∙ append-nil (decimal n))

-- there is one, and there are few
pub digits-some : (n : ℕ) → 1 ≤ length (decimal n)
digits-some n = go n (n / 10) refl
  where
    go : (n m : ℕ) → n / 10 ≡ m → 1 ≤ length (decimal n)
    go n zero e = omega (arith, ap length (decimal-one n (omega arith)))
    go n (suc m) e = omega (arith, ap length (decimal-more n (omega arith)), length-append (decimal (n / 10)) ((48 + n % 10) ∷ []))

pub digits-few : (n : ℕ) → n < 18446744073709551616 → length (decimal n) ≤ 20
digits-few n h = decimal-length 19 n (omega arith)

drop-set : (t : Bytes) (k x : ℕ) → k < length t → drop k (set t k x) ≡ x ∷ drop (suc k) t
drop-set [] k x h = absurd (omega arith)
drop-set (c ∷ t) zero x h = refl
drop-set (c ∷ t) (suc k) x h = drop-set t k x (omega arith)

module _ (n : ℕ) (t : Bytes) (at x : ℕ) (one : 1 ≤ at) (h : at ≤ length t) (q : x ≡ 48 + n % 10) where
  written_on : drop (at - 1) (set t (at - 1) x) ≡ (48 + n % 10) ∷ drop at t
  written_on =
      let e : suc (at - 1) ≡ at = omega arith in
      drop-set t (at - 1) x (omega arith) ∙ (λ i. q i ∷ drop (e i) t)

  -- the last one
  pub digits-end : n < 10 → drop (at - 1) (set t (at - 1) x) ≡ decimal n ++ drop at t
  digits-end l = written_on ∙ ap (λ (m : ℕ). (48 + m) ∷ drop at t) (mod-eq_of_lt l) ∙ sym (ap (λ (s : Bytes). s ++ drop at t) (decimal-one n l))

  -- one of several
  pub digits_more : 10 ≤ n → decimal (n / 10) ++ drop (at - 1) (set t (at - 1) x) ≡ decimal n ++ drop at t
  digits_more l =
      ap (λ (s : Bytes). decimal (n / 10) ++ s) written_on ∙ sym (append_assoc (decimal (n / 10)) ((48 + n % 10) ∷ []) (drop at t))
      ∙ sym (ap (λ (s : Bytes). s ++ drop at t) (decimal-more n l))

pub digits-less : (n at : ℕ) → 10 ≤ n → length (decimal n) ≤ at → length (decimal (n / 10)) ≤ at - 1
digits-less n at l h = omega (arith, ap length (decimal-more n l), length-append (decimal (n / 10)) ((48 + n % 10) ∷ []))

-- they are written as they are
indent-digits : (s : Bytes) → Each Digit s → indent s ≡ s
indent-digits [] h = refl
indent-digits (c ∷ s) h = rw (ne_eqb c 10 (λ q. omega (arith, q, h.0))) (ap (λ (t : Bytes). c ∷ t) (indent-digits s h.1))

pub indent-decimal : (n : ℕ) → indent (decimal n) ≡ decimal n
indent-decimal n = indent-digits (decimal n) (decimal-digits n)

pub number_short : (n : ℕ) → n < numbers → length (decimal n) ≤ 19
number_short n h = decimal-length 18 n (omega arith)
