-- Sets of tags, bit by bit: none, one tag, two sets together.
use Prim.Native.Nat.{ℕ, zero, suc, ◌*◌, ◌/◌, ◌%◌, ◌^◌, ◌<◌, max}
use native.Mathlib.Nat.{one-mul, div-one}
use native.Mathlib.Numerals.{one-add}
use native.Mathlib.Omega.{arith}
use mathlib.Core.Path.{◌≡◌, refl, sym, ap, ap₂, ◌∙◌}
use mathlib.Core.Bool.{false, ◌||◌}
use borrow.Author.Tests.{eqb-true, eqb-false, eq-eqb, ne_eqb}
use lib.Dec.{eqb}
use lib.Bits.{bit_or, or_step, shifted_half, shifted_even}
use lib.Pow.{shr-shr, shl_exact}
use Rattle.values.proofs.Tests.{by_bool}
use Rattle.terms.specs.Sets.{in_set}

-- the lowest bit, and the others
in-low : (x : ℕ) → in_set 0 x ≡ eqb (x % 2) 1
unfolding in_set
in-low x = refl

in-high : (k x : ℕ) → in_set (suc k) x ≡ in_set k (x / 2)
unfolding in_set
in-high k x = refl

pub in-none : (k : ℕ) → in_set k 0 ≡ false
unfolding in_set
in-none zero = refl
in-none (suc k) = in-none k

-- as a shift finds it
pub in_shift : (k x : ℕ) → in_set k x ≡ eqb (x / 2 ^ k % 2) 1
in_shift zero x = in-low x ∙ ap (λ (y : ℕ). eqb (y % 2) 1) (sym (div-one x))
in_shift (suc k) x = in-high k x ∙ in_shift k (x / 2) ∙ ap (λ (y : ℕ). eqb (y % 2) 1) (shr-shr x 1 k ∙ ap (λ (n : ℕ). x / 2 ^ n) (one-add k))

-- two sets together
low_bits : (x y : ℕ) → x < 2 → y < 2 → eqb (max x y) 1 ≡ eqb x 1 || eqb y 1
low_bits zero zero h g = refl
low_bits zero (suc zero) h g = refl
low_bits (suc zero) zero h g = refl
low_bits (suc zero) (suc zero) h g = refl
low_bits (suc (suc x)) y h g = absurd (omega arith)
low_bits zero (suc (suc y)) h g = absurd (omega arith)
low_bits (suc zero) (suc (suc y)) h g = absurd (omega arith)

or-low : (a b : ℕ) → bit_or a b % 2 ≡ max (a % 2) (b % 2)
or-low a b = let e = or_step a b in omega arith

or-half : (a b : ℕ) → bit_or a b / 2 ≡ bit_or (a / 2) (b / 2)
or-half a b = let e = or_step a b in omega arith

pub in-or : (k a b : ℕ) → in_set k (bit_or a b) ≡ in_set k a || in_set k b
in-or zero a b =
    in-low (bit_or a b) ∙ ap (λ (y : ℕ). eqb y 1) (or-low a b) ∙ low_bits (a % 2) (b % 2) (omega arith) (omega arith) ∙ sym (ap₂ ◌||◌ (in-low a) (in-low b))
in-or (suc k) a b = in-high k (bit_or a b) ∙ ap (in_set k) (or-half a b) ∙ in-or k (a / 2) (b / 2) ∙ sym (ap₂ ◌||◌ (in-high k a) (in-high k b))

-- one tag
eqb-suc : (k j : ℕ) → eqb (suc k) (suc j) ≡ eqb k j
eqb-suc k j =
    by_bool (eqb k j) (λ e. let q = eqb-true k j e in eq-eqb (suc k) (suc j) (omega arith) ∙ sym e)
    (λ e. ne_eqb (suc k) (suc j) (λ z. eqb-false k j e (omega arith)) ∙ sym e)

power-half : (j : ℕ) → 2 ^ suc j / 2 ≡ 2 ^ j
power-half j = ap (λ (z : ℕ). z / 2) (sym (one-mul (2 ^ suc j))) ∙ shifted_half 1 j ∙ one-mul (2 ^ j)

power-even : (j : ℕ) → 2 ^ suc j % 2 ≡ 0
power-even j = ap (λ (z : ℕ). z % 2) (sym (one-mul (2 ^ suc j))) ∙ shifted_even 1 j

pub in-single : (j k : ℕ) → in_set k (2 ^ j) ≡ eqb k j
in-single zero zero = in-low 1
in-single zero (suc k) = in-high k 1 ∙ in-none k ∙ sym (ne_eqb (suc k) 0 (λ e. omega arith))
in-single (suc j) zero = in-low (2 ^ suc j) ∙ ap (λ (y : ℕ). eqb y 1) (power-even j) ∙ sym (ne_eqb 0 (suc j) (λ e. omega arith))
in-single (suc j) (suc k) = in-high k (2 ^ suc j) ∙ ap (in_set k) (power-half j) ∙ in-single j k ∙ sym (eqb-suc k j)

pub one_bit : (k : ℕ) → k < 64 → 1 * 2 ^ k % 18446744073709551616 ≡ 2 ^ k
one_bit k h = shl_exact 1 k 64 (omega arith) (omega arith) ∙ one-mul (2 ^ k)
