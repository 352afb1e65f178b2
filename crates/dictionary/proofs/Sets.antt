-- Sets of places: those in both of two, the first so many, those of the first so many that are missing, one more, none.
use Prim.Native.Nat.{ℕ, zero, suc, ◌-◌, ◌*◌, ◌/◌, ◌%◌, ◌^◌, ◌≤◌, ◌<◌, min}
use native.Mathlib.Nat.{pow-suc}
use native.Mathlib.Omega.{arith}
use mathlib.Core.Path.{◌≡◌, refl, sym, ap, ap₂, ◌∙◌}
use mathlib.Core.Bool.{Bool, true, false, ◌&&◌, ◌||◌, not}
use borrow.Author.Tests.{eqb-false, eq-eqb, lt-ltb, le-ltb}
use lib.Bits.{bit_and, bit_or, bit_xor, differ, and_step, xor_step}
use lib.Dec.{eqb, ltb}
use lib.Pow.{pow_pos}
use Rattle.values.proofs.Tests.{dec-lt}
use Rattle.terms.specs.Sets.{in_set}
use Rattle.terms.proofs.Sets.{in-none, in-or, in-single, one_bit}

-- the lowest place, and the others
pub in-low : (x : ℕ) → in_set 0 x ≡ eqb (x % 2) 1
unfolding in_set
in-low x = refl

pub in-high : (k x : ℕ) → in_set (suc k) x ≡ in_set k (x / 2)
unfolding in_set
in-high k x = refl

-- in both of two sets
low-both : (x y : ℕ) → x < 2 → y < 2 → eqb (min x y) 1 ≡ eqb x 1 && eqb y 1
low-both zero zero h g = refl
low-both zero (suc zero) h g = refl
low-both (suc zero) zero h g = refl
low-both (suc zero) (suc zero) h g = refl
low-both (suc (suc x)) y h g = absurd (omega arith)
low-both zero (suc (suc y)) h g = absurd (omega arith)
low-both (suc zero) (suc (suc y)) h g = absurd (omega arith)

and_low : (a b : ℕ) → bit_and a b % 2 ≡ min (a % 2) (b % 2)
and_low a b = let e = and_step a b in omega arith

and-half : (a b : ℕ) → bit_and a b / 2 ≡ bit_and (a / 2) (b / 2)
and-half a b = let e = and_step a b in omega arith

pub in_and : (k a b : ℕ) → in_set k (bit_and a b) ≡ in_set k a && in_set k b
in_and zero a b =
    in-low (bit_and a b) ∙ ap (λ (y : ℕ). eqb y 1) (and_low a b) ∙ low-both (a % 2) (b % 2) (omega arith) (omega arith) ∙ sym (ap₂ ◌&&◌ (in-low a) (in-low b))
in_and (suc k) a b = in-high k (bit_and a b) ∙ ap (in_set k) (and-half a b) ∙ in_and k (a / 2) (b / 2) ∙ sym (ap₂ ◌&&◌ (in-high k a) (in-high k b))

-- in one of two sets alone
abbrev alone : Bool → Bool → Bool
alone true b = not b
alone false b = b

low-alone : (x y : ℕ) → x < 2 → y < 2 → (differ x y < 2) × (eqb (differ x y) 1 ≡ alone (eqb x 1) (eqb y 1))
low-alone zero zero h g = (omega arith, refl)
low-alone zero (suc zero) h g = (omega arith, refl)
low-alone (suc zero) zero h g = (omega arith, refl)
low-alone (suc zero) (suc zero) h g = (omega arith, refl)
low-alone (suc (suc x)) y h g = absurd (omega arith)
low-alone zero (suc (suc y)) h g = absurd (omega arith)
low-alone (suc zero) (suc (suc y)) h g = absurd (omega arith)

in-xor : (k a b : ℕ) → in_set k (bit_xor a b) ≡ alone (in_set k a) (in_set k b)
in-xor zero a b =
    let e = xor_step a b in
    let d = low-alone (a % 2) (b % 2) (omega arith) (omega arith) in
    let l : bit_xor a b % 2 ≡ differ (a % 2) (b % 2) = omega (arith, e, d.0) in
    in-low (bit_xor a b) ∙ ap (λ (y : ℕ). eqb y 1) l ∙ d.1 ∙ sym (ap₂ alone (in-low a) (in-low b))
in-xor (suc k) a b =
    let e = xor_step a b in
    let d = low-alone (a % 2) (b % 2) (omega arith) (omega arith) in
    let h : bit_xor a b / 2 ≡ bit_xor (a / 2) (b / 2) = omega (arith, e, d.0) in
    in-high k (bit_xor a b) ∙ ap (in_set k) h ∙ in-xor k (a / 2) (b / 2) ∙ sym (ap₂ alone (in-high k a) (in-high k b))

-- the first n places
pub ltb-suc : (k n : ℕ) → ltb k n ≡ ltb (suc k) (suc n)
ltb-suc k n =
    dec-lt k n (λ h. lt-ltb k n h ∙ sym (lt-ltb (suc k) (suc n) (omega (arith, h)))) (λ h. le-ltb k n h ∙ sym (le-ltb (suc k) (suc n) (omega (arith, h))))

pub in-first : (k n : ℕ) → in_set k (2 ^ n - 1) ≡ ltb k n
in-first k zero = in-none k ∙ sym (le-ltb k 0 (omega arith))
in-first zero (suc n) =
    let e = pow-suc 2 n in
    let p = pow_pos n in
    in-low (2 ^ suc n - 1) ∙ eq-eqb ((2 ^ suc n - 1) % 2) 1 (omega (arith, e, p)) ∙ sym (lt-ltb 0 (suc n) (omega arith))
in-first (suc k) (suc n) =
    let e = pow-suc 2 n in
    let p = pow_pos n in
    let h : (2 ^ suc n - 1) / 2 ≡ 2 ^ n - 1 = omega (arith, e, p) in
    in-high k (2 ^ suc n - 1) ∙ ap (in_set k) h ∙ in-first k n ∙ ltb-suc k n

-- those of the first n that are not in a set
pub in-missing : (k n a x : ℕ) → a ≡ 2 ^ n - 1 → in_set k (bit_and a (bit_xor a x)) ≡ (ltb k n && not (in_set k x))
in-missing k n a x e =
    let f : in_set k a ≡ ltb k n = ap (in_set k) e ∙ in-first k n in
    in_and k a (bit_xor a x) ∙ ap (λ (t : Bool). in_set k a && t) (in-xor k a x) ∙ ap (λ (t : Bool). t && alone t (in_set k x)) f ∙ go (ltb k n) (in_set k x)
  where
    go : (a b : Bool) → a && alone a b ≡ a && not b
    go true b = refl
    go false b = refl

-- one place more
pub in-with : (j k x : ℕ) → k < 64 → in_set j (bit_or x (1 * 2 ^ k % 18446744073709551616)) ≡ (in_set j x || eqb j k)
in-with j k x h = ap (λ (y : ℕ). in_set j (bit_or x y)) (one_bit k h) ∙ in-or j x (2 ^ k) ∙ ap (λ (t : Bool). in_set j x || t) (in-single k j)

-- a set that has no place is 0
none_below : (n x : ℕ) → x ≤ n → ((k : ℕ) → in_set k x ≡ false) → x ≡ 0
none_below zero x h f = omega arith
none_below (suc n) x h f =
    let low = eqb-false (x % 2) 1 (sym (in-low x) ∙ f 0) in
    let high : x / 2 ≡ 0 = none_below n (x / 2) (omega arith) (λ k. sym (in-high k x) ∙ f (suc k)) in
    go (x % 2) refl high low
  where
    go : (r : ℕ) → x % 2 ≡ r → x / 2 ≡ 0 → (x % 2 ≡ 1 → ⊥) → x ≡ 0
    go zero e q l = omega arith
    go (suc zero) e q l = absurd (l e)
    go (suc (suc r)) e q l = absurd (omega arith)

pub no_place : (x : ℕ) → ((k : ℕ) → in_set k x ≡ false) → x ≡ 0
no_place x f = none_below x x (omega arith) f
