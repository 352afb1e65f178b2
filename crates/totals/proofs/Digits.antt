-- How large the millionths of a value are: below 10^14, and below ten times less where it has less than eight digits before the dot.
use Prim.Native.Nat.{ℕ, zero, suc, ◌+◌, ◌-◌, ◌*◌, ◌^◌, ◌≤◌, ◌<◌}
use native.Mathlib.Nat.{mul-le-mul_right, mul_assoc, pow-succ', pow-le-pow_right}
use native.Mathlib.Omega.{arith}
use mathlib.Core.Path.{◌≡◌, refl, sym, ap, ◌∙◌, subst}
use mathlib.Core.Bool.{Bool, true, false, ◌&&◌, and-eq-true_iff}
use mathlib.Core.List.{[], ◌∷◌, reverse}
use mathlib.Core.Option.{Option, none, some}
use lib.Dec.{leb, eqb}
use lib.IntN.{ℤ, nat_abs}
use lib.ListN.{length, drop, get_or, replicate, length-append, length-drop, length-replicate, length-reverse}
use borrow.Author.Tests.{ltb-true, leb-true, leb-false}
use Rattle.format.specs.Bytes.{Bytes, pick, all}
use Rattle.format.specs.Lists.{only_if, onward, front, behind}
use Rattle.format.specs.Words.{is_gap, trim}
use Rattle.format.specs.Numbers.{digit, is_digit_of, numeral, are_digits, Decimal, not_dot, decimal_by, decimal_in, decimal_of}
use Rattle.format.proofs.Lines.{all_append}
use Rattle.totals.specs.Totals.{whole_digits, fraction_digits, counts, signed, filled_up, millionths_in, millionths_of}

-- digits behind those of m stand for less than m + 1 with as many zeros
numeral-below : (m : ℕ) (s : Bytes) → all (is_digit_of 10) s ≡ true → numeral 10 m s < suc m * 10 ^ length s
numeral-below m [] e = omega arith
numeral-below m (c ∷ s) e =
    let h = (and-eq-true_iff (is_digit_of 10 c) (all (is_digit_of 10) s)).0 e in
    let d : digit c < 10 = ltb-true (digit c) 10 h.0 in
    let next : suc (m * 10 + digit c) ≤ suc m * 10 = omega arith in
    let tens : (suc m * 10) * 10 ^ length s ≡ suc m * 10 ^ suc (length s) = mul_assoc (suc m) 10 (10 ^ length s) ∙ ap (λ (n : ℕ). suc m * n) (sym (pow-succ' 10 (length s))) in
    omega (arith, numeral-below (m * 10 + digit c) s h.1, mul-le-mul_right (10 ^ length s) next, tens)

pub numeral-small : (n : ℕ) (s : Bytes) → length s ≤ n → all (is_digit_of 10) s ≡ true → numeral 10 0 s < 10 ^ n
numeral-small n s h e =
    let p : 10 ^ length s ≤ 10 ^ n = pow-le-pow_right (omega arith) h in
    omega (arith, numeral-below 0 s e, p)

-- lengths of parts of a text
front_length : (p : ℕ → Bool) (s : Bytes) → length (front p s) ≤ length s
front_length p [] = omega arith
front_length p (c ∷ s) = go (p c) (front_length p s)
  where
    go : (b : Bool) → length (front p s) ≤ length s → length (pick b (c ∷ front p s) []) ≤ suc (length s)
    go true h = omega arith
    go false h = omega arith

behind-length : (p : ℕ → Bool) (s : Bytes) → length (behind p s) ≤ length s
behind-length p [] = omega arith
behind-length p (c ∷ s) = go (p c) (behind-length p s)
  where
    go : (b : Bool) → length (behind p s) ≤ length s → length (pick b (behind p s) (c ∷ s)) ≤ suc (length s)
    go true h = omega arith
    go false h = omega arith

trim-length : (s : Bytes) → length (trim s) ≤ length s
trim-length s =
    let t : Bytes = reverse (behind is_gap s) in
    omega (arith, length-reverse (behind is_gap t), behind-length is_gap t, length-reverse (behind is_gap s), behind-length is_gap s)

-- a real of a text: digits only, and no more before the dot than the text has bytes
abbrev pub Reads : Bytes → Option Decimal → Type 0
Reads s none = Unit {0}
Reads s (some d) = (all (is_digit_of 10) d.whole ≡ true) × (all (is_digit_of 10) d.fraction ≡ true) × (length d.whole ≤ length s)

are_all : (s : Bytes) → are_digits 10 s ≡ true → all (is_digit_of 10) s ≡ true
are_all [] e = refl
are_all (c ∷ s) e = e

by-reads : (s : Bytes) (sign : Bool) (a d : Bytes) → length a ≤ length s → Reads s (decimal_by sign a d)
by-reads s sign a [] h = go (are_digits 10 a) refl
  where
    go : (b : Bool) → are_digits 10 a ≡ b → Reads s (only_if b (record { negative = sign; whole = a; fraction = [] }))
    go true e = (are_all a e, refl, h)
    go false e = tt
by-reads s sign a (c ∷ d) h = go (are_digits 10 a && are_digits 10 d) refl
  where
    go : (b : Bool) → (are_digits 10 a && are_digits 10 d) ≡ b → Reads s (only_if b (record { negative = sign; whole = a; fraction = d }))
    go true e = let k = (and-eq-true_iff (are_digits 10 a) (are_digits 10 d)).0 e in (are_all a k.0, are_all d k.1, h)
    go false e = tt

pub decimal-reads : (s : Bytes) → Reads s (decimal_of s)
decimal-reads s = go (eqb (get_or s 0 0) 45)
  where
    in-text : (sign : Bool) (t : Bytes) → length t ≤ length s → Reads s (decimal_in sign t)
    in-text sign t h = by-reads s sign (front not_dot t) (behind not_dot t) (omega (arith, front_length not_dot t))

    go : (b : Bool) → Reads s (pick b (decimal_in true (drop 1 s)) (decimal_in false s))
    go true = in-text true (drop 1 s) (omega (arith, length-drop 1 s))
    go false = in-text false s (omega arith)

-- its millionths

pub abs-signed : (b : Bool) (n : ℕ) → nat_abs (signed b n) ≡ n
abs-signed true zero = refl
abs-signed true (suc n) = refl
abs-signed false n = refl

zeros-digits : (n : ℕ) → all (is_digit_of 10) (replicate n 48) ≡ true
zeros-digits zero = refl
zeros-digits (suc n) = zeros-digits n

fraction-small : (s : Bytes) → length s ≤ fraction_digits → all (is_digit_of 10) s ≡ true → numeral 10 0 (filled_up s) < 1000000
fraction-small s h e =
    let z : Bytes = replicate (fraction_digits - length s) 48 in
    let n : length (filled_up s) ≤ 6 = omega (arith, length-append s z, length-replicate {A = ℕ} (fraction_digits - length s) 48, h) in
    numeral-small 6 (filled_up s) n (all_append (is_digit_of 10) s z ∙ (and-eq-true_iff (all (is_digit_of 10) s) (all (is_digit_of 10) z)).1 (e, zeros-digits (fraction_digits - length s)))

-- what the limits say of a value's millionths, by its length
abbrev pub Small : ℕ → ℤ → Type 0
Small n z = (nat_abs z < 100000000000000) × (nat_abs z * 11 ≤ (n + 3) * 100000000000000)

abbrev pub SmallIf : ℕ → Option ℤ → Type 0
SmallIf n none = Unit {0}
SmallIf n (some z) = Small n z

-- k digits before the dot, in a text of n bytes
by_digits : (k n a b m : ℕ) → k ≤ n → m ≡ a * 1000000 + b → b < 1000000 → (k ≤ 7 → a < 10000000) → (k ≤ 8 → a < 100000000) → k ≤ 8 → (m < 100000000000000) × (m * 11 ≤ (n + 3) * 100000000000000)
by_digits k n a b m l e y seven eight h = (omega (arith, eight h), go (leb k 7) refl)
  where
    go : (t : Bool) → leb k 7 ≡ t → m * 11 ≤ (n + 3) * 100000000000000
    go true q = omega (arith, seven (leb-true k 7 q))
    go false q = omega (arith, eight h, leb-false k 7 q)

whole-small : (s : Bytes) (d : Decimal) → Reads s (some d) → counts d ≡ true → Small (length s) (millionths_in d)
whole-small s d (w, f, l) e =
    let h = (and-eq-true_iff (leb (length d.whole) whole_digits) (leb (length d.fraction) fraction_digits)).0 e in
    let a : ℕ = numeral 10 0 d.whole in
    let b : ℕ = numeral 10 0 (filled_up d.fraction) in
    by_digits (length d.whole) (length s) a b (nat_abs (millionths_in d)) l (abs-signed d.negative (a * 1000000 + b)) (fraction-small d.fraction (leb-true (length d.fraction) fraction_digits h.1) f)
    (λ k. numeral-small 7 d.whole k w) (λ k. numeral-small 8 d.whole k w) (leb-true (length d.whole) whole_digits h.0)

counted-small : (s : Bytes) (x : Option Decimal) → Reads s x → SmallIf (length s) (onward (λ (d : Decimal). only_if (counts d) (millionths_in d)) x)
counted-small s none h = tt
counted-small s (some d) h = go (counts d) refl
  where
    go : (b : Bool) → counts d ≡ b → SmallIf (length s) (only_if b (millionths_in d))
    go true e = whole-small s d h e
    go false e = tt

pub value-small : (v : Bytes) (z : ℤ) → millionths_of v ≡ some z → Small (length v) z
unfolding millionths_of
value-small v z e =
    let k : Small (length (trim v)) z = subst (SmallIf (length (trim v))) e (counted-small (trim v) (decimal_of (trim v)) (decimal-reads (trim v))) in
    (k.0, omega (arith, k.1, trim-length v))
