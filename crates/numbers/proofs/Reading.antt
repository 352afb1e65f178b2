-- Numbers, digit by digit from an index on, and up to a limit: what is told of the digits that are left, behind those that stand for m.
use Prim.Native.Nat.{ℕ, ◌+◌, ◌*◌, ◌/◌, ◌≤◌, ◌<◌}
use native.Mathlib.Nat.{le-mul_of_pos_right, div-lt_iff_lt-mul, le-div_iff_mul-le}
use native.Mathlib.Omega.{arith}
use mathlib.Core.Path.{◌≡◌, refl}
use mathlib.Core.Bool.{Bool, true, false, ◌&&◌}
use mathlib.Core.List.{[], ◌∷◌}
use mathlib.Core.Option.{Option, none, some}
use borrow.Author.Tests.{lt-ltb, le-ltb, lt-leb, le-leb, leb-true, eq-eqb, ne_eqb}
use lib.Dec.{leb}
use lib.ListN.{length, drop, get_or, drop_of_length-le}
use Rattle.format.specs.Lists.{only_if}
use Rattle.format.specs.Bytes.{Bytes, within, all}
use Rattle.format.specs.Numbers.{Int, minus, plus, Bounds, int_of, unsigned, digit, is_digit_of, numeral, are_digits, natural, up_to}
use Rattle.lines.proofs.Cuts.{at-cons}
use Rattle.numbers.specs.Meaning.{up_to_limit}

-- a byte within bounds is at least the lower one
pub within_low : (low high c : ℕ) → within low high c ≡ true → low ≤ c
within_low low high c e = leb-true low c (go (leb low c) (leb c high) e)
  where
    go : (a b : Bool) → a && b ≡ true → a ≡ true
    go true b e = refl
    go false b e = e

-- one or more digits
pub digits-some : (base : ℕ) (s : Bytes) → (length s ≡ 0 → ⊥) → are_digits base s ≡ all (is_digit_of base) s
digits-some base [] h = absurd (h refl)
digits-some base (c ∷ s) h = refl

pub digits-none : (base : ℕ) (s : Bytes) → length s ≡ 0 → are_digits base s ≡ false
digits-none base [] h = refl
digits-none base (c ∷ s) h = absurd (omega arith)

-- the number of the digits that are left, behind those that stand for m
abbrev pub natural_on : ℕ → ℕ → ℕ → Bytes → Option ℕ
natural_on limit base m s = up_to_limit limit (only_if (all (is_digit_of base) s) (numeral base m s))

pub natural-start : (limit base : ℕ) (s : Bytes) → 0 < length s → up_to_limit limit (natural base s) ≡ natural_on limit base 0 s
natural-start limit base s h = rw (digits-some base s (λ e. omega arith))

pub natural-empty : (limit base : ℕ) (s : Bytes) (i : ℕ) → length s ≤ i → up_to_limit limit (natural base (drop i s)) ≡ none
natural-empty limit base s i h = rw (drop_of_length-le s)

numeral-le : (base m : ℕ) (s : Bytes) → 0 < base → m ≤ numeral base m s
numeral-le base m [] h = omega arith
numeral-le base m (c ∷ s) h = omega (arith, numeral-le base (m * base + digit c) s h, le-mul_of_pos_right {m = base} m h)

-- a number never gets smaller by more digits
pub natural-over : (limit base m : ℕ) (s : Bytes) → 0 < base → limit < m → natural_on limit base m s ≡ none
natural-over limit base m s p h = go (all (is_digit_of base) s)
  where
    go : (t : Bool) → up_to_limit limit (only_if t (numeral base m s)) ≡ none
    go true = rw (lt-leb (numeral base m s) limit (omega (arith, numeral-le base m s p)))
    go false = refl

module _ (limit base m : ℕ) (s : Bytes) (i : ℕ) where
  pub natural-end : length s ≤ i → m ≤ limit → natural_on limit base m (drop i s) ≡ some m
  natural-end h q = rw (drop_of_length-le s h, le-leb m limit q)

  pub natural-bad : i < length s → base ≤ digit (get_or s i 0) → natural_on limit base m (drop i s) ≡ none
  natural-bad h q = rw (at-cons s i h, le-ltb (digit (get_or s i 0)) base q)

  pub natural-more : i < length s → digit (get_or s i 0) < base → natural_on limit base m (drop i s) ≡ natural_on limit base (m * base + digit (get_or s i 0)) (drop (i + 1) s)
  natural-more h q = rw (at-cons s i h, lt-ltb (digit (get_or s i 0)) base q)

-- what the test before a product says
pub product-fits : (limit base m : ℕ) → 0 < base → m ≤ limit / base → m * base ≤ limit
product-fits limit base m p h = (le-div_iff_mul-le {k = base} {x = m} {y = limit} p).0 h

pub product-passes : (limit base m : ℕ) → 0 < base → limit / base < m → limit < m * base
product-passes limit base m p h = (div-lt_iff_lt-mul {k = base} {x = limit} {y = m} p).0 h

-- a sign is put to a number where it is at most the limit
abbrev pub signed : (ℕ → Int) → Option ℕ → Option Int
signed sign none = none
signed sign (some n) = some (sign n)

up-to-signed : (limit : ℕ) (sign : ℕ → Int) (n : Option ℕ) → up_to limit sign n ≡ signed sign (up_to_limit limit n)
up-to-signed limit sign none = refl
up-to-signed limit sign (some n) = go (leb n limit)
  where
    go : (t : Bool) → only_if t (sign n) ≡ signed sign (only_if t n)
    go true = refl
    go false = refl

pub int-minus : (b : Bounds) (s : Bytes) → get_or s 0 0 ≡ 45 → int_of b s ≡ signed minus (up_to_limit b.least (unsigned (drop 1 s)))
int-minus b s h = rw (eq-eqb _ _ h) (up-to-signed b.least minus (unsigned (drop 1 s)))

pub int-plus : (b : Bounds) (s : Bytes) → (get_or s 0 0 ≡ 45 → ⊥) → int_of b s ≡ signed plus (up_to_limit b.greatest (unsigned s))
int-plus b s h = rw (ne_eqb _ _ h) (up-to-signed b.greatest plus (unsigned s))
