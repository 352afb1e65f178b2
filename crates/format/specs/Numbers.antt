-- Ints and reals.
use Rattle.std.specs.Prelude.{ℕ, ◌+◌, ◌-◌, ◌*◌, Bool, true, false, ◌&&◌, not, [], ◌∷◌, leb, ltb, eqb, drop, get_or}
use Rattle.std.proofs.Math.Option.{Option, some}
use Rattle.format.specs.Bytes.{Bytes, pick, within, is_digit, is_spelt, is_some}
use Rattle.format.specs.Lists.{only_if, onward, front, behind}

-- a number below zero, or not: −n, n
pub data Int : Type 0 where
  minus : ℕ → Int
  plus : ℕ → Int

-- The ends of int: −least and greatest.
pub record Bounds : Type 0 where
  pub least : ℕ
  pub greatest : ℕ

-- "−9,223,372,036,854,775,808 to 9,223,372,036,854,775,807, in hex and octal too"; this is the one place
abbrev pub int_bounds : Bounds
int_bounds = record { least = 9223372036854775808; greatest = 9223372036854775807 }

-- the value of a digit of either case, 16 of any other byte
abbrev pub digit : ℕ → ℕ
digit c = pick (is_digit c) (c - 48) (pick (within 65 70 c) (c - 55) (pick (within 97 102 c) (c - 87) 16))

abbrev pub is_digit_of : ℕ → ℕ → Bool
is_digit_of base c = ltb (digit c) base

-- the number that digits stand for, behind those that stand for m
abbrev pub numeral : ℕ → ℕ → Bytes → ℕ
numeral base m [] = m
numeral base m (c ∷ s) = numeral base (m * base + digit c) s

-- one or more digits of a base
abbrev pub are_digits : ℕ → Bytes → Bool
are_digits base s = is_spelt (is_digit_of base) (is_digit_of base) s

abbrev pub natural : ℕ → Bytes → Option ℕ
natural base s = only_if (are_digits base s) (numeral base 0 s)

-- "`0x` and at least one hex digit, or 0 and any octal digits or none, or decimal digits not beginning with 0"
abbrev pub unsigned : Bytes → Option ℕ
unsigned s = pick (eqb (get_or s 0 0) 48) (pick (eqb (get_or s 1 0) 120) (natural 16 (drop 2 s)) (natural 8 s)) (natural 10 s)

-- with its sign, if it is within the limit
abbrev pub up_to : ℕ → (ℕ → Int) → Option ℕ → Option Int
up_to limit sign x = onward (λ (n : ℕ). only_if (leb n limit) (sign n)) x

-- "An int: optional `-`, then .."
abbrev pub int_of : Bounds → Bytes → Option Int
int_of b s = pick (eqb (get_or s 0 0) 45) (up_to b.least minus (unsigned (drop 1 s))) (up_to b.greatest plus (unsigned s))

abbrev pub is_at_most : Int → Int → Bool
is_at_most (minus m) (minus n) = leb n m
is_at_most (minus m) (plus n) = true
is_at_most (plus m) (minus n) = eqb m 0 && eqb n 0
is_at_most (plus m) (plus n) = leb m n

-- "ints of at least 0"; −0 is 0
abbrev pub not_below0 : Int → Option ℕ
not_below0 (plus n) = some n
not_below0 (minus n) = only_if (eqb n 0) 0

abbrev pub number_of : Bounds → Bytes → Option ℕ
number_of b s = onward not_below0 (int_of b s)

-- "A real: optional `-`, digits, optionally a dot and digits."; no digits behind the dot where there is none
pub record Decimal : Type 0 where
  pub negative : Bool
  pub whole : Bytes
  pub fraction : Bytes

abbrev pub not_dot : ℕ → Bool
not_dot c = not (eqb c 46)

-- by what stands before a dot, and the dot with what stands behind it
abbrev pub decimal_by : Bool → Bytes → Bytes → Option Decimal
decimal_by sign a [] = only_if (are_digits 10 a) (record { negative = sign; whole = a; fraction = [] })
decimal_by sign a (c ∷ d) = only_if (are_digits 10 a && are_digits 10 d) (record { negative = sign; whole = a; fraction = d })

abbrev pub decimal_in : Bool → Bytes → Option Decimal
decimal_in sign s = decimal_by sign (front not_dot s) (behind not_dot s)

abbrev pub decimal_of : Bytes → Option Decimal
decimal_of s = pick (eqb (get_or s 0 0) 45) (decimal_in true (drop 1 s)) (decimal_in false s)

abbrev pub is_real : Bytes → Bool
is_real s = is_some (decimal_of s)
