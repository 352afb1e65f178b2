-- A value read byte by byte: what has been seen of it, by each byte more, and what it adds to a total at its end.
use Rattle.std.specs.Prelude.{ℕ, ◌+◌, ◌-◌, ◌*◌, ◌^◌, ◌≤◌, ◌<◌, Bool, true, false, [], ◌∷◌, ltb, eqb, ℤ, replicate, Option as Maybe, Some, None}
use Rattle.std.proofs.Math.Option.{Option, none, some}
use Rattle.format.specs.Bytes.{Bytes, pick}
use Rattle.format.specs.Words.{is_gap}
use Rattle.format.specs.Numbers.{digit, is_digit_of, numeral}
use Rattle.totals.specs.Totals.{whole_digits, fraction_digits, signed}
use Rattle.totals.specs.declared.figures.Figure.{Figure}

-- the first digit
unfoldable pub begun : Bool → ℕ → Figure
begun negative c = pick (is_digit_of 10 c) (Figure.Whole negative 1 (digit c)) Figure.Fault

abbrev pub is_digit : ℕ → Bool
is_digit c = is_digit_of 10 c

unfoldable pub stepped : Figure → ℕ → Figure
unfolding begun
stepped Figure.Start c = pick (is_gap c) Figure.Start (pick (eqb c 45) Figure.Sign (begun false c))
stepped Figure.Sign c = begun true c
stepped (Figure.Whole negative k m) c =
    pick (is_digit c) (pick (ltb k whole_digits) (Figure.Whole negative (k + 1) (m * 10 + digit c)) Figure.Fault)
    (pick (eqb c 46) (Figure.Dot negative m) (pick (is_gap c) (Figure.Behind negative 0 m) Figure.Fault))
stepped (Figure.Dot negative m) c = pick (is_digit c) (Figure.Fraction negative 1 (m * 10 + digit c)) Figure.Fault
stepped (Figure.Fraction negative k m) c =
    pick (is_digit c) (pick (ltb k fraction_digits) (Figure.Fraction negative (k + 1) (m * 10 + digit c)) Figure.Fault)
    (pick (is_gap c) (Figure.Behind negative k m) Figure.Fault)
stepped (Figure.Behind negative k m) c = pick (is_gap c) (Figure.Behind negative k m) Figure.Fault
stepped Figure.Fault c = Figure.Fault

-- in millionths: zeros for the digits behind the dot that are not there
abbrev pub filled_from : ℕ → ℕ → ℕ
filled_from k m = numeral 10 m (replicate (fraction_digits - k) 48)

unfoldable pub told_by : Figure → Option ℤ
told_by Figure.Start = none
told_by Figure.Sign = none
told_by (Figure.Whole negative k m) = some (signed negative (filled_from 0 m))
told_by (Figure.Dot negative m) = none
told_by (Figure.Fraction negative k m) = some (signed negative (filled_from k m))
told_by (Figure.Behind negative k m) = some (signed negative (filled_from k m))
told_by Figure.Fault = none

abbrev pub counted : Maybe ℤ → Option ℤ
counted (Some z) = some z
counted None = none

-- bytes one after another
abbrev pub read_on : Figure → Bytes → Option ℤ
read_on f [] = told_by f
read_on f (c ∷ s) = read_on (stepped f c) s

-- no more digits than a value that counts has, and what they stand for
abbrev pub Within : Figure → Type 0
Within Figure.Start = Unit {0}
Within Figure.Sign = Unit {0}
Within (Figure.Whole negative k m) = (k ≤ whole_digits) × (m < 10 ^ k)
Within (Figure.Dot negative m) = m < 10 ^ whole_digits
Within (Figure.Fraction negative k m) = (k ≤ fraction_digits) × (m < 10 ^ (whole_digits + k))
Within (Figure.Behind negative k m) = (k ≤ fraction_digits) × (m < 10 ^ (whole_digits + k))
Within Figure.Fault = Unit {0}
