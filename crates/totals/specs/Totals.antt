-- Totals of a field (document 02, order 9).
use Rattle.std.specs.Prelude.{ℕ, zero, suc, ◌+◌, ◌-◌, ◌*◌, ◌/◌, Bool, true, false, ◌&&◌, List, [], ◌∷◌, ◌++◌, leb, ℤ, pos, negsuc, neg_ℤ, nat_abs, ◌+ℤ◌, length, replicate, Result, Ok, Err}
use Rattle.std.proofs.Math.Option.{Option, none, some}
use Rattle.format.specs.Bytes.{Bytes}
use Rattle.format.specs.Lists.{only_if, onward}
use Rattle.format.specs.Words.{trim}
use Rattle.format.specs.Numbers.{numeral, Decimal, decimal_of}
use Rattle.format.specs.Numbering.{every}
use Rattle.format.specs.Questions.{values_in}
use Rattle.format.specs.Plain.{Sought, sought_members}
use Rattle.format.specs.Calls.{sets_in, lookup_no, sought_set}
use Rattle.format.specs.declared.refusals.Refusal.{Refusal}
use Rattle.format.specs.Refusals.{refusal_no}
use Rattle.totals.specs.declared.Totalled.{Totalled as Reply}

-- "A value counts if it is a real with at most eight digits before the dot and six after."
abbrev pub whole_digits : ℕ
whole_digits = 8

abbrev pub fraction_digits : ℕ
fraction_digits = 6

abbrev pub counts : Decimal → Bool
counts d = leb (length d.whole) whole_digits && leb (length d.fraction) fraction_digits

-- a whole number with its sign: n below zero, or n; −0 is 0
abbrev pub signed : Bool → ℕ → ℤ
signed true n = neg_ℤ (pos n)
signed false n = pos n

-- "as a whole number of millionths": the digits before the dot times 1,000,000, and those behind it, filled with zeros to six
abbrev pub filled_up : Bytes → Bytes
filled_up s = s ++ replicate (fraction_digits - length s) 48

abbrev pub millionths_in : Decimal → ℤ
millionths_in d = signed d.negative (numeral 10 0 d.whole * 1000000 + numeral 10 0 (filled_up d.fraction))

-- the millionths of a value, none where it doesn't count; "Blanks and newlines around a value are ignored" (document 01)
unfoldable pub millionths_of : Bytes → Option ℤ
millionths_of v = onward (λ (d : Decimal). only_if (counts d) (millionths_in d)) (decimal_of (trim v))

-- "add every occurrence, in all records, exactly"
abbrev pub sum_of : List ℤ → ℤ
sum_of [] = pos 0
sum_of (z ∷ zs) = z +ℤ sum_of zs

-- "in hundredths, halves away from zero": so many millionths, and a sum of them
abbrev pub rounded : ℕ → ℕ
rounded n = (n + 5000) / 10000

abbrev pub is_below0 : ℤ → Bool
is_below0 (pos n) = false
is_below0 (negsuc n) = true

unfoldable pub hundredths_of : ℤ → ℤ
hundredths_of z = signed (is_below0 z) (rounded (nat_abs z))

-- "The answer is in hundredths .., with the exact millionths beside it and the number of values added."
pub record Total : Type 0 where
  pub hundredths : ℤ
  pub millionths : ℤ
  pub number : ℕ

abbrev pub total_of : List ℤ → Total
total_of zs = record { hundredths = hundredths_of (sum_of zs); millionths = sum_of zs; number = length zs }

-- a total, or a refusal's number
pub data Totalled : Type 0 where
  value : Total → Totalled
  refusal : ℕ → Totalled

-- what the code answers, in these words
abbrev pub totalled_by : Result Reply Refusal → Totalled
totalled_by (Ok t) = value (record { hundredths = t.hundredths; millionths = t.millionths; number = t.number })
totalled_by (Err r) = refusal (refusal_no r)

-- the same in single numbers: the refusal's, 0 if there is none; how many values were added, 0 where it is refused; and each sum, or another number in its place
abbrev pub refusal_in : Totalled → ℕ
refusal_in (value t) = 0
refusal_in (refusal k) = k

abbrev pub added_in : Totalled → ℕ
added_in (value t) = t.number
added_in (refusal k) = 0

abbrev pub hundredths_or : ℤ → Totalled → ℤ
hundredths_or z (value t) = t.hundredths
hundredths_or z (refusal k) = z

abbrev pub millionths_or : ℤ → Totalled → ℤ
millionths_or z (value t) = t.millionths
millionths_or z (refusal k) = z

-- "32 if some occurrence doesn't count, after the file's numbers and 21"
abbrev pub totalled : ℕ → Option (List ℤ) → Totalled
totalled (suc k) x = refusal (suc k)
totalled zero none = refusal 32
totalled zero (some zs) = value (total_of zs)

unfoldable pub total_answer : Bytes → ℕ → Bytes → Bytes → Totalled
total_answer buffer used set name =
    let q : Sought = sought_set (sets_in buffer used) set in
    totalled (lookup_no buffer used q) (every millionths_of (values_in name (sought_members q)))
