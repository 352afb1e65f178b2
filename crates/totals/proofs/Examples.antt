-- Computed examples: which values count and their millionths, sums in hundredths, and the answers of the call.
use Prim.Native.Nat.{ℕ, suc}
use mathlib.Core.Path.{◌≡◌, refl}
use mathlib.Core.List.{[], ◌∷◌, map}
use mathlib.Core.Option.{none, some}
use lib.IntN.{ℤ, pos, neg_ℤ}
use lib.ListN.{length, replicate}
use Rattle.format.specs.Bytes.{Bytes, text}
use Rattle.format.specs.Pieces.{pieces, read_of}
use Rattle.format.specs.Sets.{sets_of}
use Rattle.format.specs.Questions.{file_of, verdict_in, verdict}
use Rattle.totals.specs.Totals.{millionths_of, hundredths_of, Totalled, total_answer}

abbrev minus : ℕ → ℤ
minus n = neg_ℤ (pos n)

-- at most eight digits before the dot and six behind it; zeros at either end are digits too
digits-before : map millionths_of (text "99999999" ∷ text "100000000" ∷ text "00000001" ∷ text "000000001" ∷ text "12345678.5" ∷ text "123456789.5" ∷ [])
    ≡ some (pos 99999999000000) ∷ none ∷ some (pos 1000000) ∷ none ∷ some (pos 12345678500000) ∷ none ∷ []
unfolding millionths_of
digits-before = refl

digits-behind : map millionths_of (text "1.123456" ∷ text "1.1234567" ∷ text "1.100000" ∷ text "1.1000000" ∷ text "0.000001" ∷ text "0.0000001" ∷ text "2.5" ∷ text "2.05" ∷ [])
    ≡ some (pos 1123456) ∷ none ∷ some (pos 1100000) ∷ none ∷ some (pos 1) ∷ none ∷ some (pos 2500000) ∷ some (pos 2050000) ∷ []
unfolding millionths_of
digits-behind = refl

greatest-and-least : map millionths_of (text "99999999.999999" ∷ text "-99999999.999999" ∷ []) ≡ some (pos 99999999999999) ∷ some (minus 99999999999999) ∷ []
unfolding millionths_of
greatest-and-least = refl

-- the sign belongs to the whole value, also where no digit before the dot shows it; −0 is 0
signs : map millionths_of (text "-0.5" ∷ text "-0.000001" ∷ text "-1.5" ∷ text "-0" ∷ text "-0.000000" ∷ text "0" ∷ [])
    ≡ some (minus 500000) ∷ some (minus 1) ∷ some (minus 1500000) ∷ some (pos 0) ∷ some (pos 0) ∷ some (pos 0) ∷ []
unfolding millionths_of
signs = refl

-- a real has a digit at each side of its dot, one sign at most, no blank inside, and no other base
no-reals : map millionths_of (text ".5" ∷ text "5." ∷ text "-.5" ∷ text "." ∷ text "-" ∷ text "" ∷ text "--1" ∷ text "+1" ∷ text "1 2" ∷ text "- 1" ∷ text "1.2.3" ∷ text "1e3" ∷ text "0x1" ∷ text "1-" ∷ text "1,5" ∷ [])
    ≡ replicate 15 none
unfolding millionths_of
no-reals = refl

-- blanks and newlines around
around : map millionths_of (text " 7" ∷ text "7\t " ∷ text "\n7\n" ∷ text " \t\n-7.25\n\t " ∷ text " " ∷ text "\n" ∷ text "7\n7" ∷ [])
    ≡ some (pos 7000000) ∷ some (pos 7000000) ∷ some (pos 7000000) ∷ some (minus 7250000) ∷ none ∷ none ∷ none ∷ []
unfolding millionths_of
around = refl

-- halves away from zero, and their neighbours by a millionth
halves : map hundredths_of (pos 4999 ∷ pos 5000 ∷ pos 5001 ∷ pos 14999 ∷ pos 15000 ∷ pos 15001 ∷ pos 125000 ∷ pos 135000 ∷ pos 0 ∷ pos 9999 ∷ pos 10000 ∷ [])
    ≡ pos 0 ∷ pos 1 ∷ pos 1 ∷ pos 1 ∷ pos 2 ∷ pos 2 ∷ pos 13 ∷ pos 14 ∷ pos 0 ∷ pos 1 ∷ pos 1 ∷ []
unfolding hundredths_of
halves = refl

halves-below : map hundredths_of (minus 4999 ∷ minus 5000 ∷ minus 5001 ∷ minus 14999 ∷ minus 15000 ∷ minus 15001 ∷ minus 1 ∷ minus 9999 ∷ minus 10000 ∷ [])
    ≡ pos 0 ∷ minus 1 ∷ minus 1 ∷ minus 1 ∷ minus 2 ∷ minus 2 ∷ pos 0 ∷ minus 1 ∷ minus 1 ∷ []
unfolding hundredths_of
halves-below = refl

-- The call: every occurrence in every record of the set, joined digits and plus lines too; the sum is rounded, and not each value.
sheet : Bytes
sheet = text "Total: 1\n\n%rec: Scan\n\n# paid\nTotal: 0.00\\\n4\nNote: x\nTotal: 0.004\n\nTotal:\n+ -1.25\n\nNote: 9\n\nTotal: 1\\\n0\n\n%rec: Odd\n\nTotal: 1\nPaid: 7\n\nTotal: one\n"

abbrev asked : Bytes → Bytes → Totalled
asked set name = total_answer sheet (length sheet) set name

added : asked (text "Scan") (text "Total") ≡ Totalled.value (record { hundredths = pos 876; millionths = pos 8758000; number = 4 })
unfolding total_answer millionths_of hundredths_of pieces read_of sets_of file_of verdict_in verdict sheet
added = refl

default-set : asked [] (text "Total") ≡ Totalled.value (record { hundredths = pos 100; millionths = pos 1000000; number = 1 })
unfolding total_answer millionths_of hundredths_of pieces read_of sets_of file_of verdict_in verdict sheet
default-set = refl

-- 32 if some occurrence doesn't count, but not for another name; 21; and the file's numbers first
other_name : asked (text "Odd") (text "Paid") ≡ Totalled.value (record { hundredths = pos 700; millionths = pos 7000000; number = 1 })
unfolding total_answer millionths_of hundredths_of pieces read_of sets_of file_of verdict_in verdict sheet
other_name = refl

not-counted : asked (text "Odd") (text "Total") ≡ Totalled.refusal 32
unfolding total_answer millionths_of hundredths_of pieces read_of sets_of file_of verdict_in verdict sheet
not-counted = refl

no-set : asked (text "odd") (text "Total") ≡ Totalled.refusal 21
unfolding total_answer millionths_of hundredths_of pieces read_of sets_of file_of verdict_in verdict sheet
no-set = refl

no-file : total_answer sheet (suc (length sheet)) (text "odd") (text "Total") ≡ Totalled.refusal 1
unfolding total_answer millionths_of hundredths_of pieces read_of sets_of file_of verdict_in verdict sheet
no-file = refl

-- no occurrence, or a name that no field can have
no-occurrence : asked (text "Odd") (text "total") ≡ Totalled.value (record { hundredths = pos 0; millionths = pos 0; number = 0 })
unfolding total_answer millionths_of hundredths_of pieces read_of sets_of file_of verdict_in verdict sheet
no-occurrence = refl

no_name : asked (text "Odd") (text "a: 1") ≡ Totalled.value (record { hundredths = pos 0; millionths = pos 0; number = 0 })
unfolding total_answer millionths_of hundredths_of pieces read_of sets_of file_of verdict_in verdict sheet
no_name = refl
