-- Values added one after another, and the total in a text that can be read.
use Rattle.totals.specs.declared.adding.Sum.{Sum as ReadSum}
use Rattle.std.specs.Prelude.{ℕ, ◌<◌, List, ℤ, nat_abs, length, Option as Maybe, Some, None}
use Rattle.std.proofs.Math.Option.{Option, none, some}
use Rattle.format.specs.Bytes.{Bytes}
use Rattle.format.specs.Pieces.{read_of}
use Rattle.format.specs.Sets.{sets_of}
use Rattle.format.specs.Numbering.{every}
use Rattle.format.specs.Questions.{first_no, values_in}
use Rattle.format.specs.Plain.{Sought, sought_members, found_rows}
use Rattle.format.specs.Calls.{sought_set}
use Rattle.totals.specs.Totals.{millionths_of, sum_of, Totalled, totalled}

-- the sum of values that all count, and how many they are
pub record Sum : Type 0 where
  pub millionths : ℤ
  pub number : ℕ

abbrev pub sum_with : List ℤ → Sum
sum_with zs = record { millionths = sum_of zs; number = length zs }

abbrev pub summed : Option (List ℤ) → Option Sum
summed none = none
summed (some zs) = some (sum_with zs)

abbrev pub added : Maybe ReadSum → Option Sum
added (Some s) = some (record { millionths = s.millionths; number = s.number })
added None = none

-- such a sum fits a signed number of 64 bits
abbrev pub SumFits : Maybe ReadSum → Type 0
SumFits (Some s) = nat_abs s.millionths < 9223372036854775808
SumFits None = Unit {0}

-- the call's answer of a text: the file's own questions are not asked
unfoldable pub total_in : Bytes → Bytes → Bytes → Totalled
total_in s set name =
    let q : Sought = sought_set (sets_of (read_of s)) set in
    totalled (first_no found_rows q) (every millionths_of (values_in name (sought_members q)))
