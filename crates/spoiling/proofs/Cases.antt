-- Computed: edits of a set with a key, a size and singular names, each number by all questions and by what the edit spoils; the premises of the laws can be met.
use Prim.Native.Nat.{ℕ, ◌≤◌}
use native.Mathlib.Omega.{arith}
use mathlib.Core.Path.{◌≡◌, refl}
use mathlib.Core.Bool.{Bool, true, ◌&&◌}
use mathlib.Core.List.{List, [], ◌∷◌, ◌++◌}
use Prim.Native.String.{String}
use lib.Dec.{eqb}
use lib.ListN.{length}
use Rattle.format.specs.Bytes.{text, all}
use Rattle.format.specs.Lists.{nth}
use Rattle.format.specs.Records.{Field}
use Rattle.format.specs.Sets.{RecSet}
use Rattle.format.specs.Numbers.{int_bounds}
use Rattle.format.specs.Rules.{key}
use Rattle.format.specs.Written.{Pair}
use Rattle.format.specs.Questions.{first_no, limit_rows, rule_rows}
use Rattle.format.specs.Edits.{Change, Act, Edit, in_set}
use Rattle.format.specs.Plain.{set_at}
use Rattle.format.proofs.Judging.{record_no}
use Rattle.spoiling.specs.Effects.{spoiled_no}
use Rattle.spoiling.specs.Inserts.{with_records}
use Rattle.spoiling.proofs.Passing.{AllPass}
use Rattle.spoiling.proofs.Counting.{Applies}

abbrev pair : String → String → Pair
pair n v = record { name = text n; value = text v }

abbrev field : String → String → Field
field n v = record { name = text n; value = text v; count = 0 }

abbrev scan : RecSet
scan = record {
  name = text "Scan";
  rules = field "%rec" "Scan" ∷ field "%key" "Id" ∷ field "%prohibit" "No" ∷ field "%size" "<= 3" ∷ field "%singular" "Stamp" ∷ [];
  members = (field "Id" "1" ∷ field "Stamp" "a" ∷ field "Stamp" "b" ∷ []) ∷ (field "Id" "2" ∷ field "Stamp" "c" ∷ field "Old" "b" ∷ []) ∷ [];
}

abbrev till : RecSet
till = record { name = text "Till"; rules = field "%rec" "Till" ∷ field "%key" "Id" ∷ field "%size" "1" ∷ []; members = (field "Id" "1" ∷ []) ∷ [] }

abbrev sets : List RecSet
sets = record { name = []; rules = []; members = [] } ∷ scan ∷ till ∷ []

-- an edit, the place of its set, and its number
record Case : Type 0 where
  place : ℕ
  edit : Edit
  number : ℕ

abbrev case : Edit → ℕ → Case
case e k = record { place = 1; edit = e; number = k }

abbrev in_till : Edit → ℕ → Case
in_till e k = record { place = 2; edit = e; number = k }

abbrev change : ℕ → String → ℕ → Change → Edit
change j n o c = Edit.on j (Act.change (text n) o c)

abbrev holds : Case → Bool
holds c = eqb (spoiled_no int_bounds c.edit (set_at c.place sets)) c.number && eqb (first_no (limit_rows ++ rule_rows int_bounds) (nth c.place (in_set c.edit) sets)) c.number

numbers : all holds (
    case (Edit.insert (pair "Id" "3" ∷ [])) 0 ∷
    case (Edit.insert (pair "Id" "2" ∷ [])) 13 ∷
    case (Edit.insert (pair "Id" "2" ∷ pair "No" "x" ∷ [])) 8 ∷
    case (Edit.insert (pair "Stamp" "a" ∷ [])) 10 ∷
    case (Edit.insert (pair "Id" "3" ∷ pair "Stamp" "a" ∷ [])) 30 ∷
    case (Edit.insert (pair "Id" "3" ∷ pair "Stamp" "d" ∷ pair "Stamp" "d" ∷ [])) 30 ∷
    case (Edit.on 0 (Act.add (pair "Id" "3"))) 11 ∷
    case (change 0 "Id" 0 (Change.value (text "2"))) 13 ∷
    case (change 0 "Id" 0 (Change.value (text "1"))) 0 ∷
    case (change 0 "Stamp" 0 (Change.value (text "b"))) 30 ∷
    case (change 1 "Old" 0 (Change.name (text "Stamp"))) 30 ∷
    case (change 1 "Id" 0 Change.dropped) 10 ∷
    case (change 0 "Stamp" 1 Change.dropped) 0 ∷
    case (Edit.on 0 Act.delete) 0 ∷
    in_till (Edit.on 0 Act.delete) 14 ∷
    in_till (Edit.insert (pair "Id" "2" ∷ [])) 14 ∷
    in_till (Edit.insert (pair "Id" "1" ∷ [])) 13 ∷
    in_till (change 0 "Id" 0 (Change.value (text "2"))) 0 ∷ []) ≡ true
unfolding spoiled_no record_no
numbers = refl

passes : AllPass int_bounds sets
passes = refl

stands : Applies (change 1 "Old" 0 (Change.name (text "Stamp"))) (set_at 1 sets).members
stands = record { row = refl; field = refl; left = refl }

one-key-after : length (key (set_at 1 sets).rules) ≤ 1
one-key-after = omega arith

-- two records pass, before and between; two others break the size
merges : (AllPass int_bounds (with_records (record { place = 1; pairs = pair "Id" "3" ∷ [] } ∷ record { place = 0; pairs = pair "A" "b" ∷ [] } ∷ []) sets)) × (first_no (limit_rows ++ rule_rows int_bounds) (with_records (record { place = 1; pairs = pair "Id" "3" ∷ [] } ∷ record { place = 1; pairs = pair "Id" "4" ∷ [] } ∷ []) sets) ≡ 14)
merges = (refl, refl)
