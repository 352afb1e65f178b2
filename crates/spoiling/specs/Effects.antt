-- What the questions after an edit of a set have to look at: the records that it touches, the fields that it brings, and those that it keeps.
use Rattle.std.specs.Prelude.{ℕ, suc, ◌-◌, Bool, ◌&&◌, not, List, [], ◌∷◌, map, eqb, length}
use Rattle.std.proofs.Math.Option.{Option, none, some}
use Rattle.format.specs.Bytes.{Bytes, text, pick, all, among}
use Rattle.format.specs.Lists.{is_filled, filter, flat, turn, at, always, nth}
use Rattle.format.specs.Words.{words}
use Rattle.format.specs.Records.{Record}
use Rattle.format.specs.Sets.{values_of, RecSet}
use Rattle.format.specs.Numbers.{Bounds}
use Rattle.format.specs.Rules.{key, singular, size_rule, meets_size, distinct}
use Rattle.format.specs.Questions.{fits_record, values_in}
use Rattle.format.specs.Written.{new_field}
use Rattle.format.specs.Numbering.{or_else}
use Rattle.format.specs.Edits.{Change, Act, Edit, is_named, change_field, in_record}
use Rattle.format.proofs.Least.{leasts}
use Rattle.format.proofs.Judging.{record_no}

-- the k-th element that passes a test, if there are so many
abbrev pub kth_of : {A : Type 0} → (A → Bool) → ℕ → List A → Option A
kth_of t k [] = none
kth_of t k (x ∷ xs) = turn (t x) k (some x) (λ (j : ℕ). kth_of t j xs)

-- Touched records, as the edit leaves them: a new one, or the one that an act names. A deleted record is none.
abbrev pub touched_by : Edit → List Record → List Record
touched_by (Edit.insert new) ms = map new_field new ∷ []
touched_by (Edit.on j a) ms = or_else [] (λ (r : Record). filter is_filled (in_record a r ∷ [])) (kth_of always j ms)

-- Fresh fields: those of a new record, an added one, one that is set or renamed, as it is afterwards. Drop and delete bring none.
abbrev pub fresh_of : Act → Record → Record
fresh_of Act.delete r = []
fresh_of (Act.add p) r = new_field p ∷ []
fresh_of (Act.change n o c) r = or_else [] (change_field c) (kth_of (is_named n) o r)

abbrev pub fresh_by : Edit → List Record → Record
fresh_by (Edit.insert new) ms = map new_field new
fresh_by (Edit.on j a) ms = or_else [] (fresh_of a) (kth_of always j ms)

-- Kept records: without the field that is changed or dropped, or the record that is deleted.
abbrev pub kept_of : Act → Record → Record
kept_of Act.delete r = []
kept_of (Act.add p) r = r
kept_of (Act.change n o c) r = at (is_named n) o (change_field Change.dropped) r

abbrev pub kept_by : Edit → List Record → List Record
kept_by (Edit.insert new) ms = ms
kept_by (Edit.on j a) ms = nth j (kept_of a) ms

-- no value of the first list is among the second
abbrev pub are_apart : List Bytes → List Bytes → Bool
are_apart vs ws = all (λ (v : Bytes). not (among v ws)) vs

-- question 13: no fresh key is among the kept ones
abbrev pub keys_brought : Edit → RecSet → List Bytes
keys_brought e s = flat (map (λ (n : Bytes). values_of n (fresh_by e s.members)) (key s.rules))

abbrev pub keys_kept : Edit → RecSet → List Bytes
keys_kept e s = flat (map (λ (n : Bytes). values_in n (kept_by e s.members)) (key s.rules))

abbrev pub keys_stay_apart : Edit → RecSet → Bool
keys_stay_apart e s = are_apart (keys_brought e s) (keys_kept e s)

-- question 14: by the count alone
abbrev pub count_after : Edit → ℕ → ℕ
count_after (Edit.insert new) n = suc n
count_after (Edit.on j Act.delete) n = n - 1
count_after (Edit.on j (Act.add p)) n = n
count_after (Edit.on j (Act.change m o c)) n = n

abbrev pub size_stays_met : Bounds → Edit → RecSet → Bool
size_stays_met b e s = all (λ (v : Bytes). meets_size (size_rule b (words v)) (count_after e (length s.members))) (values_of (text "%size") s.rules)

-- question 30: of each singular name the fresh values are distinct, and none is among the kept ones
abbrev pub singular_stay_apart : Edit → RecSet → Bool
singular_stay_apart e s =
    all (λ (n : Bytes). distinct (values_of n (fresh_by e s.members)) && are_apart (values_of n (fresh_by e s.members)) (values_in n (kept_by e s.members))) (singular s.rules)

-- questions 8 to 12 of the touched records
abbrev pub touched_no : Bounds → Edit → RecSet → ℕ
touched_no b e s = leasts (map (record_no b s.rules) (touched_by e s.members))

-- What an edit spoils in a set: 4 and 8 to 12 of the touched records, then 13, 14 and 30; 0 if nothing.
unfoldable pub spoiled_no : Bounds → Edit → RecSet → ℕ
spoiled_no b e s =
    let k : ℕ = touched_no b e s in
    pick (all fits_record (touched_by e s.members)) (pick (eqb k 0) (pick (keys_stay_apart e s) (pick (size_stays_met b e s) (pick (singular_stay_apart e s) 0 30) 14) 13) k) 4
