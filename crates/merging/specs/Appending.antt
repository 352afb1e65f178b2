-- How a merge may be computed: twins by their key, records put in unjudged, and a search by halving. Only laws and code cite this.
use Rattle.std.specs.Prelude.{ℕ, zero, suc, ◌+◌, ◌/◌, Bool, true, false, ◌&&◌, List, [], ◌∷◌, ◌++◌, map, eqb, leb, length}
use Rattle.format.specs.Bytes.{Bytes, pick, all, among}
use Rattle.format.specs.Lists.{is_filled}
use Rattle.format.specs.Records.{Record}
use Rattle.format.specs.Sets.{values_of, RecSet}
use Rattle.format.specs.Limits.{file_bytes}
use Rattle.format.specs.Rules.{key, auto}
use Rattle.format.specs.Numbers.{int_bounds}
use Rattle.format.specs.Questions.{first_no, limit_rows, rule_rows}
use Rattle.format.specs.Written.{Pair, new_field}
use Rattle.format.specs.Numbering.{pair_names, or_else}
use Rattle.format.specs.Edits.{Edit}
use Rattle.format.specs.Plain.{Plain, length_of, apply, completed_by, request_or, Step, step}
use Rattle.format.specs.Calls.{then_no}
use Rattle.format.proofs.Overlong.{is_short}
use Rattle.format.proofs.Questions.{asked}
use Rattle.format.proofs.Results.{place_rows}
use Rattle.format.proofs.Walking.{is_head, head_name}
use Rattle.spoiling.specs.Effects.{kth_of}
use Rattle.merging.specs.Merging.{SpareRecord, pair_of, insert_for, request_for, is_twin, is_skipped, of_named}

-- Twins by their key: a record with one value of the key is compared with the first record that has it there, any other with none.
abbrev pub has_value : Bytes → Bytes → Record → Bool
has_value n v r = among v (values_of n r)

abbrev pub twin_with : Bytes → List Bytes → List Pair → List Record → Bool
twin_with n [] new ms = false
twin_with n (v ∷ []) new ms = or_else false (is_twin new) (kth_of (has_value n v) 0 ms)
twin_with n (v ∷ w ∷ vs) new ms = false

abbrev pub twin_by_key : List Bytes → List Pair → List Record → Bool
twin_by_key [] new ms = false
twin_by_key (n ∷ ns) new ms = twin_with n (values_of n (map new_field new)) new ms

abbrev pub is_skipped_by_key : SpareRecord → List RecSet → Bool
is_skipped_by_key x ss = of_named (λ (s : RecSet). twin_by_key (key s.rules) x.pairs s.members) x.set ss

-- Lasting records: their set has a key, and they omit no name that would get a number, so that an insert makes a twin.
abbrev pub makes_twin : List Pair → RecSet → Bool
makes_twin new s = is_filled (key s.rules) && all (λ (n : Bytes). among n (pair_names new)) (auto s.rules)

abbrev pub is_lasting : SpareRecord → List RecSet → Bool
is_lasting x ss = of_named (makes_twin x.pairs) x.set ss

-- Unjudged: a record completed from those that stand, and put in its place; several, one after another.
abbrev pub with_insert : SpareRecord → Plain → Plain
with_insert x p = apply (request_or (completed_by int_bounds p (insert_for x))) p

abbrev pub with_inserts : List SpareRecord → Plain → Plain
with_inserts [] p = p
with_inserts (x ∷ xs) p = with_inserts xs (with_insert x p)

-- those that a test does not skip, as the ones before leave the sets
abbrev pub inserted_unless : Bool → SpareRecord → Plain → Plain
inserted_unless true x p = p
inserted_unless false x p = with_insert x p

abbrev pub left_unless : Bool → SpareRecord → List SpareRecord → List SpareRecord
left_unless true x xs = xs
left_unless false x xs = x ∷ xs

abbrev pub left_by : (SpareRecord → List RecSet → Bool) → List SpareRecord → Plain → List SpareRecord
left_by skips [] p = []
left_by skips (x ∷ xs) p = let t : Bool = skips x p.sets in left_unless t x (left_by skips xs (inserted_unless t x p))

-- the number of a plain file's sets, 4, 8 to 14 and 30
abbrev pub sets_no : Plain → ℕ
sets_no p = first_no (limit_rows ++ rule_rows int_bounds) p.sets

abbrev pub sets_pass : Plain → Bool
sets_pass p = eqb (sets_no p) 0

-- how many inserts are accepted before one is refused
abbrev pub count_until : ℕ → ℕ → ℕ
count_until zero n = suc n
count_until (suc k) n = 0

unfoldable pub accepted_count : ℕ → List SpareRecord → Plain → ℕ
accepted_count room [] p = 0
accepted_count room (x ∷ xs) p = let s : Step = step room p (request_for x) in count_until s.number (accepted_count room xs s.file)

-- Halving: of two places the middle takes the lower one's part where the test passes, else the upper one's, so many times.
abbrev pub two_to : ℕ → ℕ
two_to zero = 1
two_to (suc n) = two_to n + two_to n

abbrev pub halving : ℕ → (ℕ → Bool) → ℕ → ℕ → ℕ
halving zero test low high = low
halving (suc turns) test low high =
    let middle : ℕ = (low + high) / 2 in
    let passes : Bool = test middle in
    halving turns test (pick passes middle low) (pick passes high middle)

-- The records of a spare as a walk meets them: a descriptor gives those behind it the name of its set.
abbrev pub spare_record : Bytes → Record → SpareRecord
spare_record n r = record { set = n; pairs = map pair_of r }

abbrev pub walked_from : Bytes → List Record → List SpareRecord
walked_from n [] = []
walked_from n (r ∷ rs) = pick (is_head r) (walked_from (head_name r) rs) (spare_record n r ∷ walked_from n rs)

-- Why a record is not appended, asked of the sets as they stand, passing or not: 20, 21 to 25 and 31, 26, and 104 where a name that it gets is longer than a field's may be; else 0.
abbrev pub new_pairs : Edit → List Pair
new_pairs (Edit.insert new) = new
new_pairs (Edit.on j a) = []

abbrev pub has_short_names : SpareRecord → Plain → Bool
has_short_names x p = all is_short (new_pairs (request_or (completed_by int_bounds p (insert_for x))).edit)

abbrev pub is_room_for : ℕ → ℕ → Bool
is_room_for room n = leb n room && leb n file_bytes

abbrev pub place_grant : ℕ → SpareRecord → Plain → ℕ
place_grant room x p = then_no (first_no place_rows (asked room p (insert_for x))) (pick (is_room_for room (length_of (with_insert x p))) (pick (has_short_names x p) 0 104) 26)

abbrev pub grant_no : ℕ → SpareRecord → Plain → ℕ
grant_no room x p = pick (leb (length (request_for x)) file_bytes) (place_grant room x p) 20

-- What is appended before anything is judged: the records that are neither skipped nor refused by these, up to the first that is refused and at most so many; and the number of that refusal.
pub record Front : Type 0 where
  pub taken : List SpareRecord
  pub number : ℕ

abbrev pub front_by : Bool → ℕ → SpareRecord → Front → Front → Front
front_by true k x skipped next = skipped
front_by false zero x skipped next = record { taken = x ∷ next.taken; number = next.number }
front_by false (suc k) x skipped next = record { taken = []; number = suc k }

unfoldable pub front_of : ℕ → ℕ → List SpareRecord → Plain → Front
front_of room most [] p = record { taken = []; number = 0 }
front_of room zero (x ∷ xs) p = record { taken = []; number = 0 }
front_of room (suc most) (x ∷ xs) p = front_by (is_skipped x p.sets) (grant_no room x p) x (front_of room (suc most) xs p) (front_of room most xs (with_insert x p))
