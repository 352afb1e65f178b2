-- What the steps of a merge find in a text, and leave there.
use Rattle.records.specs.declared.FieldPlace.{FieldPlace}
use Rattle.std.specs.Prelude.{ℕ, ◌+◌, ◌≤◌, ◌≡◌, Bool, true, false, ◌&&◌, List, leb, length, take, Option, Some, None}
use Rattle.format.specs.Bytes.{Bytes, pick, is_allowed, all}
use Rattle.format.specs.Pieces.{bytes_of, read_of}
use Rattle.format.specs.Sets.{RecSet, sets_of}
use Rattle.format.specs.Limits.{file_bytes, value_bytes}
use Rattle.format.specs.Numbers.{int_bounds}
use Rattle.format.specs.Questions.{fits_record, fits_rules, describes_once, describes_well, types_well}
use Rattle.format.specs.Written.{Pair}
use Rattle.format.specs.Records.{Field}
use Rattle.format.specs.Plain.{plain_of}
use Rattle.format.specs.Calls.{placed}
use Rattle.format.specs.declared.refusals.Question.{Question}
use Rattle.format.specs.declared.refusals.Refusal.{Refusal}
use Rattle.format.specs.Refusals.{refusal_no}
use Rattle.records.specs.Places.{is_readable, places_of, head_place}
use Rattle.records.specs.Sets.{set_behind}
use Rattle.records.specs.declared.Head.{Head}
use Rattle.records.specs.declared.RecordSet.{RecordSet}
use Rattle.splices.specs.Space.{inserted, record_text}
use Rattle.numbering.specs.declared.Added.{Added}
use Rattle.edits.specs.Splices.{made_len}
use Rattle.merging.specs.Merging.{SpareRecord, is_skipped}
use Rattle.merging.specs.Appending.{with_insert, is_room_for, place_grant, grant_no}
use Rattle.merging.specs.declared.inserts.Inserted.{Inserted}

-- there is no next field
abbrev pub is_nothing : Option FieldPlace → Bool
is_nothing None = true
is_nothing (Some f) = false

-- a value of at most 4,096 bytes
abbrev pub fits_value : Field → Bool
fits_value f = leb (length f.value) value_bytes

-- A text that records can be appended to, passing or not: it reads, its descriptors pass questions 4 to 7, and no value is longer than it may be.
abbrev pub rules_fit : RecSet → Bool
rules_fit s = fits_record s.rules && fits_rules s.rules

abbrev pub values_fit : RecSet → Bool
values_fit s = all (all fits_value) s.members

pub record Appendable (s : Bytes) : Type 0 where
  pub readable : is_readable s ≡ true
  pub short : length s ≤ file_bytes
  pub allowed : all is_allowed s ≡ true
  pub once : describes_once (sets_of (read_of s)) ≡ true
  pub well : describes_well int_bounds (sets_of (read_of s)) ≡ true
  pub typed : types_well int_bounds (sets_of (read_of s)) ≡ true
  pub rules : all rules_fit (sets_of (read_of s)) ≡ true
  pub values : all values_fit (sets_of (read_of s)) ≡ true

-- the set at p is that of some head
abbrev pub SetAt : Bytes → RecordSet → Type 0
SetAt s p = (set : Bytes) × ((head : Head) × ((head_place set (places_of s) ≡ Some head) × (p ≡ set_behind s head)))

-- the text of added fields is inside what was lent for it
abbrev pub OwnInside : Bytes → Added → Type 0
OwnInside added Added.Numberless = Unit {0}
OwnInside added (Added.Text own) = own ≤ length added
OwnInside added (Added.Long own) = Unit {0}

-- What is put into a text of `used` bytes at a place, by the fields that a record gets: pairs of a text of len bytes are in the request.
abbrev pub PutIf : Bool → Bytes → ℕ → Bytes → Bytes → Inserted → Type 0
PutIf true before used made after r = (r ≡ Inserted.Grown (length made)) × (after ≡ placed made used before)
PutIf false before used made after r = (r ≡ Inserted.Refused Refusal.Large) × (after ≡ before)

abbrev pub PutBy : Bytes → ℕ → ℕ → ℕ → ℕ → Bytes → Bytes → Bytes → Added → Inserted → Type 0
PutBy before used room at len request added after Added.Numberless r = (r ≡ Inserted.Refused Refusal.Numberless) × (after ≡ before)
PutBy before used room at len request added after (Added.Long own) r = (r ≡ Inserted.Refused (pick (is_room_for room (made_len used (own + len))) (Refusal.Result Question.Limit) Refusal.Large)) × (after ≡ before)
PutBy before used room at len request added after (Added.Text own) r = PutIf (is_room_for room (made_len used (own + len))) before used (inserted (take used before) at (record_text (take own added) request 0)) after r

-- What becomes of the record x in the text of `used` bytes: what speaks against it, or the text with it, in front; where it is not put in nothing changes.
abbrev pub PlacedAs : Bytes → ℕ → ℕ → SpareRecord → Bytes → Inserted → Type 0
PlacedAs before used room x after Inserted.Skipped = ⊥
PlacedAs before used room x after (Inserted.Refused r) = (place_grant room x (plain_of (read_of (take used before))) ≡ refusal_no r) × (after ≡ before)
PlacedAs before used room x after (Inserted.Grown m) =
    (place_grant room x (plain_of (read_of (take used before))) ≡ 0) × (m ≤ length after) × (take m after ≡ bytes_of (with_insert x (plain_of (read_of (take used before)))).pieces)

-- the same of a record that is skipped where it has a twin, and refused with 20 where its request is too long
abbrev pub InsertedAs : Bytes → ℕ → ℕ → SpareRecord → Bytes → Inserted → Type 0
InsertedAs before used room x after Inserted.Skipped = (is_skipped x (plain_of (read_of (take used before))).sets ≡ true) × (after ≡ before)
InsertedAs before used room x after (Inserted.Refused r) = (is_skipped x (plain_of (read_of (take used before))).sets ≡ false) × (grant_no room x (plain_of (read_of (take used before))) ≡ refusal_no r) × (after ≡ before)
InsertedAs before used room x after (Inserted.Grown m) =
    (is_skipped x (plain_of (read_of (take used before))).sets ≡ false) × (grant_no room x (plain_of (read_of (take used before))) ≡ 0) × (m ≤ length after) × (take m after ≡ bytes_of (with_insert x (plain_of (read_of (take used before)))).pieces)

-- what is placed in the set at p, whatever its name
abbrev pub PlacedIn : Bytes → ℕ → ℕ → RecordSet → List Pair → Bytes → Inserted → Type 0
PlacedIn before used room p new after r =
    (set : Bytes) (head : Head) → head_place set (places_of (take used before)) ≡ Some head → p ≡ set_behind (take used before) head → PlacedAs before used room (record { set = set; pairs = new }) after r
