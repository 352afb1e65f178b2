-- The paper's number and values for each answer, and what a lookup in a readable text answers.
use Rattle.std.specs.Prelude.{ℕ, ◌-◌, ◌≤◌, List, [], map, length, take, drop, get_or, Result, Ok, Err}
use Rattle.format.specs.Bytes.{Bytes}
use Rattle.format.specs.Pieces.{read_of}
use Rattle.format.specs.Sets.{values_of, groups, RecSet, sets_of}
use Rattle.format.specs.Questions.{first_no, name_of}
use Rattle.format.specs.Plain.{Sought, sought_members, sought_record, found_rows}
use Rattle.format.specs.Calls.{Answer, answer, sought_set, Filled, filled, sought_field, sought_order, Viewed, viewed_at, sought_row}
use Rattle.format.specs.declared.refusals.Refusal.{Refusal}
use Rattle.format.specs.Refusals.{refusal_no}
use Rattle.words.specs.declared.Span.{Span}

-- a view as a place of the text
abbrev pub seen_answer : Bytes → Result Span Refusal → Viewed
seen_answer s (Ok v) = record { result = Answer.value v.start; part = take (v.end - v.start) (drop v.start s) }
seen_answer s (Err r) = record { result = Answer.refusal (refusal_no r); part = [] }

-- a view lies in the text
abbrev pub SeenInside : Bytes → Result Span Refusal → Type 0
SeenInside b (Ok v) = (v.start ≤ v.end) × (v.end ≤ length b)
SeenInside b (Err r) = Unit {0}

-- the sets of a text
abbrev pub sets_from : Bytes → List RecSet
sets_from s = sets_of (read_of s)

unfoldable pub count_in : Bytes → Bytes → Answer
count_in s n = let q : Sought = sought_set (sets_from s) n in answer (first_no found_rows q) (length (sought_members q))

unfoldable pub fetch_in : Bytes → Bytes → ℕ → Bytes → ℕ → Bytes → Filled
fetch_in s n row m o out = let q : Sought = sought_field (sets_from s) n row m o in filled (first_no found_rows q) (get_or (values_of m (sought_record q)) o []) out

unfoldable pub view_in : Bytes → Bytes → ℕ → Viewed
view_in s n row = let q : Sought = sought_row (sets_from s) n row in viewed_at (first_no found_rows q) (groups (read_of s)) q.set row

unfoldable pub name_in : Bytes → ℕ → Bytes → Filled
name_in s k out = filled (first_no found_rows (sought_order (sets_from s) k)) (get_or (map name_of (sets_from s)) k []) out
