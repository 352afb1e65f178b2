-- The directory of sets (document 02, order 1): a list of entries, one per set in the listing's order, and what the calls that are given it answer.
use Rattle.std.specs.Prelude.{ℕ, zero, suc, ◌+◌, List, [], ◌∷◌, map, leb, ltb, length, take, get_or}
use Rattle.format.specs.Bytes.{Bytes, pick}
use Rattle.format.specs.Lists.{flat, filter, front, until_last}
use Rattle.format.specs.Pieces.{Piece, bytes_of, read_of}
use Rattle.format.specs.Records.{is_blank_line, is_record}
use Rattle.format.specs.Sets.{Group, groups, is_member}
use Rattle.format.specs.Questions.{verdict}
use Rattle.format.specs.Plain.{Plain, Step, step}
use Rattle.format.specs.Calls.{Answer, answer, value_or, then_no, Filled, leaves, over, step_answer}
use Rattle.format.specs.declared.Entry.{Entry}

-- how many bytes pieces have, and blocks
abbrev pub size_of : List Piece → ℕ
size_of ps = length (bytes_of ps)

abbrev pub group_size : Group → ℕ
group_size g = size_of (flat g)

-- the blank line at the head of a group's first block, which is no line of that block
abbrev pub blank_of : Group → List Piece
blank_of [] = []
blank_of (b ∷ g) = front is_blank_line b

-- "the place of the set's descriptor block (default: 0), its record count, and the byte after its last record's block, else after the descriptor's (default: 0)":
-- of a group that begins at a byte; the default set's, which comes first, begins at 0
abbrev pub entry_from : ℕ → ℕ → Group → Entry
entry_from place at g = record { place = place; count = length (filter is_member g); end = at + group_size (until_last is_record g) }

abbrev pub entries_from : ℕ → List Group → List Entry
entries_from at [] = []
entries_from at (g ∷ gs) = entry_from (at + size_of (blank_of g)) at g ∷ entries_from (at + group_size g) gs

abbrev pub entries_in : List Group → List Entry
entries_in [] = []
entries_in (g ∷ gs) = entry_from 0 0 g ∷ entries_from (group_size g) gs

unfoldable pub directory_of : List Piece → List Entry
directory_of ps = entries_in (groups ps)

-- "Refused: 28, with no byte or entry changed, if the file passes the check but has more sets than the list has entries"
abbrev pub list_no : ℕ → ℕ → ℕ
list_no entries sets = pick (leb sets entries) 0 28

-- "One call fills it from a file and returns the number of sets": its result, and the list after it; later entries stay
pub record Listed : Type 0 where
  pub result : Answer
  pub entries : List Entry

unfoldable pub fill_answer : Bytes → ℕ → List Entry → Listed
fill_answer buffer used old =
    let new : List Entry = directory_of (read_of (take used buffer)) in
    let a : Answer = answer (then_no (verdict buffer used) (list_no (length old) (length new))) (length new) in
    record { result = a; entries = leaves a (over new old) old }

-- "asked before 20, by the plain file too, which is given the list's length with each such edit"
abbrev pub refused_by : ℕ → Plain → Step → Step
refused_by zero p s = s
refused_by (suc k) p s = record { number = suc k; file = p }

unfoldable pub listed_step : ℕ → ℕ → Plain → Bytes → Step
listed_step entries room p request = refused_by (list_no entries (length p.sets)) p (step room p request)

-- an edit given a list of so many entries: its result and the buffer
unfoldable pub listed_answer : ℕ → Bytes → ℕ → Bytes → Filled
listed_answer entries buffer used request = step_answer (λ (room : ℕ) (p : Plain). listed_step entries room p request) buffer used

-- "An edit given the list, on a file that passes, accepted or refused (28 aside), leaves there what filling would put; a failing file changes no entry, and entries past the last set stay."
-- Filling the list from the file as it stands after the edit does just that: it is refused where the file fails and where the list is too short.
pub record Kept : Type 0 where
  pub result : Answer
  pub out : Bytes
  pub entries : List Entry

unfoldable pub kept_answer : Bytes → ℕ → Bytes → List Entry → Kept
kept_answer buffer used request old =
    let f : Filled = listed_answer (length old) buffer used request in
    record { result = f.result; out = f.out; entries = (fill_answer f.out (value_or used f.result) old).entries }

-- "A set's count is then read at its position in the list, without the file; 21 past the list's end."
unfoldable pub count_at_answer : List Entry → ℕ → Answer
count_at_answer entries i = answer (pick (ltb i (length entries)) 0 21) (get_or (map (λ (e : Entry). e.count) entries) i 0)
