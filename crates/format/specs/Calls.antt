-- The answer of each call: its result and every buffer after it.
use Rattle.std.specs.Prelude.{ℕ, zero, suc, ◌+◌, ◌-◌, max, Bool, ◌&&◌, List, [], ◌∷◌, ◌++◌, map, leb, ltb, length, take, drop, get_or, replicate, Result, Ok, Err}
use Rattle.std.proofs.Math.Option.{Option, none, some}
use Rattle.format.specs.Bytes.{Bytes, pick, all}
use Rattle.format.specs.Lists.{only_if, onward, flat, filter, front, behind, before}
use Rattle.format.specs.Pieces.{Piece, bytes_of, read_of}
use Rattle.format.specs.Records.{Block, is_loose, is_record}
use Rattle.format.specs.Sets.{values_of, Group, groups, is_member, RecSet, sets_of}
use Rattle.format.specs.Limits.{file_bytes, contents_bytes, record_fields}
use Rattle.format.specs.Written.{Pair, written_all, is_legal_pair}
use Rattle.format.specs.Edits.{Edit}
use Rattle.format.specs.Questions.{Row, first_no, name_of, verdict}
use Rattle.format.specs.Requests.{Tagged, Request, request_of, tagged_bytes}
use Rattle.format.specs.declared.refusals.Refusal.{Refusal}
use Rattle.format.specs.Refusals.{refusal_no}
use Rattle.format.specs.Plain.{Plain, plain_of, index_of, Sought, sought_members, sought_record, found_rows, Step, step}

-- a number, "marked as no refusal", or a refusal's number
pub data Answer : Type 0 where
  value : ℕ → Answer
  refusal : ℕ → Answer

abbrev pub answer : ℕ → ℕ → Answer
answer zero n = value n
answer (suc k) n = refusal (suc k)

-- what the code answers, in these words
abbrev pub answered : Result ℕ Refusal → Answer
answered (Ok n) = value n
answered (Err r) = refusal (refusal_no r)

-- the same in two numbers: the refusal's, 0 if there is none, and the value, or another in its place
abbrev pub number_in : Answer → ℕ
number_in (value n) = 0
number_in (refusal k) = k

abbrev pub value_or : ℕ → Answer → ℕ
value_or m (value n) = n
value_or m (refusal k) = m

-- the first number that is not 0: later questions are asked where the earlier ones say yes
abbrev pub then_no : ℕ → ℕ → ℕ
then_no zero n = n
then_no (suc k) n = suc k

-- check

unfoldable pub check_answer : Bytes → ℕ → ℕ
check_answer buffer used = verdict buffer used

-- The lookups: the file's own questions come first, then those about what is looked for.

abbrev pub sets_in : Bytes → ℕ → List RecSet
sets_in buffer used = sets_of (read_of (take used buffer))

abbrev pub lookup_no : Bytes → ℕ → Sought → ℕ
lookup_no buffer used q = then_no (verdict buffer used) (first_no found_rows q)

-- "Count answers a refusal, 1 to 14 or 21, or, marked as no refusal, the count."
abbrev pub sought_set : List RecSet → Bytes → Sought
sought_set ss n = record { sets = ss; set = index_of n ss; row = none; field = none }

unfoldable pub count_answer : Bytes → ℕ → Bytes → Answer
count_answer buffer used set = let q : Sought = sought_set (sets_in buffer used) set in answer (lookup_no buffer used q) (length (sought_members q))

-- what a second buffer holds after a call; "Bytes after a fetched or written text stay."
pub record Filled : Type 0 where
  pub result : Answer
  pub out : Bytes

-- what the code answers and what the buffer holds after it, in these words
abbrev pub filled_by : Result ℕ Refusal → Bytes → Filled
filled_by r out = record { result = answered r; out = out }

abbrev pub leaves : {A : Type 0} → Answer → A → A → A
leaves (value n) new old = new
leaves (refusal k) new old = old

abbrev pub over : {A : Type 0} → List A → List A → List A
over new old = new ++ drop (length new) old

-- "27 if it is longer than that buffer"
abbrev pub filled : ℕ → Bytes → Bytes → Filled
filled number text out =
    let a : Answer = answer (then_no number (pick (leb (length text) (length out)) 0 27)) (length text) in
    record { result = a; out = leaves a (over text out) out }

-- "Fetch, given set, record, name and occurrence, puts the value into a second buffer and returns its length, marked likewise, or a refusal"
abbrev pub sought_field : List RecSet → Bytes → ℕ → Bytes → ℕ → Sought
sought_field ss n row m o = record { sets = ss; set = index_of n ss; row = some row; field = some (record { name = m; number = o }) }

unfoldable pub fetch_answer : Bytes → ℕ → Bytes → ℕ → Bytes → ℕ → Bytes → Filled
fetch_answer buffer used set row name occurrence out =
    let q : Sought = sought_field (sets_in buffer used) set row name occurrence in
    filled (lookup_no buffer used q) (get_or (values_of name (sought_record q)) occurrence []) out

-- the name of the set of a number, the default set's 0
abbrev pub sought_order : List RecSet → ℕ → Sought
sought_order ss k = record { sets = ss; set = only_if (ltb k (length ss)) k; row = none; field = none }

unfoldable pub name_answer : Bytes → ℕ → ℕ → Bytes → Filled
name_answer buffer used k out =
    let ss : List RecSet = sets_in buffer used in
    filled (lookup_no buffer used (sought_order ss k)) (get_or (map name_of ss) k []) out

-- "View returns the part of the file from a record's first field line to the newline that ends its last field, included": its place and its bytes
pub record Viewed : Type 0 where
  pub result : Answer
  pub part : Bytes

-- the pieces of a block before its first field, and those from there to its last
abbrev pub lead : Block → Block
lead b = front is_loose b

abbrev pub from_first : Block → Block
from_first b = behind is_loose b

abbrev pub to_last : Block → Block
to_last [] = []
to_last (p ∷ b) = pick (is_record (p ∷ b)) (p ∷ to_last b) []

-- the block of record j of group i, and the pieces in front of it
abbrev pub block_at : List Group → ℕ → ℕ → Block
block_at gs i j = get_or (filter is_member (get_or gs i [])) j []

abbrev pub pieces_before : List Group → ℕ → ℕ → List Piece
pieces_before gs i j = flat (flat (take i gs)) ++ flat (before is_member j (get_or gs i []))

-- "refused .. it returns the empty part. The number, 0 if accepted, goes into a lent single number."
abbrev pub viewed : ℕ → ℕ → Bytes → Viewed
viewed number start part = let a : Answer = answer number start in record { result = a; part = leaves a part [] }

abbrev pub viewed_at : ℕ → List Group → Option ℕ → ℕ → Viewed
viewed_at number gs none row = viewed number 0 []
viewed_at number gs (some i) row =
    let b : Block = block_at gs i row in
    viewed number (length (bytes_of (pieces_before gs i row ++ lead b))) (bytes_of (to_last (from_first b)))

abbrev pub sought_row : List RecSet → Bytes → ℕ → Sought
sought_row ss n row = record { sets = ss; set = index_of n ss; row = some row; field = none }

unfoldable pub view_answer : Bytes → ℕ → Bytes → ℕ → Viewed
view_answer buffer used set row =
    let q : Sought = sought_row (sets_in buffer used) set row in
    viewed_at (lookup_no buffer used q) (groups (read_of (take used buffer))) q.set row

-- "Writing turns an insert into its record's text in a second buffer and returns its length, marked likewise, or a refusal, asked in this order:
-- 20 (also for another kind), 25, 26 (text over 65,536 bytes), 104 (over 256 pairs), 27"
abbrev pub write_rows : List (Row (List Pair))
write_rows =
    record { number = 25; asks = λ (ps : List Pair). all is_legal_pair ps } ∷
    record { number = 26; asks = λ (ps : List Pair). leb (length (written_all ps)) file_bytes } ∷
    record { number = 104; asks = λ (ps : List Pair). leb (length ps) record_fields } ∷ []

abbrev pub insert_of : Edit → Option (List Pair)
insert_of (Edit.insert new) = some new
insert_of (Edit.on j a) = none

abbrev pub written_by : Option (List Pair) → Bytes → Filled
written_by none out = filled 20 [] out
written_by (some new) out = filled (first_no write_rows new) (written_all new) out

unfoldable pub write_answer : Bytes → Bytes → Filled
write_answer request out = written_by (onward (λ (q : Request). insert_of q.edit) (request_of request)) out

-- "An edit's refusal returns its number and the old length. An accepted edit returns the new length; bytes from it to the old length become 0, later ones stay."
abbrev pub placed : Bytes → ℕ → Bytes → Bytes
placed text used buffer = text ++ (replicate (used - length text) 0 ++ drop (max used (length text)) buffer)

abbrev pub edited : ℕ → Bytes → Bytes → ℕ → Filled
edited number text buffer used = let a : Answer = answer number (length text) in record { result = a; out = leaves a (placed text used buffer) buffer }

-- the file's questions, then what a step makes of what the file reads as
abbrev pub step_answer : (ℕ → Plain → Step) → Bytes → ℕ → Filled
step_answer f buffer used =
    let s : Step = f (length buffer) (plain_of (read_of (take used buffer))) in
    edited (then_no (verdict buffer used) s.number) (bytes_of s.file.pieces) buffer used

unfoldable pub edit_answer : Bytes → ℕ → Bytes → Filled
edit_answer buffer used request = step_answer (λ (room : ℕ) (p : Plain). step room p request) buffer used

-- A request under construction: the place behind its last field, and the buffer that it stands in.
pub record Built : Type 0 where
  pub next : ℕ
  pub out : Bytes

-- room for a tag, a length of two bytes and so many bytes of contents at a place of a buffer
abbrev pub has_room : ℕ → ℕ → ℕ → Bool
has_room room at n = leb n contents_bytes && leb (at + (3 + n)) room

-- one field more, at a place; the bytes before and behind it stay. Without room none changes, and the place is one that has no room.
unfoldable pub field_answer : Bytes → ℕ → Tagged → Built
field_answer out at f =
    pick (has_room (length out) at (length f.contents))
    (record { next = at + length (tagged_bytes f); out = take at out ++ over (tagged_bytes f) (drop at out) })
    (record { next = length out + 1; out = out })

-- fields one after another, each at the place that the one before gave
abbrev pub built : List Tagged → Built → Built
built [] b = b
built (f ∷ fs) b = built fs (field_answer b.out b.next f)
