-- The plain file (document 01's term): what a file reads as, what an edit makes of it, and what an edit is asked.
use Rattle.std.specs.Prelude.{ℕ, zero, suc, ◌+◌, Bool, true, ◌&&◌, List, [], ◌∷◌, ◌++◌, map, leb, ltb, length, get_or}
use Rattle.std.proofs.Math.Option
use Rattle.std.proofs.Math.Option.{Option, none, some}
use Rattle.format.specs.Bytes.{Bytes, pick, all, same, is_some}
use Rattle.format.specs.Lists.{onward, sum, nth}
use Rattle.format.specs.Pieces.{Piece, lines_of}
use Rattle.format.specs.Records.{Field, Record, count_of, is_loose}
use Rattle.format.specs.Sets.{RecSet, sets_of}
use Rattle.format.specs.Limits.{file_bytes}
use Rattle.format.specs.Numbers.{Bounds, int_bounds}
use Rattle.format.specs.Written.{Pair, is_legal_name, is_legal_value, is_legal_pair}
use Rattle.format.specs.Numbering.{completed}
use Rattle.format.specs.Edits.{Change, Act, Edit, in_set, newline_if, edit_pieces}
use Rattle.format.specs.Questions.{Row, first_no, ask_of, occurrences, limit_rows, rule_rows}
use Rattle.format.specs.Requests.{Request, request_of}

-- "a list of sets", "R, the number of bytes of all other lines", "the file's pieces, in order"
pub record Plain : Type 0 where
  pub sets : List RecSet
  pub others : ℕ
  pub pieces : List Piece

abbrev pub record_count : Record → ℕ
record_count r = sum (λ (f : Field). f.count) r

-- all other lines: comments, blank lines, and the descriptors' fields
abbrev pub loose_count : Piece → ℕ
loose_count p = pick (is_loose p) (count_of (lines_of p)) 0

abbrev pub rules_count : RecSet → ℕ
rules_count s = record_count s.rules

abbrev pub others_of : List Piece → List RecSet → ℕ
others_of ps ss = sum loose_count ps + sum rules_count ss

-- "It starts as what the file reads as, with the bytes of each field's lines as its count."
unfoldable pub plain_of : List Piece → Plain
plain_of ps = record { sets = sets_of ps; others = others_of ps (sets_of ps); pieces = ps }

-- "Its length is R plus all counts."
unfoldable pub length_of : Plain → ℕ
length_of p = p.others + sum (λ (s : RecSet). sum record_count s.members) p.sets

-- what an accepted edit of set i makes of it

-- "insert adds 1 to R (0 if the file was empty)"
abbrev pub newlines : Edit → List Piece → ℕ
newlines (Edit.insert new) ps = length (newline_if ps)
newlines (Edit.on j a) ps = 0

abbrev pub apply_at : ℕ → Edit → Plain → Plain
apply_at i e p = record { sets = nth i (in_set e) p.sets; others = p.others + newlines e p.pieces; pieces = edit_pieces i e p.pieces }

-- the place of the set of a name
abbrev pub index_of : Bytes → List RecSet → Option ℕ
index_of n [] = none
index_of n (s ∷ ss) = pick (same n s.name) (some zero) (onward (λ (i : ℕ). some (suc i)) (index_of n ss))

abbrev pub apply_in : Option ℕ → Edit → Plain → Plain
apply_in none e p = p
apply_in (some i) e p = apply_at i e p

unfoldable pub apply : Request → Plain → Plain
apply q p = apply_in (index_of q.set p.sets) q.edit p

-- "An insert that omits such a name gets it at the front" (document 02, order 6): what a request to the set of a place is, completed from the plain file's own records; none where an omitted name has no number.

abbrev pub set_at : ℕ → List RecSet → RecSet
set_at i ss = get_or ss i (record { name = []; rules = []; members = [] })

abbrev pub completed_edit : Bounds → RecSet → Edit → Option Edit
completed_edit b s (Edit.insert new) = Option.map (λ (ps : List Pair). Edit.insert ps) (completed b s new)
completed_edit b s (Edit.on j a) = some (Edit.on j a)

abbrev pub completed_at : Bounds → List RecSet → Option ℕ → Request → Option Request
completed_at b ss none q = some q
completed_at b ss (some i) q = Option.map (λ (e : Edit). record { set = q.set; edit = e }) (completed_edit b (set_at i ss) q.edit)

unfoldable pub completed_by : Bounds → Plain → Request → Option Request
completed_by b p q = completed_at b p.sets (index_of q.set p.sets) q

-- What is looked for among sets: one of them, and where they are meant a record of it and an occurrence of a name in that.
pub record Occurrence : Type 0 where
  pub name : Bytes
  pub number : ℕ

pub record Sought : Type 0 where
  pub sets : List RecSet
  pub set : Option ℕ
  pub row : Option ℕ
  pub field : Option Occurrence

-- a test of what is meant, where it is
abbrev pub of_some : {A : Type 0} → (A → Bool) → Option A → Bool
of_some t none = true
of_some t (some a) = t a

-- its records, and the record
abbrev pub members_at : ℕ → List RecSet → List Record
members_at i ss = get_or (map (λ (s : RecSet). s.members) ss) i []

abbrev pub members_in : List RecSet → Option ℕ → List Record
members_in ss none = []
members_in ss (some i) = members_at i ss

abbrev pub record_in : List Record → Option ℕ → Record
record_in ms none = []
record_in ms (some j) = get_or ms j []

abbrev pub sought_members : Sought → List Record
sought_members q = members_in q.sets q.set

abbrev pub sought_record : Sought → Record
sought_record q = record_in (sought_members q) q.row

-- "Set there? 21. Record there (a record number beyond the last is no record)? 22. .. name and occurrence there? 23"
abbrev pub found_rows : List (Row Sought)
found_rows =
    record { number = 21; asks = λ (q : Sought). is_some q.set } ∷
    record { number = 22; asks = λ (q : Sought). of_some (λ (j : ℕ). ltb j (length (sought_members q))) q.row } ∷
    record { number = 23; asks = λ (q : Sought). of_some (λ (o : Occurrence). ltb o.number (occurrences o.name (sought_record q))) q.field } ∷ []

-- What an edit is asked: the buffer's length, the plain file, whether the bytes are a request, the request (an insert of nothing where they are none), whether it is completed, and what it would make of the plain file.
pub record Asked : Type 0 where
  pub room : ℕ
  pub file : Plain
  pub formed : Bool
  pub request : Request
  pub complete : Bool
  pub result : Plain

-- the record and the field that an edit names
abbrev pub row_of : Edit → Option ℕ
row_of (Edit.insert new) = none
row_of (Edit.on j a) = some j

abbrev pub occurrence_of : Edit → Option Occurrence
occurrence_of (Edit.insert new) = none
occurrence_of (Edit.on j Act.delete) = none
occurrence_of (Edit.on j (Act.add p)) = none
occurrence_of (Edit.on j (Act.change n o c)) = some (record { name = n; number = o })

abbrev pub sought_by : Asked → Sought
sought_by a = let q : Request = a.request in record { sets = a.file.sets; set = index_of q.set a.file.sets; row = row_of q.edit; field = occurrence_of q.edit }

-- "Drop: is another field left?"
abbrev pub leaves_field : Edit → Record → Bool
leaves_field (Edit.insert new) r = true
leaves_field (Edit.on j Act.delete) r = true
leaves_field (Edit.on j (Act.add p)) r = true
leaves_field (Edit.on j (Act.change n o (Change.value w))) r = true
leaves_field (Edit.on j (Act.change n o Change.dropped)) r = ltb 1 (length r)
leaves_field (Edit.on j (Act.change n o (Change.name m))) r = true

-- "New names legal ..; values .."
abbrev pub is_legal_edit : Edit → Bool
is_legal_edit (Edit.insert new) = all is_legal_pair new
is_legal_edit (Edit.on j Act.delete) = true
is_legal_edit (Edit.on j (Act.add p)) = is_legal_pair p
is_legal_edit (Edit.on j (Act.change n o (Change.value w))) = is_legal_value w
is_legal_edit (Edit.on j (Act.change n o Change.dropped)) = true
is_legal_edit (Edit.on j (Act.change n o (Change.name m))) = is_legal_name m

-- "numbered 104 and 108 to 114", and "130 for an edit, after 114" (document 02, order 5)
abbrev pub raised : {A : Type 0} → Row A → Row A
raised r = record { number = 100 + r.number; asks = r.asks }

-- "An edit then asks: request of the form above, at most 65,536 bytes? 20. .. Result at most the buffer and 65,536? 26. Then 4 and 8 to 14 of the result", and 30 behind them;
-- "31, asked between 25 and 26, if for some omitted name no int meets that description, and only then" (document 02, order 6)
abbrev pub edit_questions : Bounds → List (Row Asked)
edit_questions b =
    record { number = 20; asks = λ (a : Asked). a.formed } ∷
    (ask_of sought_by found_rows ++
    (record { number = 24; asks = λ (a : Asked). leaves_field a.request.edit (sought_record (sought_by a)) } ∷
    record { number = 25; asks = λ (a : Asked). is_legal_edit a.request.edit } ∷
    record { number = 31; asks = λ (a : Asked). a.complete } ∷
    record { number = 26; asks = λ (a : Asked). leb (length_of a.result) a.room && leb (length_of a.result) file_bytes } ∷
    ask_of (λ (a : Asked). a.result.sets) (map raised (limit_rows ++ rule_rows b))))

-- one edit: its number, 0 if accepted, and the plain file after it; "refused edits change nothing"
pub record Step : Type 0 where
  pub number : ℕ
  pub file : Plain

abbrev pub step_by : ℕ → Plain → Plain → Step
step_by zero before after = record { number = zero; file = after }
step_by (suc n) before after = record { number = suc n; file = before }

abbrev pub request_or : Option Request → Request
request_or none = record { set = []; edit = Edit.insert [] }
request_or (some q) = q

-- `apply` works on the completed request
abbrev pub step_of : Bounds → ℕ → Plain → Option Request → Step
step_of b room p x =
    let q : Request = request_or x in
    let c : Option Request = completed_by b p q in
    let r : Plain = apply (request_or c) p in
    step_by (first_no (edit_questions b) (record { room = room; file = p; formed = is_some x; request = q; complete = is_some c; result = r })) p r

-- a request of any bytes, the buffer's length and the plain file
unfoldable pub step : ℕ → Plain → Bytes → Step
step room p request = step_of int_bounds room p (request_of request)
