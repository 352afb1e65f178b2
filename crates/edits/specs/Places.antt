-- Where a request acts: the first of questions 21 to 25 and 31 that says no, else a splice that makes the text that the request asks for.
use Rattle.std.specs.Prelude.{ℕ, ◌-◌, ◌<◌, ◌≡◌, ◌⊎◌, Bool, false, ltb, length, Some}
use Rattle.format.specs.Pieces.{bytes_of as pieces_text, read_of}
use Rattle.format.specs.Bytes.{Bytes, pick}
use Rattle.format.specs.Limits.{file_bytes}
use Rattle.format.specs.Questions.{first_no, fits_limits}
use Rattle.format.specs.Written.{is_legal_name, is_legal_value}
use Rattle.format.specs.Edits.{Edit}
use Rattle.format.specs.Requests.{Request}
use Rattle.format.specs.Plain.{Plain, plain_of}
use Rattle.format.proofs.Questions.{asked}
use Rattle.format.proofs.Results.{place_rows}
use Rattle.words.specs.declared.Span.{Span}
use Rattle.records.specs.Places.{places_of, head_place}
use Rattle.records.specs.Walk.{record_in}
use Rattle.records.specs.declared.Head.{Head}
use Rattle.requests.specs.Fields.{bytes_of}
use Rattle.requests.specs.Kinds.{edit_of}
use Rattle.requests.specs.declared.kinds.Change.{Change as ReadChange}
use Rattle.requests.specs.declared.kinds.Request.{Request as Read}
use Rattle.format.specs.Refusals.{refusal_no}
use Rattle.format.specs.declared.refusals.Refusal.{Refusal}
use Rattle.edits.specs.declared.Located.{Located}
use Rattle.edits.specs.declared.Splice.{Splice}
use Rattle.edits.specs.Splices.{made_by, Sound}

-- the first of questions 21 to 25 and 31 that says no of a request to the text s, else 0
abbrev pub place_no : ℕ → Bytes → Request → ℕ
place_no room s q = first_no place_rows (asked room (plain_of (read_of s)) q)

-- what the completed request makes of it
abbrev pub result_to : Bytes → Request → Plain
result_to s q = (asked 0 (plain_of (read_of s)) q).result

-- what a request that was read asks for
abbrev pub asked_by : Bytes → Read → Request
asked_by req q = record { set = bytes_of req q.set; edit = edit_of req q.edit }

-- n is beyond what a file may have, as a length l is; or it is l, and the limits are not held
abbrev pub OverAs : ℕ → ℕ → Bool → Type 0
OverAs n l held = ((file_bytes < n) × (file_bytes < l)) ⊎ ((n ≡ l) × (held ≡ false))

-- What is located can be carried out and makes the text that the request asks for, completed by the added text; what is refused, the questions refuse, whatever the room; what is over a limit is refused by 26 or 104.
abbrev pub Locates : Bytes → Bytes → Bytes → Request → Located → Type 0
Locates s req added q (Located.At x) = ((room : ℕ) → place_no room s q ≡ 0) × (made_by s req added x ≡ pieces_text (result_to s q).pieces) × Sound s req added x
Locates s req added q (Located.Refused r) = (room : ℕ) → place_no room s q ≡ refusal_no r
Locates s req added q (Located.Over n) = ((room : ℕ) → place_no room s q ≡ 0) × OverAs n (length (pieces_text (result_to s q).pieces)) (fits_limits (result_to s q).sets)

-- the same of an edit of the set of a head
abbrev pub LocatesAt : Bytes → Bytes → Bytes → Head → Edit → Located → Type 0
LocatesAt s req added h edit x = (set : Bytes) → head_place set (places_of s) ≡ Some h → Locates s req added (record { set = set; edit = edit }) x

-- and of an act on a record, which nothing is added to
abbrev pub LocatesIn : Bytes → Bytes → Head → Edit → Located → Type 0
LocatesIn s req h edit x = (added : Bytes) → LocatesAt s req added h edit x

-- h is the head of a set
abbrev pub IsHead : Bytes → Head → Type 0
IsHead s h = (set : Bytes) × (head_place set (places_of s) ≡ Some h)

-- what the change of a field does, which has the name n and stands at f; own are the bytes of its record
abbrev pub change_at : Bytes → Bytes → Span → Span → ReadChange → Located
change_at own req n f (ReadChange.Value v) = pick (is_legal_value (bytes_of req v)) (Located.At (Splice.Field f.start (f.end - f.start) n v)) (Located.Refused Refusal.Illegal)
change_at own req n f ReadChange.Dropped = pick (ltb 1 (length (record_in own))) (Located.At (Splice.Cut f.start (f.end - f.start))) (Located.Refused Refusal.Emptied)
change_at own req n f (ReadChange.Name m) = pick (is_legal_name (bytes_of req m)) (Located.At (Splice.Name f.start (n.end - n.start) m)) (Located.Refused Refusal.Illegal)
