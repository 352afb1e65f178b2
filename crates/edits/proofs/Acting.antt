-- What each act on a record does to a text, by the places that the searches find: questions 21 to 25 and 31 say yes, and the splice makes the text that the request asks for.
use Rattle.std.specs.Prelude.{Option as Maybe, Some, None}
use Prim.Native.Nat.{ℕ, ◌+◌, ◌-◌, ◌≤◌, ◌<◌}
use native.Mathlib.Omega.{arith}
use mathlib.Core.Path.{◌≡◌, refl, sym, ap, ◌∙◌, subst}
use mathlib.Core.Bool.{Bool, true, false}
use mathlib.Core.List.{[], ◌++◌}
use mathlib.Core.Option.{Option}
use lib.Dec.{ltb}
use lib.ListN.{length, take, drop, length-drop}
use lib.Seq.{length-take-le}
use Rattle.format.specs.Pieces.{bytes_of as pieces_text, read_of}
use Rattle.format.specs.Bytes.{Bytes, pick}
use Rattle.format.specs.Limits.{file_bytes}
use Rattle.format.specs.Sets.{values_of, sets_of}
use Rattle.format.specs.Written.{Pair, written, is_legal_pair, is_legal_name, is_legal_value}
use Rattle.format.specs.Edits.{Change, Act, Edit}
use Rattle.format.specs.Requests.{Request}
use Rattle.format.specs.Plain.{plain_of, apply, request_or, members_at, leaves_field, is_legal_edit}
use Rattle.format.proofs.Splices.{spliced as replaced}
use Rattle.format.proofs.Completing.{completed-on}
use Rattle.lines.proofs.Cuts.{rest}
use Rattle.records.specs.Places.{is_readable, places_of, head_place, record_place, field_place}
use Rattle.records.specs.Walk.{record_in}
use Rattle.records.specs.declared.Place.{Place}
use Rattle.records.specs.declared.Head.{Head}
use Rattle.records.proofs.Members.{SetFrom, head-told, RecordFound, record-told}
use Rattle.records.proofs.Fields.{field_told}
use Rattle.records.proofs.Unfielding.{left_of}
use Rattle.records.proofs.RecordEdits.{own_part, name-inside}
use Rattle.records.proofs.Applied.{applied_to, add-applied, delete-applied, value-applied, dropped-applied, name-applied}
use Rattle.requests.specs.Fields.{bytes_of, InSpan}
use Rattle.requests.specs.Pairs.{pair_of}
use Rattle.words.specs.declared.Span.{Span}
use Rattle.requests.specs.Kinds.{change_of, act_of, edit_of, InChange}
use Rattle.requests.specs.declared.kinds.Change.{Change as ReadChange}
use Rattle.requests.specs.declared.kinds.Act.{Act as ReadAct}
use Rattle.requests.specs.declared.kinds.Edit.{Edit as ReadEdit}
use Rattle.requests.proofs.Reading.{span-length}
use Rattle.splices.specs.Space.{spliced}
use Rattle.format.specs.declared.refusals.Refusal.{Refusal}
use Rattle.edits.specs.declared.Located.{Located}
use Rattle.edits.specs.declared.Splice.{Splice}
use Rattle.edits.specs.Places.{place_no, result_to, change_at, Locates, LocatesIn}
use Rattle.edits.proofs.PlaceQuestions.{own-readable, no-set, no_record, delete-asked, add-asked, no_field, change-asked}

-- a text with its bytes from x to y replaced, and with so many bytes replaced from x on
as-spliced : (s : Bytes) (x y old : ℕ) (t : Bytes) → y ≡ x + old → replaced s x y t ≡ spliced s x old t
as-spliced s x y old t e = ap (λ (z : ℕ). take x s ++ (t ++ drop z s)) e

-- what a search in the part from a on answers, once its form is known
pub record-placed : (s : Bytes) (a row : ℕ) (x : Maybe Place) {y : Maybe Place} → x ≡ record_place (places_of (take (length s - a) (drop a s))) row → x ≡ y → record_place (places_of (drop a s)) row ≡ y
record-placed s a row x f g = ap (λ (t : Bytes). record_place (places_of t) row) (sym (rest s a)) ∙ sym f ∙ g

-- a set that is not there
pub set-missing : (s req : Bytes) (q : Request) → is_readable s ≡ true → head_place q.set (places_of s) ≡ None → (added : Bytes) → Locates s req added q (Located.Refused Refusal.Set)
set-missing s req q e f added = λ room. no-set room s q.set q.edit (head-told s q.set None e (sym f) refl)

-- an edit and an act, once their form is known
pub edit-as : (s req added set : Bytes) (r : Located) {x y : ReadEdit} → x ≡ y → Locates s req added (record { set = set; edit = edit_of req y }) r → Locates s req added (record { set = set; edit = edit_of req x }) r
edit-as s req added set r e h = subst (λ (z : ReadEdit). Locates s req added (record { set = set; edit = edit_of req z }) r) (sym e) h

pub act-as : (s req : Bytes) (head : Head) (row : ℕ) (r : Located) {x y : ReadAct} → x ≡ y → LocatesIn s req head (Edit.on row (act_of req y)) r → LocatesIn s req head (Edit.on row (act_of req x)) r
act-as s req head row r e h = subst (λ (z : ReadAct). LocatesIn s req head (Edit.on row (act_of req z)) r) (sym e) h

-- what an act makes is what it makes as it is
on-made : (s set : Bytes) (row : ℕ) (act : Act) → applied_to s (record { set = set; edit = Edit.on row act }) ≡ pieces_text (result_to s (record { set = set; edit = Edit.on row act })).pieces
on-made s set row act = ap (λ (x : Option Request). pieces_text (apply (request_or x) (plain_of (read_of s))).pieces) (sym (completed-on (plain_of (read_of s)) set row act))

-- A readable text s, and the head of a set.
module _ (s : Bytes) (head : Head) (row : ℕ) (whole : is_readable s ≡ true) (within : head.begin ≤ length s) (readable : is_readable (drop head.begin s) ≡ true) where
  set-at : (set : Bytes) → head_place set (places_of s) ≡ Some head → SetFrom s set (sets_of (read_of s)) head.begin
  set-at set f = (head-told s set (Some head) whole (sym f) refl).set

  -- a record that is not there
  no_row : record_place (places_of (drop head.begin s)) row ≡ None → length (members_at 0 (sets_of (read_of (drop head.begin s)))) ≤ row
  no_row g = record-told (drop head.begin s) row None readable (sym g) refl

  pub record-missing : (req : Bytes) (act : Act) → record_place (places_of (drop head.begin s)) row ≡ None → LocatesIn s req head (Edit.on row act) (Located.Refused Refusal.Record)
  record-missing req act g added set f = λ room. no_record room s set head.begin (set-at set f) row act (no_row g)

  -- Its record is found at q.
  module _ (q : Place) (g : record_place (places_of (drop head.begin s)) row ≡ Some q) where
    record-at : RecordFound (drop head.begin s) (members_at 0 (sets_of (read_of (drop head.begin s)))) row q
    record-at = record-told (drop head.begin s) row (Some q) readable (sym g) refl

    pub record-inside : (q.start < q.end) × (head.begin + q.end ≤ length s)
    record-inside = (record-at.stand.filled, omega (arith, record-at.stand.within, record-at.stand.inside, length-drop head.begin s))

    pub record-readable : is_readable (own_part s head.begin q) ≡ true
    record-readable = own-readable s head.begin q row record-at

    pub delete-located : (req : Bytes) → LocatesIn s req head (Edit.on row Act.delete) (Located.At (Splice.Unfield (head.begin + q.start) (head.begin + q.end)))
    delete-located req added set f =
        let r : Request = record { set = set; edit = (Edit.on row Act.delete) } in
        let h = record-inside in
        let x : ℕ = head.begin + q.start in
        let y : ℕ = head.begin + q.end in
        (λ room. delete-asked room s set head.begin (set-at set f) row q record-at, sym (delete-applied s r head whole f row q g refl ∙ as-spliced s x y (y - x) (left_of (own_part s head.begin q)) (omega arith)) ∙ on-made s set row Act.delete, (omega arith, h.1, record-readable))

    pub add-illegal : (req : Bytes) (new : Pair) → is_legal_pair new ≡ false → LocatesIn s req head (Edit.on row (Act.add new)) (Located.Refused Refusal.Illegal)
    add-illegal req new h added set f = λ room. add-asked room s set head.begin (set-at set f) row q record-at new false h

    pub add-located : (req : Bytes) (n v : Span) → length req ≤ file_bytes → InSpan req n → InSpan req v → is_legal_pair (pair_of req n v) ≡ true → LocatesIn s req head (Edit.on row (Act.add (pair_of req n v))) (Located.At (Splice.Field (head.begin + q.end) 0 n v))
    add-located req n v l i j h added set f =
        let new : Pair = pair_of req n v in
        let r : Request = record { set = set; edit = Edit.on row (Act.add new) } in
        let x : ℕ = head.begin + q.end in
        (λ room. add-asked room s set head.begin (set-at set f) row q record-at new true h, sym (add-applied s r head whole f row q g new refl ∙ as-spliced s x x 0 (written new.name new.value) (omega arith)) ∙ on-made s set row (Act.add new), (omega (arith, record-inside.1), l, i, j))

    -- an occurrence that is not there
    pub field-missing : (req n : Bytes) (o : ℕ) (c : Change) → field_place n (own_part s head.begin q) o ≡ None → LocatesIn s req head (Edit.on row (Act.change n o c)) (Located.Refused Refusal.Field)
    field-missing req n o c h added set f = λ room. no_field room s set head.begin (set-at set f) row q record-at n o c (field_told n (own_part s head.begin q) o None record-readable (sym h) refl)

    pub field-inside : (n : Bytes) (o x v z : ℕ) → field_place n (own_part s head.begin q) o ≡ Some (record { start = x; value = v; end = z }) → (x < z) × (head.begin + q.start + z ≤ length s) × (o < length (values_of n (record_in (own_part s head.begin q))))
    field-inside n o x v z h =
        let k = field_told n (own_part s head.begin q) o (Some (record { start = x; value = v; end = z })) record-readable (sym h) refl in
        let i = record-inside in
        let l : length (own_part s head.begin q) ≡ (head.begin + q.end) - (head.begin + q.start) = length-take-le ((head.begin + q.end) - (head.begin + q.start)) (drop (head.begin + q.start) s) (omega (arith, length-drop (head.begin + q.start) s)) in
        (omega (arith, k.begins, k.within), omega (arith, k.inside), k.there)

    -- The field is found from x to z, behind the record's first byte; its name is a part of the request.
    module _ (req : Bytes) (n : Span) (o x v z : ℕ) (in-name : InSpan req n) (found : field_place (bytes_of req n) (own_part s head.begin q) o ≡ Some (record { start = x; value = v; end = z })) where
      abbrev start : ℕ
      start = head.begin + q.start + x

      abbrev end : ℕ
      end = head.begin + q.start + z

      inside : (x < z) × (head.begin + q.start + z ≤ length s) × (o < length (values_of (bytes_of req n) (record_in (own_part s head.begin q))))
      inside = field-inside (bytes_of req n) o x v z found

      asks : (c : Change) (l b : Bool) → leaves_field (Edit.on row (Act.change (bytes_of req n) o c)) (record_in (own_part s head.begin q)) ≡ l → is_legal_edit (Edit.on row (Act.change (bytes_of req n) o c)) ≡ b
          → (set : Bytes) → head_place set (places_of s) ≡ Some head → (room : ℕ) → place_no room s (record { set = set; edit = Edit.on row (Act.change (bytes_of req n) o c) }) ≡ pick l (pick b 0 25) 24
      asks c l b h k set f room = change-asked room s set head.begin (set-at set f) row q record-at (bytes_of req n) o c inside.2 l b h k

      -- what stands from start to end becomes another text
      made : (r : Request) (w : Bytes) → applied_to s r ≡ replaced s start end w → spliced s start (end - start) w ≡ applied_to s r
      made r w h = sym (h ∙ as-spliced s start end (end - start) w (omega (arith, inside.0)))

      abbrev Does : ReadChange → Located → Type 0
      Does c r = LocatesIn s req head (Edit.on row (Act.change (bytes_of req n) o (change_of req c))) r

      value-by : (w : Span) (t : Bool) → is_legal_value (bytes_of req w) ≡ t → length req ≤ file_bytes → InSpan req w → Does (ReadChange.Value w) (pick t (Located.At (Splice.Field start (end - start) n w)) (Located.Refused Refusal.Illegal))
      value-by w false h l j added set f = asks (Change.value (bytes_of req w)) true false refl h set f
      value-by w true h l j added set f =
          let r : Request = record { set = set; edit = Edit.on row (Act.change (bytes_of req n) o (Change.value (bytes_of req w))) } in (
            asks (Change.value (bytes_of req w)) true true refl h set f,
            made r (written (bytes_of req n) (bytes_of req w)) (value-applied s r head whole f row q g (bytes_of req n) o x v z found (bytes_of req w) refl) ∙ on-made s set row (Act.change (bytes_of req n) o (Change.value (bytes_of req w))),
            (omega (arith, inside.0, inside.1), l, in-name, j),
          )

      drop-by : (t : Bool) → ltb 1 (length (record_in (own_part s head.begin q))) ≡ t → Does ReadChange.Dropped (pick t (Located.At (Splice.Cut start (end - start))) (Located.Refused Refusal.Emptied))
      drop-by false h added set f = asks Change.dropped false true h refl set f
      drop-by true h added set f =
          let r : Request = record { set = set; edit = Edit.on row (Act.change (bytes_of req n) o Change.dropped) } in (
            asks Change.dropped true true h refl set f,
            made r [] (dropped-applied s r head whole f row q g (bytes_of req n) o x v z found refl) ∙ on-made s set row (Act.change (bytes_of req n) o Change.dropped),
            omega (arith, inside.0, inside.1),
          )

      name_by : (m : Span) (t : Bool) → is_legal_name (bytes_of req m) ≡ t → InSpan req m → Does (ReadChange.Name m) (pick t (Located.At (Splice.Name start (n.end - n.start) m)) (Located.Refused Refusal.Illegal))
      name_by m false h j added set f = asks (Change.name (bytes_of req m)) true false refl h set f
      name_by m true h j added set f =
          let old : Bytes = bytes_of req n in
          let r : Request = record { set = set; edit = Edit.on row (Act.change old o (Change.name (bytes_of req m))) } in
          let k = name-inside s set head row (set-at set f).index q whole f g (set-at set f).there old o x v z found in
          let b : start + length old ≡ start + (n.end - n.start) = omega (arith, span-length req n in-name) in (
            asks (Change.name (bytes_of req m)) true true refl h set f,
            sym (name-applied s r head whole f row q g old o x v z found (bytes_of req m) refl ∙ ap (λ (y : ℕ). replaced s start y (bytes_of req m)) b) ∙ on-made s set row (Act.change old o (Change.name (bytes_of req m))),
            (omega (arith, k, inside.1, b), j),
          )

      pub change-located : (c : ReadChange) → length req ≤ file_bytes → InChange req c
          → LocatesIn s req head (Edit.on row (Act.change (bytes_of req n) o (change_of req c))) (change_at (own_part s head.begin q) req n (record { start = head.begin + q.start + x; end = head.begin + q.start + z }) c)
      change-located (ReadChange.Value w) l j = value-by w (is_legal_value (bytes_of req w)) refl l j
      change-located ReadChange.Dropped l j = drop-by (ltb 1 (length (record_in (own_part s head.begin q)))) refl
      change-located (ReadChange.Name m) l j = name_by m (is_legal_name (bytes_of req m)) refl j
