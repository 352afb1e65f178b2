-- Questions 21 to 25 and 31 of a request, by what the searches find.
use Prim.Native.Nat.{ℕ, ◌+◌, ◌-◌, ◌≤◌, ◌<◌}
use native.Mathlib.Omega.{arith}
use mathlib.Core.Path.{◌≡◌, refl, sym, ap, ◌∙◌, subst}
use mathlib.Core.Bool.{Bool, true}
use mathlib.Core.List.{List, []}
use mathlib.Core.Option.{none}
use lib.Dec.{ltb}
use lib.ListN.{length, take, drop, get_or}
use lib.Seq.{drop-drop}
use borrow.Author.Tests.{lt-ltb, le-ltb}
use Rattle.format.specs.Bytes.{Bytes, pick, all, is_some}
use Rattle.format.specs.Pieces.{read_of}
use Rattle.format.specs.Records.{Record, fields_of}
use Rattle.format.specs.Sets.{RecSet, values_of, sets_of}
use Rattle.format.specs.Written.{Pair, is_legal_pair}
use Rattle.format.specs.Edits.{Change, Act, Edit}
use Rattle.format.specs.Questions.{occurrences}
use Rattle.format.specs.Requests.{Request}
use Rattle.format.specs.Plain.{plain_of, index_of, Occurrence, of_some, members_at, members_in, record_in as record_at, row_of, occurrence_of, leaves_field, is_legal_edit}
use Rattle.format.proofs.Completing.{completed-on}
use Rattle.format.proofs.Questions.{whole_of}
use Rattle.records.specs.Places.{is_readable}
use Rattle.records.specs.Walk.{record_in}
use Rattle.records.specs.declared.Place.{Place}
use Rattle.records.proofs.Readings.{reads_of, reads-readable}
use Rattle.records.proofs.Members.{record_of, has_record, has_occurrence, SetFrom, RecordFound}
use Rattle.records.proofs.RecordEdits.{own_part}
use Rattle.edits.specs.Places.{place_no}

-- A record that is found at q in the part from a on: its own part of the text is readable, and has its fields.
module _ (s : Bytes) (a : ℕ) (q : Place) (row : ℕ) (r : RecordFound (drop a s) (members_at 0 (sets_of (read_of (drop a s)))) row q) where
  own-part : own_part s a q ≡ take (q.end - q.start) (drop q.start (drop a s))
  own-part =
      let d : (a + q.end) - (a + q.start) ≡ q.end - q.start = omega arith in
      ap (take ((a + q.end) - (a + q.start))) (sym (drop-drop q.start a s)) ∙ ap (λ (k : ℕ). take k (drop q.start (drop a s))) d

  pub own-readable : is_readable (own_part s a q) ≡ true
  own-readable = subst (λ (t : Bytes). is_readable t ≡ true) (sym own-part) (reads-readable r.stand.own-reads)

  own-record : record_in (own_part s a q) ≡ get_or (members_at 0 (sets_of (read_of (drop a s)))) row []
  own-record = ap (λ (t : Bytes). fields_of (read_of t)) own-part ∙ ap fields_of (reads_of r.stand.own-reads) ∙ r.stand.own-fields

-- the first that says no, by the six answers
abbrev no_of : Bool → Bool → Bool → Bool → Bool → Bool → ℕ
no_of set row occurrence left legal complete = pick set (pick row (pick occurrence (pick left (pick legal (pick complete 0 31) 25) 24) 23) 22) 21

-- A request to the text s, in a buffer of any length.
module _ (room : ℕ) (s set : Bytes) where
  abbrev sought : Edit → Request
  sought e = record { set = set; edit = e }

  abbrev sets : List RecSet
  sets = sets_of (read_of s)

  abbrev members : List Record
  members = members_in sets (index_of set sets)

  abbrev is_whole : Edit → Bool
  is_whole e = is_some (whole_of (plain_of (read_of s)) (sought e))

  by-answers : (e : Edit) {v w x y z u : Bool} → is_some (index_of set sets) ≡ v → of_some (λ (j : ℕ). ltb j (length members)) (row_of e) ≡ w → of_some (λ (o : Occurrence). ltb o.number (occurrences o.name (record_at members (row_of e)))) (occurrence_of e) ≡ x → leaves_field e (record_at members (row_of e)) ≡ y → is_legal_edit e ≡ z → is_whole e ≡ u → place_no room s (sought e) ≡ no_of v w x y z u
  unfolding plain_of
  by-answers e a b c d f g = λ i. no_of (a i) (b i) (c i) (d i) (f i) (g i)

  -- an act is asked for as it is
  on-whole : (row : ℕ) (act : Act) → is_whole (Edit.on row act) ≡ true
  on-whole row act = ap is_some (completed-on (plain_of (read_of s)) set row act)

  pub no-set : (e : Edit) → index_of set (sets_of (read_of s)) ≡ none → place_no room s (record { set = set; edit = e }) ≡ 21
  no-set e h = by-answers e (ap is_some h) refl refl refl refl refl

  -- The set is found at a.
  module _ (a : ℕ) (f : SetFrom s set (sets_of (read_of s)) a) where
    there : is_some (index_of set sets) ≡ true
    there = ap is_some f.there

    abbrev behind : List Record
    behind = members_at 0 (sets_of (read_of (drop a s)))

    pub insert-asked : (new : List Pair) (t u : Bool) → all is_legal_pair new ≡ t → is_some (whole_of (plain_of (read_of s)) (record { set = set; edit = Edit.insert new })) ≡ u → place_no room s (record { set = set; edit = Edit.insert new }) ≡ pick t (pick u 0 31) 25
    insert-asked new t u h k = by-answers (Edit.insert new) there refl refl refl h k

    module _ (row : ℕ) where
      pub no_record : (act : Act) → length (members_at 0 (sets_of (read_of (drop a s)))) ≤ row → place_no room s (record { set = set; edit = Edit.on row act }) ≡ 22
      no_record act h = by-answers (Edit.on row act) there (ap (λ (rs : List Record). ltb row (length rs)) f.members ∙ le-ltb row (length behind) h) refl refl refl refl

      -- Its record is found at q.
      module _ (q : Place) (r : RecordFound (drop a s) (members_at 0 (sets_of (read_of (drop a s)))) row q) where
        row-there : has_record set row sets ≡ true
        row-there = ap (λ (rs : List Record). ltb row (length rs)) f.members ∙ lt-ltb row (length behind) r.there

        fields-are : record_in (own_part s a q) ≡ record_of set row sets
        fields-are = own-record s a q row r ∙ ap (λ (rs : List Record). get_or rs row []) (sym f.members)

        pub delete-asked : place_no room s (record { set = set; edit = Edit.on row Act.delete }) ≡ 0
        delete-asked = by-answers (Edit.on row Act.delete) there row-there refl refl refl (on-whole row Act.delete)

        pub add-asked : (new : Pair) (t : Bool) → is_legal_pair new ≡ t → place_no room s (record { set = set; edit = Edit.on row (Act.add new) }) ≡ pick t 0 25
        add-asked new t h = by-answers (Edit.on row (Act.add new)) there row-there refl refl h (on-whole row (Act.add new))

        module _ (n : Bytes) (o : ℕ) (c : Change) where
          occurs : {t : Bool} → ltb o (length (values_of n (record_in (own_part s a q)))) ≡ t → has_occurrence set row n o sets ≡ t
          occurs h = ap (λ (x : Record). ltb o (length (values_of n x))) (sym fields-are) ∙ h

          pub no_field : length (values_of n (record_in (own_part s a q))) ≤ o → place_no room s (record { set = set; edit = Edit.on row (Act.change n o c) }) ≡ 23
          no_field h = by-answers (Edit.on row (Act.change n o c)) there row-there (occurs (le-ltb o (length (values_of n (record_in (own_part s a q)))) h)) refl refl refl

          pub change-asked : o < length (values_of n (record_in (own_part s a q))) → (l t : Bool) → leaves_field (Edit.on row (Act.change n o c)) (record_in (own_part s a q)) ≡ l → is_legal_edit (Edit.on row (Act.change n o c)) ≡ t → place_no room s (record { set = set; edit = Edit.on row (Act.change n o c) }) ≡ pick l (pick t 0 25) 24
          change-asked h l t g k =
              by-answers (Edit.on row (Act.change n o c)) there row-there (occurs (lt-ltb o (length (values_of n (record_in (own_part s a q)))) h)) (ap (leaves_field (Edit.on row (Act.change n o c))) (sym fields-are) ∙ g) k (on-whole row (Act.change n o c))
