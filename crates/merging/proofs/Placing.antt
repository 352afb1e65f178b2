-- Where a spare's record goes in a text that records can be appended to, what it makes there, and what speaks against it: by the head of its set, its pairs, and the fields that it gets.
use Rattle.records.specs.declared.ValuePlace.{ValuePlace}
use Rattle.std.specs.Prelude.{Option as Maybe, Some, None}
use Prim.Native.Nat.{ℕ, ◌+◌, ◌-◌, ◌≤◌, ◌<◌, max}
use native.Mathlib.Omega.{arith}
use mathlib.Core.Path.{◌≡◌, refl, sym, ap, ◌∙◌, subst}
use mathlib.Core.Bool.{Bool, true, false, ◌&&◌, not, and-eq-true_iff, and-true}
use mathlib.Core.List.{List, [], ◌∷◌, ◌++◌, map, append_assoc}
use mathlib.Core.Option
use mathlib.Core.Option.{Option, none, some}
use lib.ListN.{length, take, drop, replicate, length-append, length-take, length-drop}
use lib.Seq.{length-take-le}
use borrow.Author.Tests.{le-leb, lt-leb}
use Rattle.format.specs.declared.refusals.Question.{Question}
use Rattle.format.specs.declared.refusals.Refusal.{Refusal}
use Rattle.format.specs.Refusals.{refusal_no}
use Rattle.format.specs.Bytes.{Bytes, text, pick, all, any, is_some}
use Rattle.format.specs.Pieces.{bytes_of as pieces_text, read_of}
use Rattle.format.specs.Records.{Record}
use Rattle.format.specs.Sets.{values_of, RecSet, sets_of}
use Rattle.format.specs.Lists.{flat, is_filled}
use Rattle.format.specs.Lines.{is_name, is_special}
use Rattle.format.specs.Limits.{file_bytes, value_bytes}
use Rattle.format.specs.Numbers.{int_bounds}
use Rattle.format.specs.Rules.{key, is_well_formed, are_types_defined, autos_counted, is_typed_well, distinct}
use Rattle.format.specs.Questions.{first_no, name_of, fits_record, fits_rules}
use Rattle.format.specs.Written.{Pair, written, written_all, is_legal_name, is_legal_value, is_legal_pair}
use Rattle.format.specs.Numbering.{added as added_by, completed, or_else}
use Rattle.format.specs.Edits.{Edit}
use Rattle.format.specs.Requests.{Request}
use Rattle.format.specs.Plain.{Plain, plain_of, length_of, set_at, apply, request_or}
use Rattle.format.specs.Calls.{then_no}
use Rattle.format.proofs.Lines.{all_append}
use Rattle.format.proofs.Elements.{Filled, each_all, each-imp, all-each}
use Rattle.format.proofs.Applying.{agrees-length}
use Rattle.format.proofs.Completing.{completed-insert}
use Rattle.format.proofs.Overlong.{is_short}
use Rattle.format.proofs.Questions.{asked, whole_of}
use Rattle.format.proofs.Passing.{placed-take}
use Rattle.format.proofs.Records.{records}
use Rattle.format.proofs.Results.{place_rows}
use Rattle.format.proofs.Walking.{ruled}
use Rattle.words.specs.Spans.{span}
use Rattle.records.specs.Places.{places_of, head_place}
use Rattle.records.specs.Sets.{set_behind}
use Rattle.records.specs.Walk.{record_in}
use Rattle.records.specs.Named.{ValueNext, NamedNext}
use Rattle.records.specs.declared.Head.{Head}
use Rattle.records.specs.declared.RecordSet.{RecordSet}
use Rattle.records.proofs.Members.{HeadFound, head-told}
use Rattle.records.proofs.SetOf.{SetOf, head-set, each_set}
use Rattle.records.proofs.SetInserts.{InsertTold}
use Rattle.records.proofs.Applied.{applied_to, insert-applied}
use Rattle.records.proofs.Cuts.{fields-records}
use Rattle.dictionary.specs.Known.{Described}
use Rattle.dictionary.proofs.Typing.{all-shaped}
use Rattle.dictionary.proofs.Counting.{key-length}
use Rattle.numbering.specs.Types.{fits_in}
use Rattle.splices.specs.Space.{inserted, record_text}
use Rattle.requests.specs.Pairs.{pairs_at}
use Rattle.numbering.specs.Adding.{AddedAs}
use Rattle.numbering.specs.declared.Added.{Added}
use Rattle.splices.proofs.Inserted.{told-inserted}
use Rattle.edits.specs.Splices.{made_len}
use Rattle.edits.proofs.PlaceQuestions.{insert-asked}
use Rattle.edits.proofs.Sizes.{inserted-length}
use Rattle.merging.specs.Merging.{SpareRecord, pair_of, insert_for, request_for, is_twin, has_twin, is_skipped}
use Rattle.merging.specs.Appending.{with_insert, new_pairs, has_short_names, is_room_for, place_grant, grant_no}
use Rattle.merging.specs.Texts.{fits_value, rules_fit, values_fit, Appendable, OwnInside, PutIf, PutBy, PlacedAs, InsertedAs}
use Rattle.merging.specs.declared.inserts.Inserted.{Inserted}
use Rattle.merging.proofs.Texts.{insert-agrees}

-- the text of two lists of pairs
written-joined : (ps qs : List Pair) → written_all (ps ++ qs) ≡ written_all ps ++ written_all qs
written-joined [] qs = refl
written-joined (p ∷ ps) qs = ap (λ (t : Bytes). written p.name p.value ++ t) (written-joined ps qs) ∙ sym (append_assoc (written p.name p.value) (written_all ps) (written_all qs))

-- legal names are short
legal-short : (ps : List Pair) → all is_legal_pair ps ≡ true → all is_short ps ≡ true
legal-short ps h = each_all is_short ps (each-imp (λ (p : Pair). is_legal_pair p ≡ true) (λ (p : Pair). is_short p ≡ true) (λ p e. go p ((and-eq-true_iff (is_legal_name p.name) (is_legal_value p.value)).0 e).0) ps (all-each is_legal_pair ps h))
  where
    go : (p : Pair) → is_legal_name p.name ≡ true → is_short p ≡ true
    go p e = ((and-eq-true_iff (is_name p.name) (is_short p)).0 ((and-eq-true_iff (is_name p.name && is_short p) (not (is_special p.name))).0 e).0).1

part-short : (s : Bytes) (a e : ℕ) → length (span a e s) ≤ length s
part-short s a e = omega (arith, length-take (e - a) (drop a s), length-drop a s)

-- every value of records is a value of their fields
fields_fit : (t : Bytes) → all (all fits_value) (records (read_of t)) ≡ true → all fits_value (record_in t) ≡ true
fields_fit t h = ap (all fits_value) (fields-records (read_of t)) ∙ all-flat (records (read_of t)) ∙ h
  where
    all-flat : (rs : List Record) → all fits_value (flat rs) ≡ all (all fits_value) rs
    all-flat [] = refl
    all-flat (r ∷ rs) = all_append fits_value r (flat rs) ∙ ap (λ (b : Bool). all fits_value r && b) (all-flat rs)

module _ (s : Bytes) (h : Appendable s) (head : Head) (set : Bytes) (found : head_place set (places_of s) ≡ Some head) (p : RecordSet) (is : p ≡ set_behind s head) where
  head-found : HeadFound s set (sets_of (read_of s)) head
  head-found = head-told s set (Some head) h.readable (sym found) refl

  pub set-stands : SetOf s set p
  set-stands = subst (SetOf s set) (sym is) (head-set s set head head-found)

  -- its rules, and its records
  abbrev own : RecSet
  own = set_at set-stands.index (sets_of (read_of s))

  pub set-described : Described (span p.start p.end s)
  set-described =
      let fit = (and-eq-true_iff (fits_record own.rules) (fits_rules own.rules)).0 (each_set s set p set-stands rules_fit h.rules) in
      let well : RecSet → Bool = λ (x : RecSet). is_well_formed int_bounds x.rules in
      let formed = each_set s set p set-stands well ((and-eq-true_iff (all well (sets_of (read_of s))) (distinct (map name_of (sets_of (read_of s))))).0 h.well).0 in
      let typed = (and-eq-true_iff (are_types_defined int_bounds own.rules) (autos_counted int_bounds own.rules)).0 (each_set s set p set-stands (λ (x : RecSet). is_typed_well int_bounds x.rules) h.typed) in
      let of : (t : Record → Bool) → t own.rules ≡ true → t (record_in (span p.start p.end s)) ≡ true = λ t e. ap t set-stands.rules ∙ e in
      record { reads = set-stands.rules-readable; short = omega (arith, part-short s p.start p.end, h.short); fits = of fits_record fit.0; few = of fits_rules fit.1; well = of (is_well_formed int_bounds) formed; typed = of (are_types_defined int_bounds) typed.0 }

  pub members-short : length (span p.begin p.after s) ≤ file_bytes
  members-short = omega (arith, part-short s p.begin p.after, h.short)

  pub members-fit : all (fits_in value_bytes) (record_in (span p.begin p.after s)) ≡ true
  members-fit = fields_fit (span p.begin p.after s) (ap (all (all fits_value)) set-stands.members ∙ each_set s set p set-stands values_fit h.values)

  -- a record of that set
  module _ (new : List Pair) (filled : Filled new) where
    abbrev x : SpareRecord
    x = record { set = set; pairs = new }

    abbrev main : Plain
    main = plain_of (read_of s)

    asked-no : (t u : Bool) → all is_legal_pair new ≡ t → is_some (whole_of (plain_of (read_of s)) (insert_for x)) ≡ u → (room : ℕ) → first_no place_rows (asked room (plain_of (read_of s)) (insert_for x)) ≡ pick t (pick u 0 31) 25
    asked-no t u e f room = insert-asked room s set head.begin head-found.set new t u e f

    pub grant-illegal : (room : ℕ) → all is_legal_pair new ≡ false → place_grant room (record { set = set; pairs = new }) (plain_of (read_of s)) ≡ 25
    grant-illegal room e = ap (λ (k : ℕ). then_no k (pick (is_room_for room (length_of (with_insert x main))) (pick (has_short_names x main) 0 104) 26)) (asked-no false (is_some (whole_of main (insert_for x))) e refl room)

    -- the fields that it gets
    abbrev gets : Option (List Pair)
    gets = added_by int_bounds (ruled (record_in (span p.start p.end s)) (records (read_of (span p.begin p.after s)))) new

    whole_by : (o : Option (List Pair)) → added_by int_bounds (ruled (record_in (span p.start p.end s)) (records (read_of (span p.begin p.after s)))) new ≡ o
        → whole_of (plain_of (read_of s)) (insert_for x) ≡ Option.map (λ (e : Edit). record { set = set; edit = e }) (Option.map (λ (ps : List Pair). Edit.insert ps) (Option.map (λ (ps : List Pair). ps ++ new) o))
    unfolding plain_of completed
    whole_by o e =
        completed-insert main (insert_for x) new set-stands.index set-stands.there refl
        ∙ ap (λ (y : Option (List Pair)). Option.map (λ (g : Edit). record { set = set; edit = g }) (Option.map (λ (ps : List Pair). Edit.insert ps) (Option.map (λ (ps : List Pair). ps ++ new) y)))
        ((λ j. added_by int_bounds (ruled (sym set-stands.rules j) (sym set-stands.members j)) new) ∙ e)

    pub grant-numberless : (room : ℕ) → all is_legal_pair new ≡ true → added_by int_bounds (ruled (record_in (span p.start p.end s)) (records (read_of (span p.begin p.after s)))) new ≡ none
        → place_grant room (record { set = set; pairs = new }) (plain_of (read_of s)) ≡ 31
    grant-numberless room l e = ap (λ (k : ℕ). then_no k (pick (is_room_for room (length_of (with_insert x main))) (pick (has_short_names x main) 0 104) 26)) (asked-no true false l (ap is_some (whole_by none e)) room)

    module _ (legal : all is_legal_pair new ≡ true) (ps : List Pair) (e : added_by int_bounds (ruled (record_in (span p.start p.end s)) (records (read_of (span p.begin p.after s)))) new ≡ some ps) where
      abbrev w : Request
      w = record { set = set; edit = Edit.insert (ps ++ new) }

      whole_is : whole_of (plain_of (read_of s)) (insert_for x) ≡ some w
      whole_is = whole_by (some ps) e

      pub place-yes : (room : ℕ) → first_no place_rows (asked room (plain_of (read_of s)) (insert_for (record { set = set; pairs = new }))) ≡ 0
      place-yes room = asked-no true true legal (ap is_some whole_is) room

      -- the text that it makes
      pub insert-text : pieces_text (with_insert (record { set = set; pairs = new }) (plain_of (read_of s))).pieces ≡ inserted s p.after (written_all ps ++ written_all new)
      insert-text =
          ap (λ (o : Option Request). pieces_text (apply (request_or o) main).pieces) whole_is
          ∙ told-inserted s p.after (ps ++ new) (applied_to s w) (subst (λ (q : RecordSet). InsertTold s q.after (ps ++ new) (applied_to s w)) (sym is) (insert-applied s w head h.readable found (ps ++ new) refl))
          ∙ ap (inserted s p.after) (written-joined ps new)

      pub insert-size : length_of (with_insert (record { set = set; pairs = new }) (plain_of (read_of s))) ≡ made_len (length s) (length (written_all ps) + length (written_all new))
      insert-size =
          agrees-length (with_insert x main) (insert-agrees s h x filled 0 (place-yes 0))
          ∙ ap length insert-text
          ∙ inserted-length s p.after (written_all ps ++ written_all new) set-stands.inside
          ∙ ap (made_len (length s)) (length-append (written_all ps) (written_all new))

      short-names : has_short_names x main ≡ all is_short ps
      short-names =
          ap (λ (o : Option Request). all is_short (new_pairs (request_or o).edit)) whole_is
          ∙ all_append is_short ps new
          ∙ ap (λ (b : Bool). all is_short ps && b) (legal-short new legal)
          ∙ and-true (all is_short ps)

      -- what speaks against it then
      pub grant-made : (room : ℕ) → place_grant room (record { set = set; pairs = new }) (plain_of (read_of s)) ≡ pick (is_room_for room (made_len (length s) (length (written_all ps) + length (written_all new)))) (pick (all is_short ps) 0 104) 26
      grant-made room =
          ap (λ (k : ℕ). then_no k (pick (is_room_for room (length_of (with_insert x main))) (pick (has_short_names x main) 0 104) 26)) (place-yes room)
          ∙ (λ i. pick (is_room_for room (insert-size i)) (pick (short-names i) 0 104) 26)

-- What was put is what becomes of the record.
module _ (before : Bytes) (used room : ℕ) (fits : used ≤ length before) (h : Appendable (take used before)) (head : Head) (set : Bytes) (found : head_place set (places_of (take used before)) ≡ Some head) (p : RecordSet) (is : p ≡ set_behind (take used before) head) (request added after : Bytes) (filled : Filled (pairs_at request 0)) (legal : all is_legal_pair (pairs_at request 0) ≡ true) (len : ℕ) (len_is : len ≡ length (written_all (pairs_at request 0))) where
  abbrev s : Bytes
  s = take used before

  abbrev new : List Pair
  new = pairs_at request 0

  abbrev gotten : Option (List Pair)
  gotten = added_by int_bounds (ruled (record_in (span p.start p.end (take used before))) (records (read_of (span p.begin p.after (take used before))))) (pairs_at request 0)

  sized : length (take used before) ≡ used
  sized = length-take-le used before fits

  module _ (ps : List Pair) (e : added_by int_bounds (ruled (record_in (span p.start p.end (take used before))) (records (read_of (span p.begin p.after (take used before))))) (pairs_at request 0) ≡ some ps) (own : ℕ) (own_is : own ≡ length (written_all ps)) where
    grants : place_grant room (record { set = set; pairs = new }) (plain_of (read_of s)) ≡ pick (is_room_for room (made_len used (own + len))) (pick (all is_short ps) 0 104) 26
    grants = grant-made s h head set found p is new filled legal ps e room ∙ (λ i. pick (is_room_for room (made_len (sized i) (sym own_is i + sym len_is i))) (pick (all is_short ps) 0 104) 26)

    over-number : (t : Bool) → pick t 104 26 ≡ refusal_no (pick t (Refusal.Result Question.Limit) Refusal.Large)
    over-number true = refl
    over-number false = refl

    told-long : all is_short ps ≡ false → (r : Inserted) → r ≡ Inserted.Refused (pick (is_room_for room (made_len used (own + len))) (Refusal.Result Question.Limit) Refusal.Large) → after ≡ before → PlacedAs before used room (record { set = set; pairs = new }) after r
    told-long z r q o =
        let b : Bool = is_room_for room (made_len used (own + len)) in
        subst (PlacedAs before used room (record { set = set; pairs = new }) after) (sym q) (grants ∙ ap (λ (t : Bool). pick b (pick t 0 104) 26) z ∙ over-number b, o)

    told_text : all is_short ps ≡ true → take own added ≡ written_all ps → (b : Bool) → is_room_for room (made_len used (own + len)) ≡ b → (r : Inserted) → PutIf b before used (inserted (take used before) p.after (record_text (take own added) request 0)) after r → PlacedAs before used room (record { set = set; pairs = new }) after r
    told_text z t true w r q =
        let made : Bytes = inserted s p.after (record_text (take own added) request 0) in
        let is_made : made ≡ pieces_text (with_insert (record { set = set; pairs = new }) (plain_of (read_of s))).pieces =
        ap (λ (f : Bytes). inserted s p.after (f ++ written_all new)) t ∙ sym (insert-text s h head set found p is new filled legal ps e) in
        subst (PlacedAs before used room (record { set = set; pairs = new }) after) (sym q.0) (
          grants ∙ (λ i. pick (w i) (pick (z i) 0 104) 26),
          omega (arith, ap length q.1, length-append made (replicate (used - length made) 0 ++ drop (max used (length made)) before)),
          ap (take (length made)) q.1 ∙ placed-take made used before ∙ is_made,
        )
    told_text z t false w r q = subst (PlacedAs before used room (record { set = set; pairs = new }) after) (sym q.0) (grants ∙ ap (λ (b : Bool). pick b (pick (all is_short ps) 0 104) 26) w, q.1)

  pub placed-told : (x : Added) → AddedAs (added_by int_bounds (ruled (record_in (span p.start p.end (take used before))) (records (read_of (span p.begin p.after (take used before))))) (pairs_at request 0)) added x
      → (r : Inserted) → PutBy before used room p.after len request added after x r → PlacedAs before used room (record { set = set; pairs = pairs_at request 0 }) after r
  placed-told Added.Numberless y r q = subst (PlacedAs before used room (record { set = set; pairs = new }) after) (sym q.0) (grant-numberless s h head set found p is new filled room legal y, q.1)
  placed-told (Added.Long own) y r q = told-long y.0 y.1.0 own y.1.1.len_is y.1.1.long r q.0 q.1
  placed-told (Added.Text own) y r q = told_text y.0 y.1.0 own y.1.1.len_is y.1.1.short y.1.1.text (is_room_for room (made_len used (own + len))) refl r q

-- the key of a set, as a search for its field finds it
abbrev is_found : Maybe ValuePlace → Bool
is_found None = false
is_found (Some f) = true

module _ (d : Bytes) (h : Described d) where
  key-filled : (vs : List Bytes) → length (key (record_in d)) ≡ length vs → is_filled (key (record_in d)) ≡ is_filled vs
  key-filled vs e = go (key (record_in d)) vs e
    where
      go : (ks vs : List Bytes) → length ks ≡ length vs → is_filled ks ≡ is_filled vs
      go [] [] q = refl
      go [] (v ∷ ws) q = absurd (omega arith)
      go (k ∷ ks) [] q = absurd (omega arith)
      go (k ∷ ks) (v ∷ ws) q = refl

  pub key-found : (x : Maybe ValuePlace) {y : Maybe ValuePlace} → NamedNext d (text "%key") 0 x → x ≡ y → is_filled (key (record_in d)) ≡ is_found y
  key-found x {y} n e = key-filled (values_of (text "%key") (record_in d)) (key-length (record_in d) (all-shaped d h)) ∙ go y (subst (NamedNext d (text "%key") 0) e n).value
    where
      go : (z : Maybe ValuePlace) → ValueNext d (text "%key") 0 z → is_filled (values_of (text "%key") (record_in d)) ≡ is_found z
      go None q = ap is_filled q
      go (Some f) q = ap is_filled q.values

-- the text of the fields that a record gets is inside what was lent for it
pub added-inside : (o : Option (List Pair)) (added : Bytes) (x : Added) → AddedAs o added x → OwnInside added x
added-inside o added Added.Numberless h = tt
added-inside o added (Added.Text n) h = h.1.1.inside
added-inside o added (Added.Long n) h = tt

-- a record is skipped by what is read of its set
pub skipped-set : (s set : Bytes) (p : RecordSet) → SetOf s set p → (new : List Pair)
    → is_skipped (record { set = set; pairs = new }) (plain_of (read_of s)).sets ≡ (is_filled (key (record_in (span p.start p.end s))) && any (is_twin new) (records (read_of (span p.begin p.after s))))
unfolding plain_of
skipped-set s set p f new =
    ap (or_else false (λ (i : ℕ). has_twin new (set_at i (sets_of (read_of s))))) f.there
    ∙ (λ i. is_filled (key (sym f.rules i)) && any (is_twin new) (sym f.members i))

-- what is placed of a record that is not skipped and has a request
pub inserted-placed : (before : Bytes) (used room : ℕ) (set : Bytes) (new ps : List Pair) (after : Bytes) (r : Inserted) → is_skipped (record { set = set; pairs = new }) (plain_of (read_of (take used before))).sets ≡ false
    → length (request_for (record { set = set; pairs = new })) ≤ file_bytes → ps ≡ new → PlacedAs before used room (record { set = set; pairs = ps }) after r → InsertedAs before used room (record { set = set; pairs = new }) after r
inserted-placed before used room set new ps after r s l e h = go r (subst (λ (qs : List Pair). PlacedAs before used room (record { set = set; pairs = qs }) after r) e h)
  where
    grant : (k : ℕ) → place_grant room (record { set = set; pairs = new }) (plain_of (read_of (take used before))) ≡ k → grant_no room (record { set = set; pairs = new }) (plain_of (read_of (take used before))) ≡ k
    grant k z = ap (λ (b : Bool). pick b (place_grant room (record { set = set; pairs = new }) (plain_of (read_of (take used before)))) 20) (le-leb (length (request_for (record { set = set; pairs = new }))) file_bytes l) ∙ z

    go : (q : Inserted) → PlacedAs before used room (record { set = set; pairs = new }) after q → InsertedAs before used room (record { set = set; pairs = new }) after q
    go Inserted.Skipped k = absurd k
    go (Inserted.Refused k) z = (s, grant (refusal_no k) z.0, z.1)
    go (Inserted.Grown m) z = (s, grant 0 z.0, z.1, z.2)

pub inserted-long : (before : Bytes) (used room : ℕ) (set : Bytes) (new : List Pair) → is_skipped (record { set = set; pairs = new }) (plain_of (read_of (take used before))).sets ≡ false
    → file_bytes < length (request_for (record { set = set; pairs = new })) → InsertedAs before used room (record { set = set; pairs = new }) before (Inserted.Refused Refusal.Form)
inserted-long before used room set new s l =
    let x : SpareRecord = record { set = set; pairs = new } in
    (s, ap (λ (b : Bool). pick b (place_grant room x (plain_of (read_of (take used before)))) 20) (lt-leb (length (request_for x)) file_bytes l), refl)

pub filled-pairs : (r : Record) → Filled r → Filled (map pair_of r)
filled-pairs [] h = absurd h
filled-pairs (f ∷ r) h = tt
