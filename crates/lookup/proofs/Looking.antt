-- What the searches find is what the questions 21, 22, 23 and 27 ask, and the values are the definitions'.
use Rattle.std.specs.Prelude.{Some}
use Prim.Native.Nat.{ℕ, zero, suc, ◌+◌, ◌-◌, ◌≤◌, ◌<◌}
use native.Mathlib.Omega.{arith}
use mathlib.Core.Path.{◌≡◌, refl, sym, ap, ◌∙◌, subst}
use mathlib.Core.Bool.{Bool, true, false}
use mathlib.Core.List.{List, [], ◌∷◌}
use mathlib.Core.Option.{Option, none}
use lib.Dec.{ltb}
use lib.ListN.{length, take, drop, get_or}
use lib.Seq.{drop-drop}
use borrow.Author.Tests.{lt-ltb, le-ltb, le-leb, lt-leb}
use Rattle.format.specs.Bytes.{Bytes, pick, is_some}
use Rattle.format.specs.Records.{Record, fields_of}
use Rattle.format.specs.Pieces.{read_of}
use Rattle.format.specs.Sets.{values_of, groups, sets_of}
use Rattle.format.specs.Plain.{index_of, members_at, members_in}
use Rattle.format.specs.Calls.{Answer, answer, leaves, over, Filled, filled, viewed_at}
use Rattle.values.specs.Value.{value_from}
use Rattle.records.specs.Places.{is_readable, places_of, head_place, record_place}
use Rattle.records.specs.declared.Place.{Place}
use Rattle.records.specs.declared.Head.{Head}
use Rattle.records.specs.declared.RecordSet.{RecordSet}
use Rattle.records.proofs.Readings.{reads_of, reads-readable}
use Rattle.records.proofs.Members.{members_of, record_of, has_record, has_occurrence, HeadFound, RecordFound}
use Rattle.records.proofs.SetOf.{SetOf, members-at}
use Rattle.records.proofs.Fields.{FieldFound}
use Rattle.records.proofs.Views.{part_of, view-part}
use Rattle.lookup.specs.Answers.{sets_from, count_in, fetch_in, view_in}

-- a part of a part
pub part-part : (j k m : ℕ) (l : Bytes) → j + k ≤ m → take k (drop j (take m l)) ≡ take k (drop j l)
part-part zero zero m l h = refl
part-part zero (suc k) zero l h = absurd (omega arith)
part-part zero (suc k) (suc m) [] h = refl
part-part zero (suc k) (suc m) (c ∷ l) h = ap {B = Bytes} (λ x. c ∷ x) (part-part zero k m l (omega arith))
part-part (suc j) k zero l h = absurd (omega arith)
part-part (suc j) k (suc m) [] h = refl
part-part (suc j) k (suc m) (c ∷ l) h = part-part j k m l (omega arith)

pub span-part : (b e v w : ℕ) (s : Bytes) → v ≤ w → w ≤ e - b → take (w - v) (drop v (take (e - b) (drop b s))) ≡ take ((b + w) - (b + v)) (drop (b + v) s)
span-part b e v w s h k =
    let d : w - v ≡ (b + w) - (b + v) = omega arith in
    part-part v (w - v) (e - b) (drop b s) (omega arith)
    ∙ ap (take (w - v)) (drop-drop v b s)
    ∙ ap (λ (n : ℕ). take n (drop (b + v) s)) d

-- a text that is put into a second buffer: it is too long, or fits

abbrev filled_by : Bool → Bytes → Bytes → Filled
filled_by b t out = let a : Answer = answer (pick b 0 27) (length t) in record { result = a; out = leaves a (over t out) out }

pub filled-long : (t out : Bytes) → length out < length t → filled 0 t out ≡ record { result = Answer.refusal 27; out = out }
filled-long t out h = ap (λ (b : Bool). filled_by b t out) (lt-leb (length t) (length out) h)

pub filled-fits : (t out : Bytes) → length t ≤ length out → filled 0 t out ≡ record { result = Answer.value (length t); out = over t out }
filled-fits t out h = ap (λ (b : Bool). filled_by b t out) (le-leb (length t) (length out) h)

-- the set

module _ (s n : Bytes) where
  pub count-missing : index_of n (sets_from s) ≡ none → count_in s n ≡ Answer.refusal 21
  unfolding count_in
  count-missing e = ap (λ (x : Bool). answer (pick x 0 21) (length (members_of n (sets_from s)))) (ap is_some e)

  pub count-found : (p : RecordSet) → SetOf s n p → count_in s n ≡ Answer.value p.count
  unfolding count_in
  count-found p f =
      ap (λ (x : Bool). answer (pick x 0 21) (length (members_of n (sets_from s)))) (ap is_some f.there)
      ∙ ap Answer.value (ap (λ (x : Option ℕ). length (members_in (sets_from s) x)) f.there ∙ ap length (members-at f.index (sets_from s)) ∙ sym f.counted)

-- the record

module _ (s n : Bytes) (row : ℕ) where
  pub view-missing : index_of n (sets_from s) ≡ none → view_in s n row ≡ record { result = Answer.refusal 21; part = [] }
  unfolding view_in
  view-missing e = ap (λ (x : Option ℕ). viewed_at (pick (is_some x) (pick (ltb row (length (members_in (sets_from s) x))) 0 22) 21) (groups (read_of s)) x row) e

  module _ (head : Head) (f : HeadFound s n (sets_from s) head) where
    set_there : is_some (index_of n (sets_from s)) ≡ true
    set_there = ap is_some f.set.there

    row-missing : length (members_at 0 (sets_of (read_of (drop head.begin s)))) ≤ row → has_record n row (sets_from s) ≡ false
    row-missing h = ap (λ (rs : List Record). ltb row (length rs)) f.set.members ∙ le-ltb row (length (members_at 0 (sets_of (read_of (drop head.begin s))))) h

    row-there : row < length (members_at 0 (sets_of (read_of (drop head.begin s)))) → has_record n row (sets_from s) ≡ true
    row-there h = ap (λ (rs : List Record). ltb row (length rs)) f.set.members ∙ lt-ltb row (length (members_at 0 (sets_of (read_of (drop head.begin s))))) h

    pub view-past : length (members_at 0 (sets_of (read_of (drop head.begin s)))) ≤ row → view_in s n row ≡ record { result = Answer.refusal 22; part = [] }
    unfolding view_in
    view-past h =
        ap (λ (x : Bool). viewed_at (pick x (pick (has_record n row (sets_from s)) 0 22) 21) (groups (read_of s)) (index_of n (sets_from s)) row) set_there
        ∙ (λ i. viewed_at (pick (row-missing h i) 0 22) (groups (read_of s)) (f.set.there i) row)

    pub view-found : (q : Place) → is_readable s ≡ true → head_place n (places_of s) ≡ Some head → record_place (places_of (drop head.begin s)) row ≡ Some q → RecordFound (drop head.begin s) (members_at 0 (sets_of (read_of (drop head.begin s)))) row q → view_in s n row ≡ record { result = Answer.value (head.begin + q.start); part = part_of s (head.begin + q.start) (head.begin + q.end) }
    unfolding view_in
    view-found q e g h r =
        ap (λ (x : Bool). viewed_at (pick x (pick (has_record n row (sets_from s)) 0 22) 21) (groups (read_of s)) (index_of n (sets_from s)) row) set_there
        ∙ ap (λ (x : Bool). viewed_at (pick x 0 22) (groups (read_of s)) (index_of n (sets_from s)) row) (row-there r.there)
        ∙ view-part s n head row q e g h

-- the field

module _ (s n : Bytes) (row : ℕ) (m : Bytes) (o : ℕ) (out : Bytes) where
  -- the value that is fetched
  value_in : Bytes
  value_in = get_or (values_of m (record_of n row (sets_from s))) o []

  answer_in : Bool → Bool → Bool → Filled
  answer_in x y z = filled (pick x (pick y (pick z 0 23) 22) 21) value_in out

  fetch-is : fetch_in s n row m o out ≡ answer_in (is_some (index_of n (sets_from s))) (has_record n row (sets_from s)) (has_occurrence n row m o (sets_from s))
  unfolding fetch_in answer_in value_in
  fetch-is = refl

  pub fetch-missing : index_of n (sets_from s) ≡ none → fetch_in s n row m o out ≡ record { result = Answer.refusal 21; out = out }
  unfolding answer_in
  fetch-missing e = fetch-is ∙ ap (λ (x : Bool). answer_in x (has_record n row (sets_from s)) (has_occurrence n row m o (sets_from s))) (ap is_some e)

  module _ (head : Head) (f : HeadFound s n (sets_from s) head) where
    pub fetch-past : length (members_at 0 (sets_of (read_of (drop head.begin s)))) ≤ row → fetch_in s n row m o out ≡ record { result = Answer.refusal 22; out = out }
    unfolding answer_in
    fetch-past h =
        fetch-is
        ∙ ap (λ (x : Bool). answer_in x (has_record n row (sets_from s)) (has_occurrence n row m o (sets_from s))) (set_there s n row head f)
        ∙ ap (λ (x : Bool). answer_in true x (has_occurrence n row m o (sets_from s))) (row-missing s n row head f h)

    module _ (q : Place) (r : RecordFound (drop head.begin s) (members_at 0 (sets_of (read_of (drop head.begin s)))) row q) where
      -- the record's part of the text has the record's fields
      part-is : take ((head.begin + q.end) - (head.begin + q.start)) (drop (head.begin + q.start) s) ≡ take (q.end - q.start) (drop q.start (drop head.begin s))
      part-is =
          let d : (head.begin + q.end) - (head.begin + q.start) ≡ q.end - q.start = omega arith in
          ap (take ((head.begin + q.end) - (head.begin + q.start))) (sym (drop-drop q.start head.begin s)) ∙ ap (λ (k : ℕ). take k (drop q.start (drop head.begin s))) d

      fields-are : fields_of (read_of (take ((head.begin + q.end) - (head.begin + q.start)) (drop (head.begin + q.start) s))) ≡ record_of n row (sets_from s)
      fields-are =
          ap (λ (t : Bytes). fields_of (read_of t)) part-is
          ∙ ap fields_of (reads_of r.stand.own-reads)
          ∙ r.stand.own-fields
          ∙ ap (λ (rs : List Record). get_or rs row []) (sym f.set.members)

      pub record-readable : is_readable (take ((head.begin + q.end) - (head.begin + q.start)) (drop (head.begin + q.start) s)) ≡ true
      record-readable = subst (λ (t : Bytes). is_readable t ≡ true) (sym part-is) (reads-readable r.stand.own-reads)

      values-are : values_of m (fields_of (read_of (take ((head.begin + q.end) - (head.begin + q.start)) (drop (head.begin + q.start) s)))) ≡ values_of m (record_of n row (sets_from s))
      values-are = ap (values_of m) fields-are

      found-so-far : (z : Bool) → answer_in (is_some (index_of n (sets_from s))) (has_record n row (sets_from s)) z ≡ answer_in true true z
      found-so-far z =
          ap (λ (x : Bool). answer_in x (has_record n row (sets_from s)) z) (set_there s n row head f)
          ∙ ap (λ (x : Bool). answer_in true x z) (row-there s n row head f r.there)

      pub fetch-none : length (values_of m (fields_of (read_of (take ((head.begin + q.end) - (head.begin + q.start)) (drop (head.begin + q.start) s))))) ≤ o → fetch_in s n row m o out ≡ record { result = Answer.refusal 23; out = out }
      unfolding answer_in
      fetch-none h =
          fetch-is
          ∙ found-so-far (has_occurrence n row m o (sets_from s))
          ∙ ap (λ (x : Bool). answer_in true true x) (ap (λ (vs : List Bytes). ltb o (length vs)) (sym values-are) ∙ le-ltb o (length (values_of m (fields_of (read_of (take ((head.begin + q.end) - (head.begin + q.start)) (drop (head.begin + q.start) s)))))) h)

      module _ (start value end : ℕ) (g : FieldFound (take ((head.begin + q.end) - (head.begin + q.start)) (drop (head.begin + q.start) s)) (values_of m (fields_of (read_of (take ((head.begin + q.end) - (head.begin + q.start)) (drop (head.begin + q.start) s))))) o start value end) where
        value-is : (t : Bytes) → t ≡ take (end - value) (drop value (take ((head.begin + q.end) - (head.begin + q.start)) (drop (head.begin + q.start) s))) → value_in ≡ value_from t
        unfolding value_in
        value-is t e = ap (λ (vs : List Bytes). get_or vs o []) (sym values-are) ∙ sym g.decodes ∙ ap value_from (sym e)

        there : (t : Bytes) → t ≡ take (end - value) (drop value (take ((head.begin + q.end) - (head.begin + q.start)) (drop (head.begin + q.start) s))) → fetch_in s n row m o out ≡ filled 0 (value_from t) out
        unfolding answer_in
        there t e =
            fetch-is ∙ found-so-far (has_occurrence n row m o (sets_from s))
            ∙ ap (λ (x : Bool). answer_in true true x) (ap (λ (vs : List Bytes). ltb o (length vs)) (sym values-are) ∙ lt-ltb o (length (values_of m (fields_of (read_of (take ((head.begin + q.end) - (head.begin + q.start)) (drop (head.begin + q.start) s)))))) g.there)
            ∙ ap (λ (v : Bytes). filled 0 v out) (value-is t e)

        pub fetch-long : (t : Bytes) → t ≡ take (end - value) (drop value (take ((head.begin + q.end) - (head.begin + q.start)) (drop (head.begin + q.start) s))) → length out < length (value_from t) → fetch_in s n row m o out ≡ record { result = Answer.refusal 27; out = out }
        fetch-long t e h = there t e ∙ filled-long (value_from t) out h

        pub fetch-found : (t : Bytes) → t ≡ take (end - value) (drop value (take ((head.begin + q.end) - (head.begin + q.start)) (drop (head.begin + q.start) s))) → length (value_from t) ≤ length out → fetch_in s n row m o out ≡ record { result = Answer.value (length (value_from t)); out = over (value_from t) out }
        fetch-found t e h = there t e ∙ filled-fits (value_from t) out h
