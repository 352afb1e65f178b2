-- What the walk over a file's pieces knows at a place: the record that goes on there, what was counted of it, the questions of the records before it, and their descriptors' rows.
use Rattle.std.specs.Prelude.{Ok}
use Prim.Native.Nat.{ℕ, zero, suc, ◌+◌, ◌-◌, ◌≤◌, ◌<◌}
use native.Mathlib.Omega.{arith}
use mathlib.Core.Path.{◌≡◌, refl, sym, ap, ◌∙◌, subst}
use mathlib.Core.Bool.{Bool, true, false, ◌&&◌, ◌||◌, not, and_assoc, and-true, and-eq-true_iff, or-true, or-false, true≢false}
use mathlib.Core.List.{List, [], ◌∷◌, ◌++◌, append-nil, append_assoc}
use borrow.Author.Tests.{eq-eqb, ne_eqb, leb-true, leb-false}
use lib.Dec.{leb, eqb}
use lib.ListN.{length, take, drop, get_or, set, length-append, length-drop, length-set}
use lib.Seq.{length-take-le, get_or-set_same, get_or-set_other}
use Rattle.format.specs.Bytes.{Bytes, text, pick, all, same}
use Rattle.format.specs.Limits.{descriptors, record_fields, name_bytes, value_bytes}
use Rattle.format.specs.Lines.{Line, is_ended}
use Rattle.format.specs.Lists.{is_filled}
use Rattle.format.specs.Pieces.{Piece, read_of}
use Rattle.format.specs.Questions.{fits_record, has_rec_once}
use Rattle.format.specs.Records.{Field, Record, fields_of}
use Rattle.format.specs.Sets.{values_of}
use Rattle.format.specs.Refusals.{question_no}
use Rattle.format.specs.declared.refusals.Question.{Question}
use Rattle.format.proofs.Records.{close, records}
use Rattle.format.proofs.Walking.{is_head, heads, walk_once}
use Rattle.lines.specs.Piece.{next_of}
use Rattle.values.specs.Value.{value_from}
use Rattle.lines.specs.declared.Next.{Next}
use Rattle.lines.proofs.Cuts.{rest, ended-drop}
use Rattle.lines.proofs.Inside.{Inside, next-inside}
use Rattle.records.specs.Places.{is_readable}
use Rattle.records.specs.Walk.{until_blank, from_blank}
use Rattle.records.specs.Heads.{HeadHere, row_from}
use Rattle.records.proofs.Looks.{looks}
use Rattle.records.proofs.Steps.{Passed, FieldAt}
use Rattle.records.proofs.Cuts.{records_from, head-one}
use Rattle.records.proofs.Rows.{row_next}
use Rattle.records.proofs.Going.{go_on, going_from, going-none, going-comment}
use Rattle.limits.specs.Opens.{not_open, open_on, put_row}
use Rattle.limits.specs.Bounds.{bounds_no, Scanned}
use Rattle.limits.specs.declared.Open.{Open}
use Rattle.limits.proofs.Questions.{past-told, line-no, limit-no}
use Rattle.limits.proofs.Fits.{fits_from, fits-start, fits-end, fits_here, fits_on, fits-stop}
use Rattle.limits.proofs.Once.{once_from, once-start, once-end, once-on}
use Rattle.limits.proofs.Runs.{field_of, field-on, blank-passed, head-filled, Pending, pending-none, pending-comment, pending-first, pending-field, pending-member, pending-head, head-here, none_left, left-none}

-- the numbers of a record's fields so far tell what those behind them make of it
pub record Counted (o : Open) (fs : Record) : Type 0 where
  pub number : o.fields ≡ length fs
  pub fit : (xs : Record) → fits_record (fs ++ xs) ≡ fits_from o.fields xs
  pub once : (xs : Record) → has_rec_once (fs ++ xs) ≡ once_from o.special o.recs xs
  pub head : (xs : Record) → is_head (fs ++ xs) ≡ (not (eqb o.recs 0) || is_head xs)

counted_none : Counted not_open []
counted_none = record { number = refl; fit = fits-start; once = once-start; head = λ xs. refl }

head-on : (n : ℕ) (b : Bool) (v : Bytes) (vs : List Bytes) → (not (eqb n 0) || is_filled (pick b (v ∷ vs) vs)) ≡ (not (eqb (n + pick b 1 0) 0) || is_filled vs)
head-on n true v vs = or-true (not (eqb n 0)) ∙ sym (ap (λ (x : Bool). not x || is_filled vs) (ne_eqb (n + 1) 0 (λ e. omega (arith, e))))
head-on n false v vs = let e : n ≡ n + 0 = omega arith in ap (λ (k : ℕ). not (eqb k 0) || is_filled vs) e

module _ {o : Open} {fs : Record} (c : Counted o fs) where
  counted-on : (f : Field) (a e : ℕ) → fits_here o.fields f ≡ true → Counted (open_on o f.name a e) (fs ++ (f ∷ []))
  counted-on f a e h =
      record {
        number = omega (arith, c.number, length-append fs (f ∷ []));
        fit = λ xs. ap fits_record (append_assoc fs (f ∷ []) xs) ∙ c.fit (f ∷ xs) ∙ (fits_on o.fields f xs h).1;
        once = λ xs. ap has_rec_once (append_assoc fs (f ∷ []) xs) ∙ c.once (f ∷ xs) ∙ once-on o.special o.recs f xs;
        head = λ xs. ap is_head (append_assoc fs (f ∷ []) xs) ∙ c.head (f ∷ xs) ∙ head-on o.recs (same (text "%rec") f.name) f.value (values_of (text "%rec") xs);
      }

  counted_stop : (f : Field) (xs : Record) → fits_here o.fields f ≡ false → fits_record (fs ++ (f ∷ xs)) ≡ false
  counted_stop f xs h = c.fit (f ∷ xs) ∙ fits-stop o.fields f xs h

  counted-fits : o.fields ≤ record_fields → fits_record fs ≡ true
  counted-fits h = ap fits_record (sym (append-nil fs)) ∙ c.fit [] ∙ fits-end o.fields h

  counted-once : has_rec_once fs ≡ pick o.special (eqb o.recs 1) true
  counted-once = ap has_rec_once (sym (append-nil fs)) ∙ c.once [] ∙ once-end o.special o.recs

  counted-head : (b : Bool) → eqb o.recs 0 ≡ b → is_head fs ≡ not b
  counted-head b e = ap is_head (sym (append-nil fs)) ∙ c.head [] ∙ or-false (not (eqb o.recs 0)) ∙ ap not e

-- the questions of all records, by those from the record on that goes on
pub record Asked (s : Bytes) (i : ℕ) (fs : Record) (count : ℕ) (once : Bool) : Type 0 where
  pub fit : all fits_record (records (read_of s)) ≡ all fits_record (going_from fs s i)
  pub named : walk_once (records (read_of s)) ≡ (once && walk_once (going_from fs s i))
  pub met : length (heads (records (read_of s))) ≡ count + length (heads (going_from fs s i))

asked-none : (s : Bytes) → Asked s 0 [] 0 true
asked-none s =
    let e : records (read_of s) ≡ going_from [] s 0 = sym (going-none (read_of s)) in
    record {
      fit = ap (all fits_record) e;
      named = ap walk_once e;
      met = omega (arith, ap (λ (rs : List Record). length (heads rs)) e);
    }

close-fit : (fs : Record) (rs : List Record) → fits_record fs ≡ true → all fits_record (close fs rs) ≡ all fits_record rs
close-fit [] rs e = refl
close-fit (f ∷ fs) rs e = ap (λ (b : Bool). b && all fits_record rs) e

close-stop : (fs : Record) (rs : List Record) → fits_record fs ≡ false → all fits_record (close fs rs) ≡ false
close-stop [] rs e = absurd (true≢false e)
close-stop (f ∷ fs) rs e = ap (λ (b : Bool). b && all fits_record rs) e

close-once : (fs : Record) (rs : List Record) → walk_once (close fs rs) ≡ (has_rec_once fs && walk_once rs)
close-once [] rs = refl
close-once (f ∷ fs) rs = refl

close-heads : (fs : Record) (rs : List Record) → length (heads (close fs rs)) ≡ pick (is_head fs) 1 0 + length (heads rs)
close-heads [] rs = omega arith
close-heads (f ∷ fs) rs = head-one (is_head (f ∷ fs)) (f ∷ fs) (heads rs)

module _ {s : Bytes} {i : ℕ} {fs : Record} {count : ℕ} {once : Bool} (q : Asked s i fs count once) where
  asked-on : (j : ℕ) (gs : Record) → going_from fs s i ≡ going_from gs s j → Asked s j gs count once
  asked-on j gs e =
      record {
        fit = q.fit ∙ ap (all fits_record) e;
        named = q.named ∙ ap (λ (rs : List Record). once && walk_once rs) e;
        met = q.met ∙ ap (λ (rs : List Record). count + length (heads rs)) e;
      }

  -- the record ends at byte j
  asked-shut : (j : ℕ) (here : Bool) (n : ℕ) → going_from fs s i ≡ close fs (records_from s j) → fits_record fs ≡ true → here ≡ has_rec_once fs → n ≡ count + pick (is_head fs) 1 0 → Asked s j [] n (once && here)
  asked-shut j here n e f h k =
      let z : records_from s j ≡ going_from [] s j = sym (going-none (read_of (drop j s))) in
      record {
        fit = q.fit ∙ ap (all fits_record) e ∙ close-fit fs (records_from s j) f ∙ ap (all fits_record) z;
        named =
            q.named
            ∙ ap (λ (rs : List Record). once && walk_once rs) e
            ∙ ap (λ (b : Bool). once && b) (close-once fs (records_from s j) ∙ ap (λ (b : Bool). b && walk_once (records_from s j)) (sym h))
            ∙ sym (and_assoc once here (walk_once (records_from s j)))
            ∙ ap (λ (rs : List Record). (once && here) && walk_once rs) z;
        met = omega (arith, q.met, ap (λ (rs : List Record). length (heads rs)) e, close-heads fs (records_from s j), ap (λ (rs : List Record). length (heads rs)) z, k);
      }

  -- its next field, which stands before byte j, passes a limit
  asked-past : {o : Open} (j : ℕ) (f : Field) → Counted o fs → going_from fs s i ≡ going_from (fs ++ (f ∷ [])) s j → fits_here o.fields f ≡ false → all fits_record (records (read_of s)) ≡ false
  unfolding go_on
  asked-past j f c e h =
      let ps : List Piece = read_of (drop j s) in
      let more : Record = fields_of (until_blank ps) in
      q.fit
      ∙ ap (all fits_record) (e ∙ ap (λ (r : Record). close r (records (from_blank ps))) (append_assoc fs (f ∷ []) more))
      ∙ close-stop (fs ++ (f ∷ more)) (records (from_blank ps)) (counted_stop c f more h)

-- n rows, of which the last one's block ends at p
abbrev pub RowsTo : Bytes → List ℕ → List ℕ → List ℕ → ℕ → ℕ → Type 0
RowsTo s starts ends afters n p =
    (row_from afters n ≡ p) × ((k : ℕ) → k < n → HeadHere s (row_from afters k) (get_or starts k 0) (get_or ends k 0) (get_or afters k 0))

from-set : (afters : List ℕ) (n k v : ℕ) → k ≤ n → row_from (set afters n v) k ≡ row_from afters k
from-set afters n zero v h = refl
from-set afters n (suc k) v h = get_or-set_other afters n k v 0 (λ e. omega (arith, e))

head-moved : (s : Bytes) {p a e n q b f m : ℕ} → p ≡ q → a ≡ b → e ≡ f → n ≡ m → HeadHere s p a e n → HeadHere s q b f m
head-moved s {p} {a} {e} {n} {q} {b} {f} {m} x y z w h =
    subst (λ (j : ℕ). HeadHere s q b f j) w (subst (λ (j : ℕ). HeadHere s q b j n) z (subst (λ (j : ℕ). HeadHere s q j e n) y (subst (λ (j : ℕ). HeadHere s j a e n) x h)))

module _ (s : Bytes) (starts ends afters : List ℕ) (n p a e i : ℕ) (r : RowsTo s starts ends afters n p) (h : HeadHere s p a e i) (b : n < length starts) (d : n < length ends) (f : n < length afters) where
  abbrev Put : ℕ → Type 0
  Put k = HeadHere s (row_from (set afters n i) k) (get_or (set starts n a) k 0) (get_or (set ends n e) k 0) (get_or (set afters n i) k 0)

  put-here : Put n
  put-here =
      head-moved s (sym (from-set afters n n i (omega arith) ∙ r.0)) (sym (get_or-set_same starts n a 0 b)) (sym (get_or-set_same ends n e 0 d)) (sym (get_or-set_same afters n i 0 f)) h

  put-before : (k : ℕ) → k < n → Put k
  put-before k m =
      let other : k ≡ n → ⊥ = λ q. omega (arith, q) in
      head-moved s (sym (from-set afters n k i (omega arith))) (sym (get_or-set_other starts n k a 0 other)) (sym (get_or-set_other ends n k e 0 other)) (sym (get_or-set_other afters n k i 0 other)) (r.1 k m)

  put-by : (k : ℕ) → k < n + 1 → (t : Bool) → leb n k ≡ t → Put k
  put-by k m true q = let z : n ≡ k = omega (arith, leb-true n k q) in subst Put z put-here
  put-by k m false q = put-before k (leb-false n k q)

  rows-put : RowsTo s (set starts n a) (set ends n e) (set afters n i) (n + 1) i
  rows-put = (row_next (set afters n i) n ∙ get_or-set_same afters n i 0 f, λ k m. put-by k m (leb n k) refl)

-- the same of other rows that are equal
moved : {s : Bytes} {xs bs es fs ns ms : List ℕ} {n m p : ℕ} → xs ≡ bs → es ≡ fs → ns ≡ ms → n ≡ m → RowsTo s xs es ns n p → RowsTo s bs fs ms m p
moved {s} {xs} {bs} {es} {fs} {ns} {ms} {n} {m} {p} x y z w r =
    subst (λ (j : ℕ). RowsTo s bs fs ms j p) w (subst (λ (j : List ℕ). RowsTo s bs fs j n p) z (subst (λ (j : List ℕ). RowsTo s bs j ns n p) y (subst (λ (j : List ℕ). RowsTo s j es ns n p) x r)))

-- all of it
pub record Walked (s : Bytes) (i : ℕ) (o : Open) (count : ℕ) (once : Bool) (starts ends afters : List ℕ) : Type 0 where
  pub from : ℕ
  pub first : ℕ
  pub last : ℕ
  pub fields : Record
  pub pending : Pending s from i first last fields
  pub counted : Counted o fields
  pub begun : 0 < o.fields → first ≡ o.start
  pub ended : 0 < o.fields → last ≡ o.end
  pub asked : Asked s i fields count once
  pub rows : count ≤ descriptors → RowsTo s starts ends afters count from

pub walked_none : (s : Bytes) (starts ends afters : List ℕ) → is_readable s ≡ true → Walked s 0 not_open 0 true starts ends afters
walked_none s starts ends afters e =
    record {
      from = 0;
      first = 0;
      last = 0;
      fields = [];
      pending = pending-none s 0 (omega arith) e;
      counted = counted_none;
      begun = λ h. refl;
      ended = λ h. refl;
      asked = asked-none s;
      rows = λ h. (refl, λ k m. absurd (omega (arith, m)));
    }

module _ {s : Bytes} {i : ℕ} {o : Open} {count : ℕ} {once : Bool} {starts ends afters : List ℕ} (w : Walked s i o count once starts ends afters) where
  pub walked-comment : (l : Line) (k : ℕ) → Passed s i (Piece.comment l) k → Walked s (i + k) o count once starts ends afters
  walked-comment l k q =
      record {
        from = w.from;
        first = w.first;
        last = w.last;
        fields = w.fields;
        pending = pending-comment w.pending q;
        counted = w.counted;
        begun = w.begun;
        ended = w.ended;
        asked = asked-on w.asked (i + k) w.fields (going-comment w.fields s i l k q);
        rows = w.rows;
      }

  -- one more field
  module _ (n v k : ℕ) (f : FieldAt s i n v k) where
    here : Field
    here = field_of f.name f.value f.own

    field-goes : going_from w.fields s i ≡ going_from (w.fields ++ (here ∷ [])) s (i + k)
    unfolding here
    field-goes = ap (go_on w.fields) f.passed.reads ∙ field-on f.name f.value f.own w.fields (read_of (drop (i + k) s))

    name-long : length f.name ≡ n
    name-long =
        let z : (i + n) - i ≡ n = omega arith in
        sym (ap length f.named) ∙ length-take-le ((i + n) - i) (drop i s) (omega (arith, length-drop i s, f.passed.inside, f.name-inside)) ∙ z

    abbrev pub FieldFits : Bool → Type 0
    FieldFits b = b ≡ (leb (o.fields + 1) record_fields && leb n name_bytes && leb (length (value_from (take ((i + k) - (i + v)) (drop (i + v) s)))) value_bytes)

    here-fits : (b : Bool) → FieldFits b → b ≡ fits_here o.fields here
    unfolding here
    here-fits b e = e ∙ (λ j. leb (o.fields + 1) record_fields && leb (sym name-long j) name_bytes && leb (length (f.decodes j)) value_bytes)

    pub walked-past : (b : Bool) → FieldFits b → b ≡ false → all fits_record (records (read_of s)) ≡ false
    walked-past b e h = asked-past w.asked (i + k) here w.counted field-goes (sym (here-fits b e) ∙ h)

    later : (r : Record) → w.fields ≡ r → (fits : fits_here o.fields here ≡ true) → Walked s (i + k) (open_on o f.name i (i + k)) count once starts ends afters
    unfolding here
    later [] z h =
        let none : o.fields ≡ 0 = w.counted.number ∙ ap (λ (x : Record). length x) z in
        record {
          from = w.from;
          first = i;
          last = i + k;
          fields = here ∷ [];
          pending = pending-first (subst (λ (x : Record). Pending s w.from i w.first w.last x) z w.pending) f.passed;
          counted = counted-on (subst (λ (x : Record). Counted o x) z w.counted) here i (i + k) h;
          begun = λ q. sym (ap (λ (b : Bool). pick b i o.start) (eq-eqb o.fields 0 none));
          ended = λ q. refl;
          asked = asked-on w.asked (i + k) (here ∷ []) (field-goes ∙ ap (λ (x : Record). going_from (x ++ (here ∷ [])) s (i + k)) z);
          rows = w.rows;
        }
    later (x ∷ xs) z h =
        let some : 0 < o.fields = omega (arith, w.counted.number, ap (λ (y : Record). length y) z) in
        record {
          from = w.from;
          first = w.first;
          last = i + k;
          fields = w.fields ++ (here ∷ []);
          pending = pending-field w.pending f.passed;
          counted = counted-on w.counted here i (i + k) h;
          begun = λ q. w.begun some ∙ sym (ap (λ (b : Bool). pick b i o.start) (ne_eqb o.fields 0 (λ e. omega (arith, some, e))));
          ended = λ q. refl;
          asked = asked-on w.asked (i + k) (w.fields ++ (here ∷ [])) field-goes;
          rows = w.rows;
        }

    pub walked-field : (b : Bool) → FieldFits b → b ≡ true → (u : Open) → u ≡ open_on o (take ((i + n) - i) (drop i s)) i (i + k) → Walked s (i + k) u count once starts ends afters
    walked-field b e h u q =
        subst (λ (x : Open). Walked s (i + k) x count once starts ends afters) (sym (q ∙ ap (λ (x : Bytes). open_on o x i (i + k)) f.named))
        (later w.fields refl (sym (here-fits b e) ∙ h))

  -- the end of the record
  pub record Shut (n : ℕ) (here : Bool) (bs es ns : List ℕ) : Type 0 where
    pub few : o.fields ≤ record_fields
    pub once-told : here ≡ pick o.special (eqb o.recs 1) true
    pub number : n ≡ count + pick (eqb o.recs 0) 0 1
    pub starts-put : bs ≡ put_row o starts count o.start
    pub ends-put : es ≡ put_row o ends count o.end
    pub afters-put : ns ≡ put_row o afters count i
    pub room : (length starts ≡ descriptors) × (length ends ≡ descriptors) × (length afters ≡ descriptors)

  module _ {n : ℕ} {here : Bool} {bs es ns : List ℕ} (z : Shut n here bs es ns) (stop : going_from w.fields s i ≡ close w.fields (records_from s i)) where
    shut-asked : (b : Bool) → eqb o.recs 0 ≡ b → (j : ℕ) → records_from s i ≡ records_from s j → Asked s j [] n (once && here)
    shut-asked b e j g =
        let h : is_head w.fields ≡ not b = counted-head w.counted b e in
        asked-shut w.asked j here n (stop ∙ ap (close w.fields) g) (counted-fits w.counted z.few) (z.once-told ∙ sym (counted-once w.counted))
        (z.number ∙ ap (λ (x : Bool). count + pick x 0 1) e ∙ turned b ∙ ap (λ (x : Bool). count + pick x 1 0) (sym h))
      where
        turned : (x : Bool) → count + pick x 0 1 ≡ count + pick (not x) 1 0
        turned true = refl
        turned false = refl

    shut-rows : (b : Bool) → eqb o.recs 0 ≡ b → n ≤ descriptors → RowsTo s bs es ns n (pick b w.from i)
    shut-rows true e m =
        let k : n ≡ count = omega (arith, z.number ∙ ap (λ (x : Bool). count + pick x 0 1) e) in
        moved (sym (z.starts-put ∙ ap (λ (x : Bool). pick x starts (set starts count o.start)) e)) (sym (z.ends-put ∙ ap (λ (x : Bool). pick x ends (set ends count o.end)) e)) (sym (z.afters-put ∙ ap (λ (x : Bool). pick x afters (set afters count i)) e)) (sym k) (w.rows (omega (arith, m, k)))
    shut-rows false e m =
        let h : is_head w.fields ≡ true = counted-head w.counted false e in
        let k : n ≡ count + 1 = z.number ∙ ap (λ (x : Bool). count + pick x 0 1) e in
        let some : 0 < o.fields = omega (arith, w.counted.number, head-filled w.fields h) in
        let row : HeadHere s w.from o.start o.end i = head-moved s refl (w.begun some) (w.ended some) refl (head-here w.pending stop h) in
        moved (sym (z.starts-put ∙ ap (λ (x : Bool). pick x starts (set starts count o.start)) e)) (sym (z.ends-put ∙ ap (λ (x : Bool). pick x ends (set ends count o.end)) e)) (sym (z.afters-put ∙ ap (λ (x : Bool). pick x afters (set afters count i)) e)) (sym k)
        (rows-put s starts ends afters count w.from o.start o.end i (w.rows (omega (arith, m, k))) row (omega (arith, m, k, z.room.0)) (omega (arith, m, k, z.room.1)) (omega (arith, m, k, z.room.2)))

    -- by a blank line
    blank-by : (l : Line) (k : ℕ) → Passed s i (Piece.blank l) k → (b : Bool) → eqb o.recs 0 ≡ b → Pending s (pick b w.from i) (i + k) (i + k) (i + k) []
    blank-by l k q true e = pending-member w.pending q (counted-head w.counted true e)
    blank-by l k q false e = pending-head w.pending q

    pub walked-blank : (l : Line) (k : ℕ) → Passed s i (Piece.blank l) k → (u : Open) → u ≡ not_open → Walked s (i + k) u n (once && here) bs es ns
    walked-blank l k q u d =
        let b : Bool = eqb o.recs 0 in
        subst (λ (x : Open). Walked s (i + k) x n (once && here) bs es ns) (sym d)
        (record {
          from = pick b w.from i;
          first = i + k;
          last = i + k;
          fields = [];
          pending = blank-by l k q b refl;
          counted = counted_none;
          begun = λ h. absurd (omega (arith, h));
          ended = λ h. absurd (omega (arith, h));
          asked = shut-asked b refl (i + k) (blank-passed q);
          rows = shut-rows b refl;
        })

    -- by the end of the file
    end_by : read_of (drop i s) ≡ [] → (b : Bool) → eqb o.recs 0 ≡ b → heads (records_from s (pick b w.from i)) ≡ []
    end_by y true e = none_left w.pending y (counted-head w.counted true e)
    end_by y false e = ap (λ (rs : List Record). heads rs) (left-none s i w.fields y)

    pub walked_end : is_readable s ≡ true → read_of (drop i s) ≡ [] → Scanned s bs es ns (Ok (record { count = n; once = once && here }))
    walked_end r y =
        let b : Bool = eqb o.recs 0 in
        let q = shut-asked b refl i refl in
        let none : going_from [] s i ≡ [] = going-none (read_of (drop i s)) ∙ left-none s i w.fields y in (
          r,
          q.fit ∙ ap (all fits_record) none,
          q.named ∙ ap (λ (rs : List Record). (once && here) && walk_once rs) none ∙ and-true (once && here),
          omega (arith, q.met, ap (λ (rs : List Record). length (heads rs)) none),
          λ m. let t = shut-rows b refl m in
              record {
                begun = omega (arith, m, ap length z.starts-put, put-length b o.start starts, z.room.0);
                ended = omega (arith, m, ap length z.ends-put, put-length b o.end ends, z.room.1);
                passed = omega (arith, m, ap length z.afters-put, put-length b i afters, z.room.2);
                row = t.1;
                last = ap (λ (j : ℕ). heads (records_from s j)) t.0 ∙ end_by y b refl;
              },
        )
      where
        put-length : (x : Bool) (v : ℕ) (xs : List ℕ) → length (pick x xs (set xs count v)) ≡ length xs
        put-length true v xs = refl
        put-length false v xs = length-set xs count v

-- what the code knows of a field, even where the rest may not be readable
pub field_told : (s : Bytes) (i : ℕ) (x : Next) {n v k : ℕ} → is_ended s ≡ true → x ≡ next_of (take (length s - i) (drop i s)) → x ≡ Next.Field n v k → (n ≤ k) × (v ≤ k) × (0 < k) × (i + k ≤ length s)
field_told s i x {n} {v} {k} e f g =
    let p = looks s i x e f g in
    let h : 0 < length (drop i s) = omega (arith, length-drop i s, p.1, p.2) in
    let q : next_of (drop i s) ≡ Next.Field n v k = ap next_of (sym (rest s i)) ∙ sym f ∙ g in
    let t : Inside (length (drop i s)) (Next.Field n v k) = subst (Inside (length (drop i s))) q (next-inside (drop i s) (ended-drop s i e) h) in
    (omega (arith, t.1, t.2), omega (arith, t.2), p.1, p.2)

pub field-few : (n : ℕ) (x y b : Bool) → b ≡ (leb (n + 1) record_fields && x && y) → b ≡ true → n + 1 ≤ record_fields
field-few n x y b e h =
    let t : Bool = leb (n + 1) record_fields in
    leb-true (n + 1) record_fields ((and-eq-true_iff t x).0 ((and-eq-true_iff (t && x) y).0 (sym e ∙ h)).0).0

-- a limit is not held: the rest tells whether the file is readable
past_by : (s : Bytes) (q : Question) (b : Bool) → is_readable s ≡ b → q ≡ pick b Question.Limit Question.Line → (is_readable s ≡ true → all fits_record (records (read_of s)) ≡ false) → question_no q ≡ bounds_no s
past_by s q true e p f = ap question_no p ∙ sym (limit-no s e (past-told (records (read_of s)) (f e)))
past_by s q false e p f = ap question_no p ∙ sym (line-no s e)

pub past-scanned : (s : Bytes) (q : Question) (j : ℕ) → is_readable s ≡ is_readable (drop j s) → q ≡ pick (is_readable (take (length s - j) (drop j s))) Question.Limit Question.Line → (is_readable s ≡ true → all fits_record (records (read_of s)) ≡ false) → question_no q ≡ bounds_no s
past-scanned s q j e p f =
    past_by s q (is_readable s) refl (p ∙ ap (λ (x : Bytes). pick (is_readable x) Question.Limit Question.Line) (rest s j) ∙ ap (λ (b : Bool). pick b Question.Limit Question.Line) (sym e)) f
