-- The walk over the records of a set, piece by piece: the record that goes on has its tally, those before it their least number.
use Prim.Native.Nat.{ℕ, zero, suc, ◌+◌, ◌-◌, ◌≤◌, ◌<◌}
use native.Mathlib.Omega.{arith}
use mathlib.Core.Path.{◌≡◌, refl, sym, ap, ◌∙◌, subst}
use mathlib.Core.Bool.{Bool, true, ◌&&◌, and_assoc, and-true, and-eq-true_iff}
use mathlib.Core.List.{List, [], ◌∷◌, ◌++◌, map}
use lib.Dec.{leb, eqb}
use lib.ListN.{length, take, drop, set, get_or, replicate, get_or-replicate, length-append}
use lib.Seq.{get_or-set_same, get_or-set_other}
use borrow.Author.Tests.{leb-true, eqb-true, eqb-false, ne_eqb}
use Rattle.format.specs.Lists.{flat}
use Rattle.format.specs.Bytes.{Bytes, text, pick, all}
use Rattle.format.specs.Lines.{Line}
use Rattle.format.specs.Pieces.{Piece, read_of}
use Rattle.format.specs.Records.{Field, Record}
use Rattle.format.specs.Sets.{values_of}
use Rattle.format.specs.Numbers.{int_bounds}
use Rattle.format.specs.Rules.{key, is_shaped}
use Rattle.format.proofs.Least.{least, leasts}
use Rattle.format.proofs.Lines.{all_append}
use Rattle.format.proofs.Records.{close, records}
use Rattle.values.specs.Value.{value_from}
use Rattle.records.specs.Places.{is_readable}
use Rattle.records.specs.Walk.{record_in}
use Rattle.records.specs.Fields.{fields_from}
use Rattle.records.proofs.Steps.{Passed, FieldAt, record-none, record-blank, record-comment, record-field}
use Rattle.records.proofs.Cuts.{fields-records}
use Rattle.records.proofs.Going.{going_from, going-none, going_end, going-blank, going-comment, going-field}
use Rattle.values.proofs.Tests.{by_bool}
use Rattle.terms.specs.Sets.{in_set}
use Rattle.dictionary.specs.Known.{Described}
use Rattle.dictionary.proofs.Typing.{all-shaped}
use Rattle.dictionary.proofs.Counting.{key-length}
use Rattle.rules.specs.Tallies.{empty, counted, tally_no, Tallied}
use Rattle.rules.specs.Tables.{Stands, SeenAt}
use Rattle.rules.specs.declared.tallies.Tally.{Tally}
use Rattle.rules.specs.declared.tables.Seen.{Seen}
use Rattle.rules.specs.declared.tables.SeenName.{SeenName}
use Rattle.rules.proofs.Fields.{tallied-none, stands-more}
use Rattle.rules.proofs.TallyNo.{tally-no}
use Rattle.rules.proofs.Leasts.{least-none, least-assoc}
use Rattle.columns.specs.Meets.{rows_met}
use Rattle.columns.proofs.Named.{rows-known}
use Rattle.rules.specs.Members.{IsRulebook, fits_in, names_no, is_met, part_no}
use Rattle.rules.specs.declared.members.Rulebook.{Rulebook}

-- at most one key
pub key-few : (d : Bytes) → Described d → length (key (record_in d)) ≤ 1
key-few d h =
    let rules : Record = record_in d in
    let k : Bool = leb (length (values_of (text "%key") rules)) 1 in
    let z : Bool = leb (length (values_of (text "%size") rules)) 1 in
    let hk = (and-eq-true_iff (all (is_shaped int_bounds) rules) k).0 ((and-eq-true_iff (all (is_shaped int_bounds) rules && k) z).0 h.well).0 in
    omega (arith, key-length rules (all-shaped d h), leb-true (length (values_of (text "%key") rules)) 1 hk.1)

-- a test of all that some lists hold
pub all_join : {A : Type 0} (p : A → Bool) (xs : List (List A)) → all p (flat xs) ≡ all (all p) xs
all_join p [] = refl
all_join p (x ∷ xs) = all_append p x (flat xs) ∙ ap (λ (b : Bool). all p x && b) (all_join p xs)

module _ (d : Bytes) (from m : ℕ) (s : Bytes) where
  abbrev no : Record → ℕ
  no = names_no (record_in d)

  abbrev met : Field → Bool
  met = is_met d from m

  pub record Walked (t : Tally) (fields : ℕ) (typed : Bool) (worst before i : ℕ) : Type 0 where
    pub inside : i ≤ length s
    pub readable : is_readable (drop i s) ≡ true
    pub opened : Record
    pub tallied : Tallied (record_in d) opened t
    pub count : fields ≡ length opened
    pub count_at : length (records (read_of s)) ≡ before + length (going_from opened s i)
    pub fewer : before + fields ≤ i
    pub least_at : leasts (map no (records (read_of s))) ≡ least worst (leasts (map no (going_from opened s i)))
    pub typed_at : all met (record_in s) ≡ (typed && all met (fields_from s i))

  pub walk_start : (t : Tally) → t ≡ empty → is_readable s ≡ true → Walked t 0 true 0 0 0
  walk_start t z e =
      record {
        inside = omega arith;
        readable = e;
        opened = [];
        tallied = subst (Tallied (record_in d) []) (sym z) (tallied-none (record_in d));
        count = refl;
        count_at = ap (λ (rs : List Record). length rs) (sym (going-none (read_of s))) ∙ (let e : length (going_from [] s 0) ≡ 0 + length (going_from [] s 0) = omega arith in e);
        fewer = omega arith;
        least_at = ap (λ (rs : List Record). leasts (map no rs)) (sym (going-none (read_of s)));
        typed_at = refl;
      }

  -- a record is closed: worst becomes the least with its number, if it has fields
  close-by : (fs : Record) (rs : List Record) (worst n fields : ℕ) → fields ≡ length fs → n ≡ no fs → least worst (leasts (map no (close fs rs))) ≡ least (pick (eqb fields 0) worst (least worst n)) (leasts (map no rs))
  close-by [] rs worst n fields c q = ap (λ (k : ℕ). least (pick (eqb k 0) worst (least worst n)) (leasts (map no rs))) (sym c)
  close-by (f ∷ fs) rs worst n fields c q =
      least-assoc worst (no (f ∷ fs)) (leasts (map no rs))
      ∙ ap (λ (k : ℕ). least (least worst k) (leasts (map no rs))) (sym q)
      ∙ ap (λ (b : Bool). least (pick b worst (least worst n)) (leasts (map no rs))) (sym (ne_eqb fields 0 (λ z. omega arith)))

  close-count : (fs : Record) (rs : List Record) (before fields : ℕ) → fields ≡ length fs → before + length (close fs rs) ≡ pick (eqb fields 0) before (before + 1) + length rs
  close-count [] rs before fields c = ap (λ (k : ℕ). pick (eqb k 0) before (before + 1) + length rs) (sym c)
  close-count (f ∷ fs) rs before fields c =
      let one : before + suc (length rs) ≡ (before + 1) + length rs = omega arith in
      one ∙ ap (λ (b : Bool). pick b before (before + 1) + length rs) (sym (ne_eqb fields 0 (λ z. omega arith)))

  -- the number of closed records grows by one at most, and only by one that has a field
  close-few : (before fields : ℕ) → pick (eqb fields 0) before (before + 1) ≤ before + fields
  close-few before zero = omega arith
  close-few before (suc n) = omega (arith, ap (λ (b : Bool). pick b before (before + 1)) (ne_eqb (suc n) 0 (λ z. omega arith)))

  module _ (t : Tally) (fields : ℕ) (typed : Bool) (worst before i : ℕ) (w : Walked t fields typed worst before i) where
    pub walk-comment : (l : Line) (k : ℕ) → Passed s i (Piece.comment l) k → Walked t fields typed worst before (i + k)
    walk-comment l k p =
        record {
          inside = p.inside;
          readable = p.readable;
          opened = w.opened;
          tallied = w.tallied;
          count = w.count;
          count_at = w.count_at ∙ ap (λ (rs : List Record). before + length rs) (going-comment w.opened s i l k p);
          fewer = omega (arith, w.fewer);
          least_at = w.least_at ∙ ap (λ (rs : List Record). least worst (leasts (map no rs))) (going-comment w.opened s i l k p);
          typed_at = w.typed_at ∙ ap (λ (fs : Record). typed && all met fs) (record-comment s i l k p);
        }

    -- n is the number of the record that goes on
    module _ (best n after : ℕ) (q : n ≡ no w.opened) (b : best ≡ pick (eqb fields 0) worst (least worst n)) (c : after ≡ pick (eqb fields 0) before (before + 1)) where
      pub walk-blank : (l : Line) (k : ℕ) (u : Tally) → u ≡ empty → Passed s i (Piece.blank l) k → Walked u 0 typed best after (i + k)
      walk-blank l k u z p =
          record {
            inside = p.inside;
            readable = p.readable;
            opened = [];
            tallied = subst (Tallied (record_in d) []) (sym z) (tallied-none (record_in d));
            count = refl;
            count_at =
                w.count_at
                ∙ ap (λ (rs : List Record). before + length rs) (going-blank w.opened s i l k p)
                ∙ close-count w.opened (records (read_of (drop (i + k) s))) before fields w.count
                ∙ (λ j. sym c j + length (sym (going-none (read_of (drop (i + k) s))) j));
            fewer = omega (arith, c, close-few before fields, w.fewer);
            least_at =
                w.least_at
                ∙ ap (λ (rs : List Record). least worst (leasts (map no rs))) (going-blank w.opened s i l k p)
                ∙ close-by w.opened (records (read_of (drop (i + k) s))) worst n fields w.count q
                ∙ (λ j. least (sym b j) (leasts (map no (sym (going-none (read_of (drop (i + k) s))) j))));
            typed_at = w.typed_at ∙ ap (λ (fs : Record). typed && all met fs) (record-blank s i l k p);
          }

      pub walk-count : read_of (drop i s) ≡ [] → after ≡ length (records (read_of s))
      walk-count e =
          sym
          (w.count_at
          ∙ ap (λ (rs : List Record). before + length rs) (going_end w.opened s i e)
          ∙ close-count w.opened [] before fields w.count
          ∙ (let z : pick (eqb fields 0) before (before + 1) + 0 ≡ pick (eqb fields 0) before (before + 1) = omega arith in z)
          ∙ sym c)

      pub walk_end : read_of (drop i s) ≡ [] → (a : ℕ) → a ≡ least best (pick typed 0 12) → a ≡ part_no d from m (records (read_of s))
      unfolding part_no
      walk_end e a h =
          let rs : List Record = records (read_of s) in
          let names : leasts (map no rs) ≡ best =
          w.least_at
          ∙ ap (λ (xs : List Record). least worst (leasts (map no xs))) (going_end w.opened s i e)
          ∙ close-by w.opened [] worst n fields w.count q
          ∙ sym (least-none (pick (eqb fields 0) worst (least worst n)) 0 refl)
          ∙ sym b in
          let types : all (all met) rs ≡ typed =
          sym (all_join met rs)
          ∙ ap (all met) (sym (fields-records (read_of s)))
          ∙ w.typed_at
          ∙ ap (λ (fs : Record). typed && all met fs) (record-none s i e)
          ∙ and-true typed in
          h ∙ (λ j. least (sym names j) (pick (sym types j) 0 12))

    -- one field more
    module _ (n v k : ℕ) (f : FieldAt s i n v k) where
      abbrev here : Field
      here = record { name = take ((i + n) - i) (drop i s); value = value_from (take ((i + k) - (i + v)) (drop (i + v) s)); count = k }

      pub walk_field : (next : ℕ) (x : Seen) (u : Tally) (ok both : Bool) → Stands (record_in d) from next here.name x
          → u ≡ counted t (in_set 33 x.known) (in_set 34 x.known) (in_set 36 x.known) x.mandatory x.unique → ok ≡ met here → both ≡ (typed && ok) → Walked u (fields + 1) both worst before (i + k)
      walk_field next x u ok both h g o b =
          record {
            inside = f.passed.inside;
            readable = f.passed.readable;
            opened = w.opened ++ (here ∷ []);
            tallied = stands-more (record_in d) w.opened here from next t u x h w.tallied g;
            count = omega (arith, w.count, length-append w.opened (here ∷ []));
            count_at = w.count_at ∙ ap (λ (rs : List Record). before + length rs) (going-field w.opened s i n v k f);
            fewer = omega (arith, w.fewer, f.passed.moves);
            least_at = w.least_at ∙ ap (λ (rs : List Record). least worst (leasts (map no rs))) (going-field w.opened s i n v k f);
            typed_at =
                w.typed_at
                ∙ ap (λ (fs : Record). typed && all met fs) (record-field s i n v k f)
                ∙ sym (and_assoc typed (met here) (all met (fields_from s (i + k))))
                ∙ ap (λ (c : Bool). c && all met (fields_from s (i + k))) (sym (b ∙ ap (λ (c : Bool). typed && c) o));
          }

-- the number of the record that goes on, by its tally
module _ (d : Bytes) (l sets : List ℕ) (r : Rulebook) (b : IsRulebook d l sets r) where
  pub few-mandatory : r.tables.mandatory.count ≤ 64
  few-mandatory = omega (arith, b.tables-are.mandatory-are.count, b.tables-are.mandatory-are.few)

  pub open_no : (fs : Record) (t : Tally) → Tallied (record_in d) fs t → tally_no t r.limited r.keyed r.tables.mandatory.count ≡ names_no (record_in d) fs
  unfolding names_no
  open_no fs t h =
      tally-no (record_in d) fs t h int_bounds r.limited r.keyed r.tables.mandatory.count b.limited-is b.keyed-is b.tables-are.mandatory-are.count (key-few d b.tables-are.described)

-- what was seen of names, by the number of a field
module _ (rules : Record) (from next : ℕ) (s : Bytes) where
  abbrev pub AllSeen : List SeenName → Type 0
  AllSeen seen = (k : ℕ) (other : SeenName) → k < 16 → SeenAt rules from next s (get_or seen k other)

  pub seen_start : (x : SeenName) → SeenAt rules from next s x → AllSeen (replicate 16 x)
  seen_start x h k other low = subst (SeenAt rules from next s) (sym (get_or-replicate 16 k x other low)) h

  pub seen-set : (seen : List SeenName) (n : ℕ) (x : SeenName) → length seen ≡ 16 → n < 16 → SeenAt rules from next s x → AllSeen seen → AllSeen (set seen n x)
  seen-set seen n x l h g f k other low =
      dec-eq k n
      (λ e. subst (SeenAt rules from next s) (sym (ap (λ (j : ℕ). get_or (set seen n x) j other) e ∙ get_or-set_same seen n x other (omega arith))) g)
      (λ o. subst (SeenAt rules from next s) (sym (get_or-set_other seen n k x other o)) (f k other low))
    where
      dec-eq : {P : Type 0} (i j : ℕ) → (i ≡ j → P) → ((i ≡ j → ⊥) → P) → P
      dec-eq i j same other = by_bool (eqb i j) (λ e. same (eqb-true i j e)) (λ e. other (eqb-false i j e))

-- values that fit
pub fits-here : (n : ℕ) (f : Field) (fs all_of : Record) → all_of ≡ f ∷ fs → all (fits_in n) all_of ≡ true → (length f.value ≤ n) × (all (fits_in n) fs ≡ true)
fits-here n f fs all_of e h =
    let k = (and-eq-true_iff (fits_in n f) (all (fits_in n) fs)).0 (sym (ap (all (fits_in n)) e) ∙ h) in
    (leb-true (length f.value) n k.0, k.1)

-- the field met: its value against the types from one on
pub field-met : (d : Bytes) (from next first to : ℕ) (f : Field) (x : Seen) (ok : Bool) → Stands (record_in d) from next f.name x → first ≡ from → first ≤ to → to ≤ next → ok ≡ rows_met d x.known first (to - first) f.value
    → ok ≡ is_met d from (to - from) f
unfolding is_met
field-met d from next first to f x ok h same a b e =
    e ∙ ap (λ (k : ℕ). rows_met d x.known k (to - k) f.value) same ∙ rows-known d from next f.name x.known h.tags f.value to (omega (arith, same)) b
