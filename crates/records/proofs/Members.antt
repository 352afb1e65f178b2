-- What the searches find, by the sets of the part: the count of the default set, the record of a number, the records of a set.
use Rattle.std.specs.Prelude.{Option as Maybe, Some, None}
use Prim.Native.Nat.{ℕ, zero, suc, ◌+◌, ◌-◌, ◌≤◌, ◌<◌}
use native.Mathlib.Omega.{arith}
use mathlib.Core.Path.{◌≡◌, refl, sym, ap, ◌∙◌, subst}
use mathlib.Core.Bool.{Bool, true, false}
use mathlib.Core.List.{List, [], ◌∷◌}
use mathlib.Core.Option.{Option, none, some}
use lib.Dec.{ltb}
use lib.ListN.{length, take, drop, get_or}
use Rattle.format.specs.Pieces.{pieces, read_of}
use Rattle.format.proofs.Records.{sets-records, enters, sets, GoodSets, good-sets}
use Rattle.format.specs.Lists.{onward, is_filled}
use Rattle.format.specs.Bytes.{Bytes, text, pick, same}
use Rattle.format.specs.Records.{Record, fields_of}
use Rattle.format.specs.Sets.{values_of, RecSet, sets_of}
use Rattle.format.specs.Words.{first_word}
use Rattle.format.specs.Plain.{index_of, set_at, members_at, members_in}
use Rattle.records.specs.Places.{is_readable, Placed, places_of, is_descriptor, first_place, names_set, head_of, descriptor_head, head_place, record_by, record_place, count_before}
use Rattle.records.specs.declared.Place.{Place}
use Rattle.records.specs.Walk.{record_in}
use Rattle.records.specs.declared.Head.{Head}
use Rattle.records.proofs.Walks.{places-records}
use Rattle.records.proofs.Shifts.{raise, fields_in, raise-fields}
use Rattle.records.proofs.Readings.{reads_of, reads-readable, places-read}
use Rattle.records.proofs.Searches.{places_at, places-all, Stand, Meets, meets-first, head-default, head-named}

-- the place of a set, one further on or here
abbrev pub step_on : Option ℕ → Option ℕ
step_on x = onward (λ (i : ℕ). some (suc i)) x

abbrev pub index_by : Bool → Option ℕ → Option ℕ
index_by b x = pick b (some zero) (step_on x)

-- the records of the set of a name, one of them, and whether it and an occurrence in it are there
abbrev pub members_of : Bytes → List RecSet → List Record
members_of n ss = members_in ss (index_of n ss)

abbrev pub record_of : Bytes → ℕ → List RecSet → Record
record_of n row ss = get_or (members_of n ss) row []

abbrev pub has_record : Bytes → ℕ → List RecSet → Bool
has_record n row ss = ltb row (length (members_of n ss))

abbrev pub has_occurrence : Bytes → ℕ → Bytes → ℕ → List RecSet → Bool
has_occurrence n row m o ss = ltb o (length (values_of m (record_of n row ss)))

-- the sets of a part, by the places of its records
pub sets-places : (s : Bytes) → sets_of (read_of s) ≡ sets (fields_in (places_of s))
sets-places s = sets-records (read_of s) ∙ ap sets (sym (ap (λ (ps : List Placed). fields_in ps) (places-read s) ∙ places-records 0 (read_of s)))

sets-at : (s : Bytes) (i : ℕ) → sets (fields_in (places_at s i)) ≡ sets_of (read_of (drop i s))
sets-at s i = ap sets (raise-fields i (places_of (drop i s))) ∙ sym (sets-places (drop i s))

-- Each place of a part stands where it says, and the places behind it are those of the part behind its block.
abbrev pub Stands : Bytes → List Placed → Type 0
Stands s [] = Unit {0}
Stands s (p ∷ ps) = Stand s p.start p.end p.after p.fields × (ps ≡ places_at s p.after) × Stands s ps

stand-on : (s : Bytes) (i : ℕ) (p : Placed) (ps : List Placed) (x : Maybe Place) → ((j : ℕ) → j ≤ length s → is_readable (drop j s) ≡ true → places_at s j ≡ ps → Stands s ps) → places_at s i ≡ p ∷ ps → Meets s i x → Stands s (p ∷ ps)
stand-on s i p ps None ih e m = absurd (let z : ◌≡◌ {A = ℕ} 0 1 = cc in omega arith)
stand-on s i p ps (Some q) ih e m =
    let y : Placed = raise i m.here in
    let z : p ∷ ps ≡ y ∷ places_at s (i + q.after) = sym e ∙ m.places in
    let a : y ≡ p = cc in
    let b : places_at s (i + q.after) ≡ ps = cc in
    let d : Stand s y.start y.end y.after y.fields = subst (λ (x : Place). Stand s (i + x.start) (i + x.end) (i + x.after) m.here.fields) (sym m.is) m.stand in
    let f : i + q.after ≡ p.after = ap (λ (x : Place). i + x.after) (sym m.is) ∙ ap (λ (x : Placed). x.after) a in
    (subst (λ (x : Placed). Stand s x.start x.end x.after x.fields) a d, sym b ∙ ap (places_at s) f, ih (i + q.after) m.stand.inside m.stand.readable b)

pub stands_at : (s : Bytes) (xs : List Placed) (i : ℕ) → i ≤ length s → is_readable (drop i s) ≡ true → places_at s i ≡ xs → Stands s xs
stands_at s [] i h e q = tt
stands_at s (p ∷ ps) i h e q = stand-on s i p ps (first_place (places_of (drop i s))) (stands_at s ps) q (meets-first s i h e)

pub stands : (s : Bytes) → is_readable s ≡ true → Stands s (places_of s)
stands s e = stands_at s (places_of s) 0 (omega arith) e (sym (places-all s))

-- The first set of records: none behind a descriptor.
members-enter : (vs : List Bytes) (r : Record) (ss : List RecSet) → members_at 0 (enters vs r ss) ≡ pick (is_filled vs) [] (r ∷ members_at 0 ss)
members-enter [] r [] = refl
members-enter [] r (s ∷ ss) = refl
members-enter (v ∷ vs) r [] = refl
members-enter (v ∷ vs) r (s ∷ ss) = refl

abbrev pub first_members : List Placed → List Record
first_members ps = members_at 0 (sets (fields_in ps))

pub members-on : (p : Placed) (ps : List Placed) → first_members (p ∷ ps) ≡ pick (is_descriptor p) [] (p.fields ∷ first_members ps)
members-on p ps = members-enter (values_of (text "%rec") p.fields) p.fields (sets (fields_in ps))

count-on : (t : Bool) (n : ℕ) (r : Record) (rs : List Record) → n ≡ length rs → pick t 0 (suc n) ≡ length (pick t [] (r ∷ rs))
count-on true n r rs e = refl
count-on false n r rs e = ap suc e

count-in : (ps : List Placed) → count_before ps ≡ length (first_members ps)
unfolding count_before
count-in [] = refl
count-in (p ∷ ps) = count-on (is_descriptor p) (count_before ps) p.fields (first_members ps) (count-in ps) ∙ sym (ap (λ (rs : List Record). length rs) (members-on p ps))

pub count-sets : (s : Bytes) → count_before (places_of s) ≡ length (members_at 0 (sets_of (read_of s)))
count-sets s = count-in (places_of s) ∙ sym (ap (λ (ss : List RecSet). length (members_at 0 ss)) (sets-places s))

-- The record of a number is that member of the first set, and there is none where the set has not so many.
pub record RecordFound (s : Bytes) (rs : List Record) (k : ℕ) (q : Place) : Type 0 where
  pub there : k < length rs
  pub stand : Stand s q.start q.end q.after (get_or rs k [])

abbrev pub RecordTold : Bytes → List Record → ℕ → Maybe Place → Type 0
RecordTold s rs k None = length rs ≤ k
RecordTold s rs k (Some q) = RecordFound s rs k q

record-on : (s : Bytes) (r : Record) (rs : List Record) (k : ℕ) (x : Maybe Place) → RecordTold s rs k x → RecordTold s (r ∷ rs) (suc k) x
record-on s r rs k None h = omega arith
record-on s r rs k (Some q) h = record { there = omega (arith, h.there); stand = h.stand }

record-by : (s : Bytes) (t : Bool) (p : Placed) (rs : List Record) (k : ℕ) (later : ℕ → Maybe Place) → Stand s p.start p.end p.after p.fields → ((j : ℕ) → RecordTold s rs j (later j)) → RecordTold s (pick t [] (p.fields ∷ rs)) k (record_by t k p later)
record-by s true p rs k later h ih = omega arith
record-by s false p rs zero later h ih = record { there = omega arith; stand = h }
record-by s false p rs (suc k) later h ih = record-on s p.fields rs k (later k) (ih k)

record-in : (s : Bytes) (ps : List Placed) (k : ℕ) → Stands s ps → RecordTold s (first_members ps) k (record_place ps k)
unfolding record_place
record-in s [] k h = omega arith
record-in s (p ∷ ps) k h =
    subst (λ (rs : List Record). RecordTold s rs k (record_by (is_descriptor p) k p (λ (j : ℕ). record_place ps j))) (sym (members-on p ps))
    (record-by s (is_descriptor p) p (first_members ps) k (λ (j : ℕ). record_place ps j) h.0 (λ j. record-in s ps j h.2))

pub record-member : (s : Bytes) (k : ℕ) → is_readable s ≡ true → RecordTold s (members_at 0 (sets_of (read_of s))) k (record_place (places_of s) k)
record-member s k e = subst (λ (ss : List RecSet). RecordTold s (members_at 0 ss) k (record_place (places_of s) k)) (sym (sets-places s)) (record-in s (places_of s) k (stands s e))

-- the same of an answer, once its form is known
pub record-told : (s : Bytes) (k : ℕ) (x : Maybe Place) {y : Maybe Place} → is_readable s ≡ true → x ≡ record_place (places_of s) k → x ≡ y → RecordTold s (members_at 0 (sets_of (read_of s))) k y
record-told s k x {y} e f g = subst (RecordTold s (members_at 0 (sets_of (read_of s))) k) (sym f ∙ g) (record-member s k e)

-- The records of the set of a name begin where its descriptor's block ends: they are the first set of the part from there on.
pub record SetFrom (s n : Bytes) (ss : List RecSet) (a : ℕ) : Type 0 where
  pub index : ℕ
  pub there : index_of n ss ≡ some index
  pub inside : a ≤ length s
  pub readable : is_readable (drop a s) ≡ true
  pub members : members_of n ss ≡ members_at 0 (sets_of (read_of (drop a s)))

-- The head of the set: its rules are the fields of the descriptor's own part. The default set has none, and its head an empty part.
abbrev pub head_part : Bytes → Head → Bytes
head_part s h = take (h.end - h.start) (drop h.start s)

pub record HeadFound (s n : Bytes) (ss : List RecSet) (h : Head) : Type 0 where
  pub set : SetFrom s n ss h.begin
  pub ordered : h.start ≤ h.end
  pub within : h.end ≤ h.begin
  pub own-readable : is_readable (head_part s h) ≡ true
  pub rules : (set_at set.index ss).rules ≡ record_in (head_part s h)

abbrev pub HeadTold : Bytes → Bytes → List RecSet → Maybe Head → Type 0
HeadTold s n ss None = index_of n ss ≡ none
HeadTold s n ss (Some h) = HeadFound s n ss h

-- a set of another name in front
pub other-index : (n : Bytes) (d : RecSet) (ds : List RecSet) → same n d.name ≡ false → index_of n (d ∷ ds) ≡ step_on (index_of n ds)
other-index n d ds e = ap (λ (b : Bool). index_by b (index_of n ds)) e

members_step : (d : RecSet) (ds : List RecSet) (x : Option ℕ) → members_in (d ∷ ds) (step_on x) ≡ members_in ds x
members_step d ds none = refl
members_step d ds (some i) = refl

set_on : (s n : Bytes) (d : RecSet) (ds : List RecSet) (a : ℕ) → same n d.name ≡ false → SetFrom s n ds a → SetFrom s n (d ∷ ds) a
set_on s n d ds a e h =
    record {
      index = suc h.index;
      there = other-index n d ds e ∙ ap step_on h.there;
      inside = h.inside;
      readable = h.readable;
      members = ap (members_in (d ∷ ds)) (other-index n d ds e) ∙ members_step d ds (index_of n ds) ∙ h.members;
    }

head-on : (s n : Bytes) (d : RecSet) (ds : List RecSet) (x : Maybe Head) → same n d.name ≡ false → HeadTold s n ds x → HeadTold s n (d ∷ ds) x
unfolding set_on
head-on s n d ds None e h = other-index n d ds e ∙ ap step_on h
head-on s n d ds (Some q) e h = record { set = set_on s n d ds q.begin e h.set; ordered = h.ordered; within = h.within; own-readable = h.own-readable; rules = h.rules }

-- the sets but the default one, by the next record
abbrev pub others : List RecSet → List RecSet
others [] = []
others (s ∷ ss) = ss

abbrev pub others_by : List Bytes → Record → List RecSet → List RecSet
others_by [] r ss = others ss
others_by (v ∷ vs) r ss = record { name = first_word v; rules = r; members = members_at 0 ss } ∷ others ss

pub others-enter : (vs : List Bytes) (r : Record) (ss : List RecSet) → others (enters vs r ss) ≡ others_by vs r ss
others-enter [] r [] = refl
others-enter [] r (s ∷ ss) = refl
others-enter (v ∷ vs) r [] = refl
others-enter (v ∷ vs) r (s ∷ ss) = refl

module _ (s n : Bytes) where
  -- a descriptor stands where it says
  abbrev Own : Placed → Type 0
  Own p = Stand s p.start p.end p.after p.fields

  named_by : (t : Bool) (p : Placed) (d : RecSet) (ds : List RecSet) (x : Maybe Head) → same n d.name ≡ t → Own p → d.rules ≡ p.fields → d.members ≡ members_at 0 (sets_of (read_of (drop p.after s))) → HeadTold s n ds x → HeadTold s n (d ∷ ds) (pick t (Some (head_of p)) x)
  named_by true p d ds x e o r m ih =
      let f : index_of n (d ∷ ds) ≡ some 0 = ap (λ (b : Bool). index_by b (index_of n ds)) e in
      record {
        set = record { index = 0; there = f; inside = o.inside; readable = o.readable; members = ap (members_in (d ∷ ds)) f ∙ m };
        ordered = omega (arith, o.filled);
        within = o.within;
        own-readable = reads-readable o.own-reads;
        rules = r ∙ sym o.own-fields ∙ ap fields_of (sym (reads_of o.own-reads));
      }
  named_by false p d ds x e o r m ih = head-on s n d ds x e ih

  others_by_lem : (vs : List Bytes) (p : Placed) (ss : List RecSet) (x : Maybe Head) → Own p → members_at 0 ss ≡ members_at 0 (sets_of (read_of (drop p.after s))) → HeadTold s n (others ss) x → HeadTold s n (others_by vs p.fields ss) (pick (names_set n vs) (Some (head_of p)) x)
  others_by_lem [] p ss x o m ih = ih
  others_by_lem (v ∷ vs) p ss x o m ih = named_by (same n (first_word v)) p (record { name = first_word v; rules = p.fields; members = members_at 0 ss }) (others ss) x refl o refl m ih

  others-in : (ps : List Placed) → Stands s ps → HeadTold s n (others (sets (fields_in ps))) (descriptor_head n ps)
  others-in [] h = refl
  others-in (p ∷ ps) h =
      let vs : List Bytes = values_of (text "%rec") p.fields in
      let ss : List RecSet = sets (fields_in ps) in
      let m : members_at 0 ss ≡ members_at 0 (sets_of (read_of (drop p.after s))) = ap (λ (xs : List Placed). first_members xs) h.1 ∙ ap (members_at 0) (sets-at s p.after) in
      subst (λ (ds : List RecSet). HeadTold s n ds (descriptor_head n (p ∷ ps))) (sym (others-enter vs p.fields ss))
      (others_by_lem vs p ss (descriptor_head n ps) h.0 m (others-in ps h.2))

  named_in : (ss : List RecSet) (x : Maybe Head) → GoodSets ss → same n [] ≡ false → HeadTold s n (others ss) x → HeadTold s n ss x
  named_in [] x g e h = absurd g
  named_in (d ∷ ds) x g e h = head-on s n d ds x (ap (same n) g.0 ∙ e) h

default-in : (s : Bytes) (ss : List RecSet) → GoodSets ss → is_readable s ≡ true → ss ≡ sets_of (read_of s) → HeadFound s [] ss (record { start = 0; end = 0; begin = 0 })
unfolding pieces read_of is_readable
default-in s [] g r e = absurd g
default-in s (d ∷ ds) g r e =
    let f : index_of [] (d ∷ ds) ≡ some 0 = ap (λ (m : Bytes). index_by (same [] m) (index_of [] ds)) g.0 in
    record {
      set = record { index = 0; there = f; inside = omega arith; readable = r; members = ap (members_in (d ∷ ds)) f ∙ ap (members_at 0) e };
      ordered = omega arith;
      within = omega arith;
      own-readable = refl;
      rules = g.1;
    }

head_in : (s n : Bytes) → is_readable s ≡ true → HeadTold s n (sets (fields_in (places_of s))) (head_place n (places_of s))
head_in s [] e =
    let ss : List RecSet = sets (fields_in (places_of s)) in
    subst (HeadTold s [] ss) (sym (head-default [] (places_of s) refl)) (default-in s ss (good-sets (fields_in (places_of s))) e (sym (sets-places s)))
head_in s (c ∷ n) e =
    let m : Bytes = c ∷ n in
    let ss : List RecSet = sets (fields_in (places_of s)) in
    subst (HeadTold s m ss) (sym (head-named m (places_of s) (λ q. omega arith)))
    (named_in s m ss (descriptor_head m (places_of s)) (good-sets (fields_in (places_of s))) refl (others-in s m (places_of s) (stands s e)))

pub head-members : (s n : Bytes) → is_readable s ≡ true → HeadTold s n (sets_of (read_of s)) (head_place n (places_of s))
head-members s n e = subst (λ (ss : List RecSet). HeadTold s n ss (head_place n (places_of s))) (sym (sets-places s)) (head_in s n e)

-- the same of an answer, once its form is known
pub head-told : (s n : Bytes) (x : Maybe Head) {y : Maybe Head} → is_readable s ≡ true → x ≡ head_place n (places_of s) → x ≡ y → HeadTold s n (sets_of (read_of s)) y
head-told s n x {y} e f g = subst (HeadTold s n (sets_of (read_of s))) (sym f ∙ g) (head-members s n e)
