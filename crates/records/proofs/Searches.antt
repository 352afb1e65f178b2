-- Searches among the records of a readable part, record by record.
use Rattle.std.specs.Prelude.{Option, Some, None}
use Prim.Native.Nat.{ℕ, suc, ◌+◌, ◌-◌, ◌≤◌, ◌<◌}
use native.Mathlib.Omega.{arith}
use mathlib.Core.Path.{◌≡◌, refl, sym, ap, ◌∙◌, subst}
use mathlib.Core.Bool.{Bool, true, false, false≢true}
use mathlib.Core.List.{List, [], ◌∷◌, map}
use lib.ListN.{length, take, drop, length-drop}
use lib.Seq.{drop-drop}
use Rattle.format.specs.Lists.{is_filled}
use Rattle.format.specs.Bytes.{Bytes, text, pick}
use Rattle.format.specs.Pieces.{Piece}
use Rattle.format.specs.Records.{Record, fields_of}
use Rattle.format.specs.Sets.{values_of}
use Rattle.lines.proofs.Cuts.{rest}
use Rattle.records.specs.Places.{is_readable, Placed, places_of, is_descriptor, place_of, first_place, names_set, descriptor_head, head_place, record_by, record_place, count_before}
use Rattle.records.specs.Walk.{opens_set}
use Rattle.records.specs.declared.Place.{Place}
use Rattle.records.specs.declared.Head.{Head}
use Rattle.records.proofs.Shifts.{raise, raise-none, raise-twice}
use Rattle.records.proofs.Readings.{Reads, reads_of}
use Rattle.records.proofs.FirstPlaces.{First, first-place}

-- the set of no name is the default set, and stands first
pub head-default : (n : Bytes) (ps : List Placed) → length n ≡ 0 → head_place n ps ≡ Some (record { start = 0; end = 0; begin = 0 })
unfolding head_place
head-default [] ps e = refl
head-default (c ∷ n) ps e = absurd (omega arith)

pub head-named : (n : Bytes) (ps : List Placed) → (length n ≡ 0 → ⊥) → head_place n ps ≡ descriptor_head n ps
unfolding head_place
head-named [] ps h = absurd (h refl)
head-named (c ∷ n) ps h = refl

-- a descriptor at q in the part from byte i on
abbrev pub head_at : ℕ → Place → Head
head_at i q = record { start = i + q.start; end = i + q.end; begin = i + q.after }

-- the places of the part from byte i on, as places of the whole
abbrev pub places_at : Bytes → ℕ → List Placed
places_at s i = map (raise i) (places_of (drop i s))

pub places-all : (s : Bytes) → places_of s ≡ places_at s 0
places-all s = sym (raise-none (places_of s))

-- what is known of a record's place: its own part reads as its fields, and the part behind its block is readable
pub record Stand (s : Bytes) (start end after : ℕ) (fields : Record) : Type 0 where
  pub filled : start < end
  pub within : end ≤ after
  pub inside : after ≤ length s
  pub own : List Piece
  pub own-reads : Reads (take (end - start) (drop start s)) own
  pub own-fields : fields_of own ≡ fields
  pub readable : is_readable (drop after s) ≡ true

-- a place q, found from byte i on
pub record Met (s : Bytes) (i : ℕ) (q : Place) : Type 0 where
  pub here : Placed
  pub is : place_of here ≡ q
  pub places : places_at s i ≡ raise i here ∷ places_at s (i + q.after)
  pub stand : Stand s (i + q.start) (i + q.end) (i + q.after) here.fields

abbrev pub Meets : Bytes → ℕ → Option Place → Type 0
Meets s i None = places_at s i ≡ []
Meets s i (Some q) = Met s i q

meets-by : (s : Bytes) (i : ℕ) → i ≤ length s → (xs : List Placed) → places_of (drop i s) ≡ xs → First (drop i s) xs → Meets s i (first_place xs)
meets-by s i h [] e f = ap (map (raise i)) e
meets-by s i h (p ∷ ps) e f =
    let a : ℕ = p.after in
    let d : drop a (drop i s) ≡ drop (i + a) s = drop-drop a i s in
    let n : p.end - p.start ≡ (i + p.end) - (i + p.start) = omega arith in
    record {
      here = p;
      is = refl;
      places = ap (map (raise i)) (e ∙ ap {B = List Placed} (λ xs. p ∷ xs) f.behind) ∙ ap {B = List Placed} (λ xs. raise i p ∷ xs) (raise-twice i a (places_of (drop a (drop i s))) ∙ ap (λ (x : Bytes). map (raise (i + a)) (places_of x)) d);
      stand = record {
        filled = omega (arith, f.filled);
        within = omega (arith, f.within);
        inside = omega (arith, f.inside, length-drop i s);
        own = f.own;
        own-reads = subst (λ (x : Bytes). Reads x f.own) (ap (λ (m : ℕ). take m (drop p.start (drop i s))) n ∙ ap (take ((i + p.end) - (i + p.start))) (drop-drop p.start i s)) f.own-reads;
        own-fields = f.own-fields;
        readable = subst (λ (x : Bytes). is_readable x ≡ true) d f.readable;
      };
    }

pub meets-first : (s : Bytes) (i : ℕ) → i ≤ length s → is_readable (drop i s) ≡ true → Meets s i (first_place (places_of (drop i s)))
meets-first s i h e = meets-by s i h (places_of (drop i s)) refl (first-place (drop i s) e)

-- what an answer about the part from byte i on says, once its form is known
pub meets : (s : Bytes) (i : ℕ) (x : Option Place) {y : Option Place} → i ≤ length s → is_readable (drop i s) ≡ true → x ≡ first_place (places_of (take (length s - i) (drop i s))) → x ≡ y → Meets s i y
meets s i x {y} h e f g =
    subst (Meets s i) (ap (λ (t : Bytes). first_place (places_of t)) (sym (rest s i)) ∙ sym f ∙ g) (meets-first s i h e)

module _ (s : Bytes) (i : ℕ) where
  pub count-end : places_at s i ≡ [] → count_before (places_at s i) ≡ 0
  unfolding count_before
  count-end e = ap count_before e

  pub record-end : (k : ℕ) → places_at s i ≡ [] → record_place (places_at s i) k ≡ None
  unfolding record_place
  record-end k e = ap (λ (ps : List Placed). record_place ps k) e

  pub head-end : (n : Bytes) → places_at s i ≡ [] → descriptor_head n (places_at s i) ≡ None
  head-end n e = ap (descriptor_head n) e

  module _ (q : Place) (m : Met s i q) where
    later : List Placed
    later = places_at s (i + q.after)

    described : is_descriptor m.here ≡ q.descriptor
    described = ap (λ (x : Place). x.descriptor) m.is

    count-on : count_before (places_at s i) ≡ pick q.descriptor 0 (suc (count_before later))
    unfolding count_before later
    count-on = ap count_before m.places ∙ ap (λ (b : Bool). pick b 0 (suc (count_before (places_at s (i + q.after))))) described

    pub count-stops : q.descriptor ≡ true → count_before (places_at s i) ≡ 0
    count-stops d = count-on ∙ ap (λ (b : Bool). pick b 0 (suc (count_before later))) d

    pub count-more : q.descriptor ≡ false → count_before (places_at s i) ≡ suc (count_before (places_at s (i + q.after)))
    unfolding later
    count-more d = count-on ∙ ap (λ (b : Bool). pick b 0 (suc (count_before later))) d

    record-on : (k : ℕ) → record_place (places_at s i) k ≡ record_by q.descriptor k (raise i m.here) (λ (j : ℕ). record_place later j)
    unfolding record_place later
    record-on k = ap (λ (ps : List Placed). record_place ps k) m.places ∙ ap (λ (b : Bool). record_by b k (raise i m.here) (λ (j : ℕ). record_place (places_at s (i + q.after)) j)) described

    pub record-stops : (k : ℕ) → q.descriptor ≡ true → record_place (places_at s i) k ≡ None
    record-stops k d = record-on k ∙ ap (λ (b : Bool). record_by b k (raise i m.here) (λ (j : ℕ). record_place later j)) d

    pub record-here : (k : ℕ) → q.descriptor ≡ false → k ≡ 0 → record_place (places_at s i) k ≡ Some (record { start = i + q.start; end = i + q.end; after = i + q.after; descriptor = false })
    record-here k d z =
        record-on k ∙ ap (λ (b : Bool). record_by b k (raise i m.here) (λ (j : ℕ). record_place later j)) d
        ∙ ap (λ (n : ℕ). record_by false n (raise i m.here) (λ (j : ℕ). record_place later j)) z
        ∙ (λ t. Some (record { start = i + (m.is t).start; end = i + (m.is t).end; after = i + (m.is t).after; descriptor = (described ∙ d) t }))

    pub record-later : (k j : ℕ) → q.descriptor ≡ false → k ≡ suc j → record_place (places_at s i) k ≡ record_place (places_at s (i + q.after)) j
    unfolding later
    record-later k j d z =
        record-on k ∙ ap (λ (b : Bool). record_by b k (raise i m.here) (λ (n : ℕ). record_place later n)) d
        ∙ ap (λ (n : ℕ). record_by false n (raise i m.here) (λ (x : ℕ). record_place later x)) z

    head-on : (n : Bytes) → descriptor_head n (places_at s i) ≡ pick (names_set n (values_of (text "%rec") m.here.fields)) (Some (head_at i q)) (descriptor_head n later)
    unfolding later
    head-on n =
        ap (descriptor_head n) m.places
        ∙ ap (λ (x : Place). pick (names_set n (values_of (text "%rec") m.here.fields)) (Some (head_at i x)) (descriptor_head n (places_at s (i + q.after)))) m.is

    -- a record that is no descriptor names no set
    no_name : (n : Bytes) (vs : List Bytes) → is_filled vs ≡ false → names_set n vs ≡ false
    no_name n [] e = refl
    no_name n (v ∷ vs) e = absurd (false≢true (sym e))

    pub head-member : (n : Bytes) → q.descriptor ≡ false → descriptor_head n (places_at s i) ≡ descriptor_head n (places_at s (i + q.after))
    unfolding later
    head-member n d = head-on n ∙ ap (λ (b : Bool). pick b (Some (head_at i q)) (descriptor_head n later)) (no_name n (values_of (text "%rec") m.here.fields) (described ∙ d))

    -- the descriptor's own part tells which set it opens
    opened : (n : Bytes) → opens_set n (take ((i + q.end) - (i + q.start)) (drop (i + q.start) s)) ≡ names_set n (values_of (text "%rec") m.here.fields)
    unfolding opens_set
    opened n = ap (λ (ps : List Piece). names_set n (values_of (text "%rec") (fields_of ps))) (reads_of m.stand.own-reads) ∙ ap (λ r. names_set n (values_of (text "%rec") r)) m.stand.own-fields

    pub head-here : (n : Bytes) (t : Bool) → t ≡ opens_set n (take ((i + q.end) - (i + q.start)) (drop (i + q.start) s)) → t ≡ true → descriptor_head n (places_at s i) ≡ Some (head_at i q)
    head-here n t e d = head-on n ∙ ap (λ (b : Bool). pick b (Some (head_at i q)) (descriptor_head n later)) (sym (opened n) ∙ sym e ∙ d)

    pub head-other : (n : Bytes) (t : Bool) → t ≡ opens_set n (take ((i + q.end) - (i + q.start)) (drop (i + q.start) s)) → t ≡ false → descriptor_head n (places_at s i) ≡ descriptor_head n (places_at s (i + q.after))
    unfolding later
    head-other n t e d = head-on n ∙ ap (λ (b : Bool). pick b (Some (head_at i q)) (descriptor_head n later)) (sym (opened n) ∙ sym e ∙ d)
