-- How a walk by `next_record` cuts the records of a readable part: none is left, or the record met stands in front of those of the part behind its block.
use Prim.Native.Nat.{ℕ, ◌+◌, ◌-◌}
use native.Mathlib.Omega.{arith}
use mathlib.Core.Path.{◌≡◌, refl, sym, ap, ◌∙◌}
use mathlib.Core.Bool.{Bool, true, false}
use mathlib.Core.List.{List, [], ◌∷◌, ◌++◌}
use lib.ListN.{length, take, drop}
use Rattle.format.proofs.Records.{close, records_in, records}
use Rattle.format.specs.Lists.{flat, onto}
use Rattle.format.specs.Bytes.{Bytes, pick}
use Rattle.format.specs.Pieces.{Piece, read_of}
use Rattle.format.specs.Records.{Record, Block, blocks, count_of, fields_of}
use Rattle.format.proofs.Walking.{is_head, heads, before}
use Rattle.records.specs.Places.{Placed, places_of}
use Rattle.records.specs.Walk.{record_in}
use Rattle.records.specs.declared.Place.{Place}
use Rattle.records.proofs.Walks.{places-records}
use Rattle.records.proofs.Shifts.{fields_in, raise-fields}
use Rattle.records.proofs.Readings.{reads_of, places-read}
use Rattle.records.proofs.Searches.{places_at, Met}

-- the records from a byte on, and the part and the fields of the record at a place that was found there
abbrev pub records_from : Bytes → ℕ → List Record
records_from s i = records (read_of (drop i s))

abbrev pub part_at : Bytes → ℕ → Place → Bytes
part_at s i q = take ((i + q.end) - (i + q.start)) (drop (i + q.start) s)

abbrev pub record_at : Bytes → ℕ → Place → Record
record_at s i q = record_in (part_at s i q)

records-places : (s : Bytes) (i : ℕ) → records_from s i ≡ fields_in (places_at s i)
records-places s i =
    let t : Bytes = drop i s in
    sym (raise-fields i (places_of t) ∙ ap (λ (ps : List Placed). fields_in ps) (places-read t) ∙ places-records 0 (read_of t))

-- the fields of a part are those of its records
close-join : (r : Record) (rs : List Record) → flat (close r rs) ≡ r ++ flat rs
close-join [] rs = refl
close-join (f ∷ fs) rs = refl

onto-join : (p : Piece) (bs : List Block) → flat (records_in (onto p bs)) ≡ fields_of (p ∷ []) ++ flat (records_in bs)
onto-join (Piece.blank l) [] = refl
onto-join (Piece.comment l) [] = refl
onto-join (Piece.field n v ls) [] = refl
onto-join (Piece.blank l) (b ∷ bs) = refl
onto-join (Piece.comment l) (b ∷ bs) = refl
onto-join (Piece.field n v ls) (b ∷ bs) = ap {B = Record} (λ r. record { name = n; value = v; count = count_of ls } ∷ r) (sym (close-join (fields_of b) (records_in bs)))

fields_join : (ps : List Piece) → fields_of ps ≡ flat (records_in (blocks ps))
fields_join [] = refl
fields_join (Piece.blank l ∷ ps) = fields_join ps ∙ sym (onto-join (Piece.blank l) (blocks ps))
fields_join (Piece.comment l ∷ ps) = fields_join ps ∙ sym (onto-join (Piece.comment l) (blocks ps))
fields_join (Piece.field n v ls ∷ ps) = ap {B = Record} (λ r. record { name = n; value = v; count = count_of ls } ∷ r) (fields_join ps) ∙ sym (onto-join (Piece.field n v ls) (blocks ps))

pub fields-records : (ps : List Piece) → fields_of ps ≡ flat (records ps)
unfolding records
fields-records ps = fields_join ps

-- the end of a walk
module _ (s : Bytes) (i : ℕ) (e : places_at s i ≡ []) where
  pub records-none : records_from s i ≡ []
  records-none = records-places s i ∙ ap (λ (ps : List Placed). fields_in ps) e

  pub members-end : before (records_from s i) ≡ []
  members-end = ap before records-none

-- one more record, which may be a descriptor
pub head-one : (b : Bool) (r : Record) (hs : List Record) → length (pick b (r ∷ hs) hs) ≡ pick b 1 0 + length hs
head-one true r hs = omega arith
head-one false r hs = omega arith

module _ (s : Bytes) (i : ℕ) (q : Place) (m : Met s i q) where
  -- its part has its fields
  pub part-fields : record_at s i q ≡ m.here.fields
  part-fields = ap fields_of (reads_of m.stand.own-reads) ∙ m.stand.own-fields

  records-on : records_from s i ≡ m.here.fields ∷ records_from s (i + q.after)
  records-on =
      records-places s i ∙ ap (λ (ps : List Placed). fields_in ps) m.places
      ∙ ap {B = List Record} (λ rs. m.here.fields ∷ rs) (sym (records-places s (i + q.after)))

  pub records-met : records_from s i ≡ record_at s i q ∷ records_from s (i + q.after)
  records-met = records-on ∙ ap {B = List Record} (λ r. r ∷ records_from s (i + q.after)) (sym part-fields)

  -- it is a descriptor where the place says so
  head-here : is_head m.here.fields ≡ q.descriptor
  head-here = ap (λ (x : Place). x.descriptor) m.is

  pub head-met : is_head (record_at s i q) ≡ q.descriptor
  head-met = ap is_head part-fields ∙ head-here

  -- and counts as one
  pub heads-met : length (heads (records_from s i)) ≡ pick q.descriptor 1 0 + length (heads (records_from s (i + q.after)))
  heads-met =
      ap (λ (rs : List Record). length (heads rs)) records-met
      ∙ head-one (is_head (record_at s i q)) (record_at s i q) (heads (records_from s (i + q.after)))
      ∙ ap (λ (b : Bool). pick b 1 0 + length (heads (records_from s (i + q.after)))) head-met
