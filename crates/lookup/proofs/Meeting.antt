-- What the searches for a set, a record and a field found, and where it stands in the text.
use Rattle.std.specs.Prelude.{Some, None}
use Prim.Native.Nat.{ℕ, ◌+◌, ◌-◌, ◌≤◌}
use native.Mathlib.Omega.{arith}
use mathlib.Core.Path.{◌≡◌, refl, sym, ap, ◌∙◌}
use mathlib.Core.Bool.{true}
use mathlib.Core.List.{[]}
use lib.ListN.{length, take, drop, length-take, length-drop}
use Rattle.format.specs.Bytes.{Bytes}
use Rattle.format.specs.Pieces.{read_of}
use Rattle.format.specs.Records.{fields_of}
use Rattle.format.specs.Sets.{values_of, sets_of}
use Rattle.format.specs.Plain.{members_at}
use Rattle.lines.proofs.Cuts.{rest}
use Rattle.records.specs.Places.{is_readable, places_of, head_place, record_place, field_place}
use Rattle.records.specs.declared.Place.{Place}
use Rattle.records.specs.declared.Head.{Head}
use Rattle.records.specs.declared.ValuePlace.{ValuePlace}
use Rattle.records.proofs.Members.{head-told, record-told, HeadFound, RecordFound}
use Rattle.records.proofs.Fields.{field_told, FieldFound}
use Rattle.lookup.specs.Answers.{sets_from}
use Rattle.lookup.proofs.Looking.{span-part, record-readable}

-- the record's part of the text
abbrev pub part : Bytes → Head → Place → Bytes
part s h q = take ((h.begin + q.end) - (h.begin + q.start)) (drop (h.begin + q.start) s)

-- the set and the record
pub record Met (s n : Bytes) (row : ℕ) (h : Head) (q : Place) : Type 0 where
  pub head : HeadFound s n (sets_from s) h
  pub found : RecordFound (drop h.begin s) (members_at 0 (sets_of (read_of (drop h.begin s)))) row q
  pub at : record_place (places_of (drop h.begin s)) row ≡ Some q
  pub ordered : q.start ≤ q.end
  pub inside : h.begin + q.end ≤ length s

pub met : (s n : Bytes) (row : ℕ) → is_readable s ≡ true → (h : Head) → Some h ≡ head_place n (places_of s) → (q : Place) → Some q ≡ record_place (places_of (take (length s - h.begin) (drop h.begin s))) row → Met s n row h q
met s n row e h f q g =
    let t = head-told s n (Some h) e f refl in
    let x = g ∙ ap (λ (y : Bytes). record_place (places_of y) row) (rest s h.begin) in
    let r = record-told (drop h.begin s) row (Some q) t.set.readable x refl in
    record { head = t; found = r; at = sym x; ordered = omega (arith, r.stand.filled); inside = omega (arith, t.set.inside, r.stand.within, r.stand.inside, length-drop h.begin s) }

-- the field
pub record FieldMet (s : Bytes) (h : Head) (q : Place) (m : Bytes) (o : ℕ) (v : ValuePlace) : Type 0 where
  pub found : FieldFound (part s h q) (values_of m (fields_of (read_of (part s h q)))) o v.start v.value v.end
  pub ordered : v.value ≤ v.end
  pub inside : h.begin + q.start + v.end ≤ length s
  pub bytes : take ((h.begin + q.start + v.end) - (h.begin + q.start + v.value)) (drop (h.begin + q.start + v.value) s) ≡ take (v.end - v.value) (drop v.value (part s h q))

module _ (s n : Bytes) (row : ℕ) (h : Head) (q : Place) (w : Met s n row h q) (m : Bytes) (o : ℕ) where
  pub part-reads : is_readable (part s h q) ≡ true
  part-reads = record-readable s n row m o [] h w.head q w.found

  pub field-missed : None ≡ field_place m (part s h q) o → length (values_of m (fields_of (read_of (part s h q)))) ≤ o
  field-missed e = field_told m (part s h q) o None part-reads e refl

  pub field-met : (v : ValuePlace) → Some v ≡ field_place m (part s h q) o → FieldMet s h q m o v
  field-met v e =
      let k = field_told m (part s h q) o (Some v) part-reads e refl in
      let l : length (part s h q) ≤ q.end - q.start = omega (arith, length-take ((h.begin + q.end) - (h.begin + q.start)) (drop (h.begin + q.start) s)) in
      record {
        found = k;
        ordered = k.within;
        inside = omega (arith, w.ordered, w.inside, k.inside, l);
        bytes = sym (span-part (h.begin + q.start) (h.begin + q.end) v.value v.end s k.within (omega (arith, w.ordered, k.inside, l)));
      }
