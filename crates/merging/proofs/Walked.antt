-- A walk over the records of a part: the first one and those behind it; and the records of a spare as a walk meets them.
use Rattle.std.specs.Prelude.{Option, Some, None}
use Prim.Native.Nat.{ℕ, ◌+◌, ◌-◌, ◌≤◌, ◌<◌}
use native.Mathlib.Nat.{zero-add}
use native.Mathlib.Omega.{arith}
use mathlib.Core.Path.{◌≡◌, refl, sym, ap, ◌∙◌, subst}
use mathlib.Core.Bool.{Bool, true, false, ◌&&◌, not, ◌||◌}
use mathlib.Core.List.{List, [], ◌∷◌}
use lib.ListN.{length, take, drop}
use Rattle.format.specs.Bytes.{Bytes, pick, all, is_some}
use Rattle.format.specs.Pieces.{Piece, read_of}
use Rattle.format.specs.Records.{Record}
use Rattle.format.specs.Sets.{RecSet, sets_of}
use Rattle.format.specs.Plain.{index_of}
use Rattle.format.proofs.Records.{records, sets-records}
use Rattle.format.proofs.Walking.{is_head, head_name, before, head_set, head_sets, sets-heads}
use Rattle.words.specs.Spans.{span}
use Rattle.records.specs.Places.{is_readable, places_of, first_place}
use Rattle.records.specs.Walk.{record_in}
use Rattle.records.specs.declared.Place.{Place}
use Rattle.records.proofs.Readings.{reads-readable}
use Rattle.records.proofs.Searches.{Meets, Met, meets-first}
use Rattle.records.proofs.Cuts.{records-none, records-met, head-met}
use Rattle.merging.specs.Merging.{SpareRecord, records_of, has_sets}
use Rattle.merging.specs.Appending.{spare_record, walked_from}

-- the first record of a part stands at q
pub record FirstRecord (s : Bytes) (q : Place) : Type 0 where
  pub filled : q.start < q.end
  pub within : q.end ≤ q.after
  pub inside : q.after ≤ length s
  pub readable : is_readable (drop q.after s) ≡ true
  pub own-readable : is_readable (span q.start q.end s) ≡ true
  pub cut : records (read_of s) ≡ record_in (span q.start q.end s) ∷ records (read_of (drop q.after s))
  pub head : is_head (record_in (span q.start q.end s)) ≡ q.descriptor

module _ (s : Bytes) (r : is_readable s ≡ true) where
  met : (x : Option Place) {y : Option Place} → x ≡ first_place (places_of s) → x ≡ y → Meets s 0 y
  met x e f = subst (Meets s 0) (sym e ∙ f) (meets-first s 0 (omega arith) r)

  pub first-none : (x : Option Place) → x ≡ first_place (places_of s) → x ≡ None → records (read_of s) ≡ []
  first-none x e f = records-none s 0 (met x e f)

  pub first-record : (x : Option Place) (q : Place) → x ≡ first_place (places_of s) → x ≡ Some q → FirstRecord s q
  first-record x q e f =
      let m : Met s 0 q = met x e f in
      let part : take ((0 + q.end) - (0 + q.start)) (drop (0 + q.start) s) ≡ span q.start q.end s = λ i. take (zero-add q.end i - zero-add q.start i) (drop (zero-add q.start i) s) in
      record {
        filled = omega (arith, m.stand.filled);
        within = omega (arith, m.stand.within);
        inside = omega (arith, m.stand.inside);
        readable = subst (λ (k : ℕ). is_readable (drop k s) ≡ true) (zero-add q.after) m.stand.readable;
        own-readable = subst (λ (t : Bytes). is_readable t ≡ true) part (reads-readable m.stand.own-reads);
        cut = records-met s 0 q m ∙ (λ i. record_in (part i) ∷ records (read_of (drop (zero-add q.after i) s)));
        head = ap (λ (t : Bytes). is_head (record_in t)) (sym part) ∙ head-met s 0 q m;
      }

-- the records of a spare, by its sets and as a walk meets them

walked_by : (n : Bytes) (d : Record) (rs : List Record) → records_of (record { name = n; rules = d; members = before rs } ∷ head_sets rs) ≡ walked_from n rs
walked_by n d [] = refl
walked_by n d (r ∷ rs) = go (is_head r) (λ m e. walked_by m e rs)
  where
    go : (t : Bool) → ((m : Bytes) (e : Record) → records_of (record { name = m; rules = e; members = before rs } ∷ head_sets rs) ≡ walked_from m rs) → records_of (record { name = n; rules = d; members = pick t [] (r ∷ before rs) } ∷ pick t (head_set r rs ∷ head_sets rs) (head_sets rs)) ≡ pick t (walked_from (head_name r) rs) (spare_record n r ∷ walked_from n rs)
    go true ih = ih (head_name r) r
    go false ih = ap {B = List SpareRecord} (λ xs. spare_record n r ∷ xs) (ih n d)

pub walked-records : (ps : List Piece) → records_of (sets_of ps) ≡ walked_from [] (records ps)
walked-records ps = ap records_of (sets-records ps ∙ sets-heads (records ps)) ∙ walked_by [] [] (records ps)

-- 36: the sets of a spare, by its descriptors, where the main file has the default set, as every file has

abbrev pub heads_in : List RecSet → List Record → Bool
heads_in main rs = all (λ (r : Record). not (is_head r) || is_some (index_of (head_name r) main)) rs

heads-by : (main : List RecSet) (rs : List Record) → has_sets main (head_sets rs) ≡ heads_in main rs
heads-by main [] = refl
heads-by main (r ∷ rs) = go (is_head r) (heads-by main rs)
  where
    go : (t : Bool) → has_sets main (head_sets rs) ≡ heads_in main rs → has_sets main (pick t (head_set r rs ∷ head_sets rs) (head_sets rs)) ≡ ((not t || is_some (index_of (head_name r) main)) && heads_in main rs)
    go true e = ap (λ (b : Bool). is_some (index_of (head_name r) main) && b) e
    go false e = e

default-there : (ps : List Piece) → is_some (index_of [] (sets_of ps)) ≡ true
default-there ps = ap (λ (ss : List RecSet). is_some (index_of [] ss)) (sets-records ps ∙ sets-heads (records ps))

pub walked-sets : (ps qs : List Piece) → has_sets (sets_of ps) (sets_of qs) ≡ heads_in (sets_of ps) (records qs)
walked-sets ps qs =
    ap (has_sets (sets_of ps)) (sets-records qs ∙ sets-heads (records qs))
    ∙ (λ i. default-there ps i && heads-by (sets_of ps) (records qs) i)
