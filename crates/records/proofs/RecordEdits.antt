-- What an edit of a record that the searches find does to the bytes.
use Rattle.std.specs.Prelude.{Some}
use Prim.Native.Nat.{ℕ, ◌+◌, ◌-◌, ◌<◌}
use mathlib.Core.Path.{◌≡◌, refl, sym, ap, ◌∙◌, subst}
use mathlib.Core.Bool.{true}
use mathlib.Core.List.{[]}
use mathlib.Core.Option.{some, some-injective}
use lib.ListN.{length, take, drop}
use Rattle.format.proofs.Ordinals.{ordinal, on-ordinal}
use Rattle.format.specs.Bytes.{Bytes}
use Rattle.format.specs.Pieces.{bytes_of, read_of}
use Rattle.format.specs.Records.{Record}
use Rattle.format.specs.Sets.{sets_of}
use Rattle.format.specs.Written.{Pair, written}
use Rattle.format.specs.Edits.{Change, Act, Edit, edit_pieces}
use Rattle.format.specs.Plain.{index_of}
use Rattle.format.proofs.Splices.{spliced}
use Rattle.records.specs.Places.{is_readable, Placed, places_of, head_place, record_place, field_place}
use Rattle.records.specs.declared.Place.{Place}
use Rattle.records.specs.declared.Head.{Head}
use Rattle.records.proofs.Walks.{placed-path}
use Rattle.records.proofs.Readings.{readable-reads}
use Rattle.records.proofs.Views.{located, row-there}
use Rattle.records.proofs.Splicing.{Cut, cut, acted, add-bytes, delete-bytes, value-bytes, dropped-bytes, name-within, name-bytes}
use Rattle.records.proofs.Unfielding.{left_of}

-- the own part of a record that is found at q from byte a on
abbrev pub own_part : Bytes → ℕ → Place → Bytes
own_part s a q = take ((a + q.end) - (a + q.start)) (drop (a + q.start) s)

-- an act on record `row` of set i
abbrev pub acted_on : Bytes → ℕ → ℕ → Act → Bytes
acted_on s i row a = bytes_of (edit_pieces i (Edit.on row a) (read_of s))

-- Record `row` of set i, found at q from where the set of a head begins.
module _ (s set : Bytes) (head : Head) (row i : ℕ) (q : Place) (e : is_readable s ≡ true) (f : head_place set (places_of s) ≡ Some head) (g : record_place (places_of (drop head.begin s)) row ≡ Some q) (d : index_of set (sets_of (read_of s)) ≡ some i) where
  abbrev number : ℕ
  number = ordinal (sets_of (read_of s)) i row

  abbrev here : ℕ → Record → Placed
  here after fields = record { start = head.begin + q.start; end = head.begin + q.end; after = after; fields = fields }

  found-cut : (y : ℕ) × (r : Record) × Cut (read_of s) number (here y r)
  found-cut =
      let l = located s set head row q e f g in
      let p : Placed = l.place in
      let w : p ≡ here p.after p.fields = placed-path p (here p.after p.fields) l.starts l.ends refl refl in
      let n : ordinal (sets_of (read_of s)) l.index row ≡ number = ap (λ (j : ℕ). ordinal (sets_of (read_of s)) j row) (some-injective l.index i (sym l.set ∙ d)) in
      (p.after, p.fields, subst (λ (k : ℕ). Cut (read_of s) k (here p.after p.fields)) n (subst (Cut (read_of s) (ordinal (sets_of (read_of s)) l.index row)) w (cut (read_of s) (ordinal (sets_of (read_of s)) l.index row) p l.there)))

  acted-as : (act : Act) → acted_on s i row act ≡ bytes_of (acted number act (read_of s))
  acted-as act = ap bytes_of (on-ordinal i row (read_of s) (row-there s set head row q e f g i d) act)

  pub add-found : (new : Pair) → acted_on s i row (Act.add new) ≡ spliced s (head.begin + q.end) (head.begin + q.end) (written new.name new.value)
  add-found new = acted-as (Act.add new) ∙ add-bytes (readable-reads s e) found-cut.2 new

  pub delete-found : acted_on s i row Act.delete ≡ spliced s (head.begin + q.start) (head.begin + q.end) (left_of (own_part s head.begin q))
  delete-found = acted-as Act.delete ∙ delete-bytes (readable-reads s e) found-cut.2

  -- its field, found from x to z in its own part
  module _ (n : Bytes) (o x v z : ℕ) (h : field_place n (own_part s head.begin q) o ≡ Some (record { start = x; value = v; end = z })) where
    pub value_found : (w : Bytes) → acted_on s i row (Act.change n o (Change.value w)) ≡ spliced s (head.begin + q.start + x) (head.begin + q.start + z) (written n w)
    value_found w = acted-as (Act.change n o (Change.value w)) ∙ value-bytes (readable-reads s e) found-cut.2 n o x v z h w

    pub dropped-found : acted_on s i row (Act.change n o Change.dropped) ≡ spliced s (head.begin + q.start + x) (head.begin + q.start + z) []
    dropped-found = acted-as (Act.change n o Change.dropped) ∙ dropped-bytes (readable-reads s e) found-cut.2 n o x v z h

    pub name-found : (m : Bytes) → acted_on s i row (Act.change n o (Change.name m)) ≡ spliced s (head.begin + q.start + x) (head.begin + q.start + x + length n) m
    name-found m = acted-as (Act.change n o (Change.name m)) ∙ name-bytes (readable-reads s e) found-cut.2 n o x v z h m

    -- the name stands inside the field
    pub name-inside : x + length n < z
    name-inside = name-within (readable-reads s e) found-cut.2 n o x v z h
