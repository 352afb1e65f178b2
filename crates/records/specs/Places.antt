-- The places of records, and the searches among them.
use Rattle.records.specs.declared.ValuePlace.{ValuePlace}
use Rattle.std.specs.Prelude.{ℕ, zero, suc, ◌+◌, Bool, true, false, ◌&&◌, List, [], ◌∷◌, length, Option as Maybe, Some, None}
use Rattle.std.proofs.Math.Option.{Option, none, some}
use Rattle.format.specs.Lists.{is_filled}
use Rattle.format.specs.Bytes.{Bytes, text, pick, same, is_some}
use Rattle.format.specs.Lines.{Line, is_ended}
use Rattle.format.specs.Pieces.{Piece, pieces, bytes_of}
use Rattle.format.specs.Records.{Record, Block, blocks, count_of, fields_of}
use Rattle.format.specs.Sets.{values_of}
use Rattle.format.specs.Words.{first_word}
use Rattle.format.specs.Calls.{lead, from_first, to_last}
use Rattle.format.proofs.Walking.{is_head}
use Rattle.lines.specs.Piece.{value_at}
use Rattle.records.specs.declared.Place.{Place}
use Rattle.records.specs.declared.Head.{Head}

-- a part that can be walked: it is empty or ends in a newline, and every line has a form
unfoldable pub is_readable : Bytes → Bool
is_readable s = is_ended s && is_some (pieces s)

-- a record with its place: its first field's first byte, the byte behind its last field, the byte behind its block
pub record Placed : Type 0 where
  pub start : ℕ
  pub end : ℕ
  pub after : ℕ
  pub fields : Record

abbrev pub size_in : List Piece → ℕ
size_in ps = length (bytes_of ps)

abbrev pub placed_at : ℕ → Block → Placed
placed_at at b =
    record { start = at + size_in (lead b); end = at + size_in (lead b) + size_in (to_last (from_first b)); after = at + size_in b; fields = fields_of b }

abbrev pub place_on : Bool → Placed → List Placed → List Placed
place_on true p ps = p ∷ ps
place_on false p ps = ps

-- the records of blocks, the first block at a place
abbrev pub places_in : ℕ → List Block → List Placed
places_in at [] = []
places_in at (b ∷ bs) = place_on (is_filled (fields_of b)) (placed_at at b) (places_in (at + size_in b) bs)

abbrev pub places_from : Option (List Piece) → List Placed
places_from none = []
places_from (some ps) = places_in 0 (blocks ps)

-- the records of a part, in order
unfoldable pub places_of : Bytes → List Placed
places_of s = places_from (pieces s)

abbrev pub is_descriptor : Placed → Bool
is_descriptor p = is_head p.fields

-- the place alone, with whether the record is a descriptor
abbrev pub place_of : Placed → Place
place_of p = record { start = p.start; end = p.end; after = p.after; descriptor = is_descriptor p }

-- the first record
abbrev pub first_place : List Placed → Maybe Place
first_place [] = None
first_place (p ∷ ps) = Some (place_of p)

-- does a descriptor with these `%rec` values open the set of a name
abbrev pub names_set : Bytes → List Bytes → Bool
names_set n [] = false
names_set n (v ∷ vs) = same n (first_word v)

-- the place of the descriptor of a name
abbrev pub head_of : Placed → Head
head_of p = record { start = p.start; end = p.end; begin = p.after }

abbrev pub descriptor_head : Bytes → List Placed → Maybe Head
descriptor_head n [] = None
descriptor_head n (p ∷ ps) = pick (names_set n (values_of (text "%rec") p.fields)) (Some (head_of p)) (descriptor_head n ps)

-- the head of the set of a name; the default set, which has no descriptor, stands first
unfoldable pub head_place : Bytes → List Placed → Maybe Head
head_place n ps = pick (same n []) (Some (record { start = 0; end = 0; begin = 0 })) (descriptor_head n ps)

-- "a record number beyond the last is no record": the k-th record before any descriptor
abbrev pub record_by : Bool → ℕ → Placed → (ℕ → Maybe Place) → Maybe Place
record_by true k p later = None
record_by false zero p later = Some (place_of p)
record_by false (suc k) p later = later k

unfoldable pub record_place : List Placed → ℕ → Maybe Place
record_place [] k = None
record_place (p ∷ ps) k = record_by (is_descriptor p) k p (λ (j : ℕ). record_place ps j)

-- how many records stand before any descriptor
unfoldable pub count_before : List Placed → ℕ
count_before [] = 0
count_before (p ∷ ps) = pick (is_descriptor p) 0 (suc (count_before ps))

-- the o-th field of a name among pieces, the first of them at a place: its first byte, its value's, the byte behind it
abbrev pub head_line : List Line → Line
head_line [] = []
head_line (l ∷ ls) = l

abbrev pub field_by : Bool → ℕ → ℕ → Bytes → List Line → (ℕ → Maybe ValuePlace) → Maybe ValuePlace
field_by false o at n ls later = later o
field_by true zero at n ls later = Some (record { start = at; value = at + value_at (length n) (head_line ls); end = at + count_of ls })
field_by true (suc o) at n ls later = later o

abbrev pub field_in : Bytes → List Piece → ℕ → ℕ → Maybe ValuePlace
field_in n [] at o = None
field_in n (Piece.blank l ∷ ps) at o = field_in n ps (at + count_of (l ∷ [])) o
field_in n (Piece.comment l ∷ ps) at o = field_in n ps (at + count_of (l ∷ [])) o
field_in n (Piece.field m v ls ∷ ps) at o = field_by (same n m) o at m ls (λ (k : ℕ). field_in n ps (at + count_of ls) k)

abbrev pub field_from : Bytes → Option (List Piece) → ℕ → Maybe ValuePlace
field_from n none o = None
field_from n (some ps) o = field_in n ps 0 o

unfoldable pub field_place : Bytes → Bytes → ℕ → Maybe ValuePlace
field_place n s o = field_from n (pieces s) o
