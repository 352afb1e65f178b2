-- Blocks and records.
use Rattle.std.specs.Prelude.{ℕ, Bool, true, false, not, List, length}
use Rattle.std.proofs.Math.Option.{Option, none, some}
use Rattle.format.specs.Bytes.{Bytes, is_some}
use Rattle.format.specs.Lists.{is_filled, kept, cut_at}
use Rattle.format.specs.Lines.{Line, bytes}
use Rattle.format.specs.Pieces.{Piece}

-- a field of the plain file: name, value, byte count
pub record Field : Type 0 where
  pub name : Bytes
  pub value : Bytes
  pub count : ℕ

abbrev pub Record : Type 0
Record = List Field

abbrev pub count_of : List Line → ℕ
count_of ls = length (bytes ls)

abbrev pub field_of : Piece → Option Field
field_of (Piece.blank l) = none
field_of (Piece.comment l) = none
field_of (Piece.field n v ls) = some (record { name = n; value = v; count = count_of ls })

abbrev pub is_field : Piece → Bool
is_field p = is_some (field_of p)

abbrev pub is_loose : Piece → Bool
is_loose p = not (is_field p)

abbrev pub is_blank_line : Piece → Bool
is_blank_line (Piece.blank l) = true
is_blank_line (Piece.comment l) = false
is_blank_line (Piece.field n v ls) = false

-- "A block is a run of lines without a blank line." Each blank line stands at the head of the block that follows it.
abbrev pub Block : Type 0
Block = List Piece

abbrev pub blocks : List Piece → List Block
blocks ps = cut_at is_blank_line ps

-- "comments in it are skipped and don't divide it"
abbrev pub fields_of : Block → Record
fields_of b = kept field_of b

-- "A block with a field is a record."
abbrev pub is_record : Block → Bool
is_record b = is_filled (fields_of b)
