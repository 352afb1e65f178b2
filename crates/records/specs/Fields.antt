-- The next field of a part: where it stands, and the part behind it.
use Rattle.records.specs.declared.FieldPlace.{FieldPlace}
use Rattle.std.specs.Prelude.{ℕ, ◌+◌, ◌-◌, ◌≤◌, ◌<◌, ◌≡◌, true, List, [], ◌∷◌, ◌++◌, length, drop, Option, Some, None}
use Rattle.format.specs.Bytes.{Bytes}
use Rattle.format.specs.Lines.{Line}
use Rattle.format.specs.Pieces.{Piece, read_of}
use Rattle.format.specs.Records.{Field, Record, count_of, fields_of}
use Rattle.lines.specs.Piece.{value_at}
use Rattle.values.specs.Value.{value_from}
use Rattle.words.specs.Spans.{span}
use Rattle.records.specs.Places.{is_readable, size_in, head_line}
use Rattle.records.specs.Walk.{record_in}

-- the fields from a byte on
abbrev pub fields_from : Bytes → ℕ → Record
fields_from s i = record_in (drop i s)

-- the field from a to e, whose name ends at n and whose value begins at v
abbrev pub field_between : Bytes → ℕ → ℕ → ℕ → ℕ → Field
field_between s a n v e = record { name = span a n s; value = value_from (span v e s); count = e - a }

-- no field stands from byte i to byte a, only comments and blank lines
pub record Fieldless (s : Bytes) (i a : ℕ) : Type 0 where
  pub before : List Piece
  pub none : fields_of before ≡ []
  pub size : i + size_in before ≡ a
  pub reads : read_of (drop i s) ≡ before ++ read_of (drop a s)

-- the piece that the field is
pub record PieceHere (s : Bytes) (a n v e : ℕ) : Type 0 where
  pub own : List Line
  pub reads : read_of (drop a s) ≡ Piece.field (span a n s) (value_from (span v e s)) own ∷ read_of (drop e s)
  pub begins : a + value_at (length (span a n s)) (head_line own) ≡ v
  pub ends : a + count_of own ≡ e

-- it is the next one from byte i on; its value ends by itself, whatever stands behind
pub record FieldHere (s : Bytes) (i a n v e : ℕ) : Type 0 where
  pub begins : i ≤ a
  pub named : a ≤ n
  pub name-inside : n ≤ e
  pub value-behind : a ≤ v
  pub value-inside : v ≤ e
  pub moves : a < e
  pub inside : e ≤ length s
  pub readable : is_readable (drop e s) ≡ true
  pub value_there : v < length s
  pub ends-itself : value_from (drop v s) ≡ value_from (span v e s)
  pub fields : fields_from s i ≡ field_between s a n v e ∷ fields_from s e
  pub loose : Fieldless s i a
  pub piece : PieceHere s a n v e

abbrev pub FieldNext : Bytes → ℕ → Option FieldPlace → Type 0
FieldNext s i None = fields_from s i ≡ []
FieldNext s i (Some f) = FieldHere s i f.start f.named f.value f.end
