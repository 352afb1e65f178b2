-- How a field and a record are written.
use Rattle.std.specs.Prelude.{Bool, ◌&&◌, not, List, [], ◌∷◌, ◌++◌, map, leb, length}
use Rattle.format.specs.Bytes.{Bytes, pick, is_newline, is_allowed, all}
use Rattle.format.specs.Lists.{flat}
use Rattle.format.specs.Lines.{Line, lines, is_name, is_special, joins}
use Rattle.format.specs.Pieces.{Piece}
use Rattle.format.specs.Records.{Field}
use Rattle.format.specs.Words.{split}
use Rattle.format.specs.Limits.{name_bytes, value_bytes}

-- "with `+ ` after each newline inside"
abbrev pub indent : Bytes → Bytes
indent [] = []
indent (c ∷ s) = c ∷ pick (is_newline c) (43 ∷ 32 ∷ indent s) (indent s)

-- "A field is written as name, colon, space, value, newline."
unfoldable pub written : Bytes → Bytes → Bytes
written n v = n ++ (58 ∷ 32 ∷ (indent v ++ (10 ∷ [])))

-- a name and a value to be written
pub record Pair : Type 0 where
  pub name : Bytes
  pub value : Bytes

abbrev pub written_all : List Pair → Bytes
written_all ps = flat (map (λ (p : Pair). written p.name p.value) ps)

-- the field that is written, in the plain file and as a piece
abbrev pub new_field : Pair → Field
new_field p = record { name = p.name; value = p.value; count = length (written p.name p.value) }

abbrev pub new_piece : Pair → Piece
new_piece p = Piece.field p.name p.value (lines (written p.name p.value))

-- "New names legal, at most 64 bytes, not starting with `%`"
abbrev pub is_legal_name : Bytes → Bool
is_legal_name n = is_name n && leb (length n) name_bytes && not (is_special n)

-- "values at most 4,096 allowed bytes, no line of them ending in a backslash"
abbrev pub none_joins : List Line → Bool
none_joins ls = all (λ (l : Line). not (joins l)) ls

abbrev pub is_legal_value : Bytes → Bool
is_legal_value v = leb (length v) value_bytes && all is_allowed v && none_joins (split 10 v)

abbrev pub is_legal_pair : Pair → Bool
is_legal_pair p = is_legal_name p.name && is_legal_value p.value
