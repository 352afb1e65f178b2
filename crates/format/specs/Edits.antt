-- The six edits: of a file's pieces and of a set's records.
use Rattle.std.specs.Prelude.{ℕ, ◌+◌, ◌-◌, Bool, false, List, [], ◌∷◌, ◌++◌, map, length, drop, get_or}
use Rattle.format.specs.Bytes.{Bytes, pick, any, same}
use Rattle.format.specs.Lists.{is_filled, filter, flat, at, always, nth, behind_last}
use Rattle.format.specs.Lines.{Line}
use Rattle.format.specs.Pieces.{Piece}
use Rattle.format.specs.Records.{Field, Record, Block, is_field, is_loose, is_record}
use Rattle.format.specs.Sets.{Group, groups, is_member, RecSet}
use Rattle.format.specs.Written.{Pair, new_field, new_piece}

-- what becomes of one field: a new value, nothing, a new name
pub data Change : Type 0 where
  value : Bytes → Change
  dropped : Change
  name : Bytes → Change

-- what becomes of one record; a change is of one occurrence of a name
pub data Act : Type 0 where
  delete : Act
  add : Pair → Act
  change : Bytes → ℕ → Change → Act

-- an edit of one set: a new record, or an act on the record of a number
pub data Edit : Type 0 where
  insert : List Pair → Edit
  on : ℕ → Act → Edit

-- one field, as a piece and in the plain file

abbrev pub is_named : Bytes → Field → Bool
is_named n f = same n f.name

abbrev pub is_of : Bytes → Piece → Bool
is_of n (Piece.blank l) = false
is_of n (Piece.comment l) = false
is_of n (Piece.field m v ls) = same n m

-- "Rename: only the name's bytes change": the first line begins with the name
abbrev pub renamed_lines : Bytes → Bytes → List Line → List Line
renamed_lines old new [] = []
renamed_lines old new (l ∷ ls) = (new ++ drop (length old) l) ∷ ls

-- "Set: the field's lines become the new text. Drop: they go."
abbrev pub change_piece : Change → Piece → List Piece
change_piece c (Piece.blank l) = Piece.blank l ∷ []
change_piece c (Piece.comment l) = Piece.comment l ∷ []
change_piece (value w) (Piece.field n v ls) = new_piece (record { name = n; value = w }) ∷ []
change_piece dropped (Piece.field n v ls) = []
change_piece (name m) (Piece.field n v ls) = Piece.field m v (renamed_lines n m ls) ∷ []

-- "a new or set field counts its written length, rename adds the difference of the names"
abbrev pub change_field : Change → Field → Record
change_field (value w) f = new_field (record { name = f.name; value = w }) ∷ []
change_field dropped f = []
change_field (name m) f = record { name = m; value = f.value; count = (f.count + length m) - length f.name } ∷ []

-- one record, as its block and in the plain file

-- "Delete: the record's field and plus lines go; comments and blank lines stay. Add: after the record's last field."
abbrev pub unfielded : Block → Block
unfielded b = filter is_loose b

abbrev pub in_block : Act → Block → Block
in_block delete b = unfielded b
in_block (add p) b = behind_last is_field (new_piece p) b
in_block (change n o c) b = at (is_of n) o (change_piece c) b

abbrev pub in_record : Act → Record → Record
in_record delete r = []
in_record (add p) r = r ++ (new_field p ∷ [])
in_record (change n o c) r = at (is_named n) o (change_field c) r

-- one set, as its blocks and in the plain file; a record without a field is none

-- "Insert: after the block of the set's last record, else of its descriptor, a newline and the record."
abbrev pub newline : Piece
newline = Piece.blank []

abbrev pub in_group : Edit → Group → Group
in_group (insert new) g = behind_last is_record (newline ∷ map new_piece new) g
in_group (on j a) g = at is_member j (λ (b : Block). in_block a b ∷ []) g

abbrev pub in_members : Edit → List Record → List Record
in_members (insert new) ms = ms ++ (map new_field new ∷ [])
in_members (on j a) ms = at always j (λ (r : Record). filter is_filled (in_record a r ∷ [])) ms

abbrev pub in_set : Edit → RecSet → RecSet
in_set e s = record { name = s.name; rules = s.rules; members = in_members e s.members }

-- a file's pieces, with the group of set i edited
abbrev pub in_groups : ℕ → Edit → List Piece → List Piece
in_groups i e ps = flat (flat (nth i (in_group e) (groups ps)))

-- "Empty default set: at byte 0, the record, then a newline if the file isn't empty."
abbrev pub newline_if : List Piece → List Piece
newline_if ps = pick (is_filled ps) (newline ∷ []) []

abbrev pub in_front : List Pair → List Piece → List Piece
in_front new ps = map new_piece new ++ (newline_if ps ++ ps)

abbrev pub edit_pieces : ℕ → Edit → List Piece → List Piece
edit_pieces i (insert new) ps = pick (any is_record (get_or (groups ps) i [])) (in_groups i (insert new) ps) (in_front new ps)
edit_pieces i (on j a) ps = in_groups i (on j a) ps
