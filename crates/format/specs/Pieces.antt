-- The pieces of a file: each field with its lines, each comment, each blank line. (Document 01's term.)
use Rattle.std.specs.Prelude.{List, [], ◌∷◌, ◌++◌, map}
use Rattle.std.proofs.Math.Option
use Rattle.std.proofs.Math.Option.{Option, none, some}
use Rattle.format.specs.Bytes.{Bytes, pick}
use Rattle.format.specs.Lists.{onward, flat}
use Rattle.format.specs.Lines.{Line, lines, bytes, Form, form, joins, cut}

-- a field has its name, its value and its own lines
pub data Piece : Type 0 where
  blank : Line → Piece
  comment : Line → Piece
  field : Bytes → Bytes → List Line → Piece

abbrev pub lines_of : Piece → List Line
lines_of (blank l) = l ∷ []
lines_of (comment l) = l ∷ []
lines_of (field n v ls) = ls

abbrev pub all_lines : List Piece → List Line
all_lines ps = flat (map lines_of ps)

-- the bytes of pieces, one after another
unfoldable pub bytes_of : List Piece → Bytes
bytes_of ps = bytes (all_lines ps)

-- Before a line: no field is open; one is, so that a plus line may follow; the line before takes this one on.
pub data Mode : Type 0 where
  closed : Mode
  opened : Mode
  joined : Mode

-- "repeated while that line ends so too", "A comment line never takes on another."
abbrev pub after : Form → Mode
after Form.blank = closed
after Form.comment = closed
after (Form.field n v) = pick (joins v) joined opened
after (Form.more v) = pick (joins v) joined opened
after Form.fault = closed

-- a plus line "must directly follow a line of a field, never a comment"
abbrev pub unopened : Form → Form
unopened Form.blank = Form.blank
unopened Form.comment = Form.comment
unopened (Form.field n v) = Form.field n v
unopened (Form.more v) = Form.fault
unopened Form.fault = Form.fault

-- what a line is where it stands; one that is taken on is "of any form"
abbrev pub seen : Mode → Line → Form
seen closed l = unopened (form l)
seen opened l = form l
seen joined l = Form.more l

-- What lines read as: what they add to the value and the lines of the field that is open before them, and the pieces that follow.
pub record Reading : Type 0 where
  pub value : Bytes
  pub own : List Line
  pub pieces : List Piece

abbrev pub goes_on : Bytes → Line → Reading → Reading
goes_on v l r = record { value = v ++ r.value; own = l ∷ r.own; pieces = r.pieces }

abbrev pub begins : Piece → Reading → Reading
begins p r = record { value = []; own = []; pieces = p ∷ r.pieces }

-- a line in front of what is read behind it
abbrev pub take_line : Form → Line → Reading → Option Reading
take_line Form.blank l r = some (begins (blank l) r)
take_line Form.comment l r = some (begins (comment l) r)
take_line (Form.field n v) l r = some (begins (field n (cut v ++ r.value) (l ∷ r.own)) r)
take_line (Form.more v) l r = some (goes_on (cut v) l r)
take_line Form.fault l r = none

-- "No next line is a fault."
abbrev pub at_end : Mode → Option Reading
at_end closed = some (record { value = []; own = []; pieces = [] })
at_end opened = some (record { value = []; own = []; pieces = [] })
at_end joined = none

abbrev pub read_from : Mode → List Line → Option Reading
read_from m [] = at_end m
read_from m (l ∷ ls) = onward (take_line (seen m l) l) (read_from (after (seen m l)) ls)

abbrev pub pieces_in : Option Reading → Option (List Piece)
pieces_in x = Option.map (λ (r : Reading). r.pieces) x

-- a file's pieces, or none where some line has no form that fits
unfoldable pub pieces : Bytes → Option (List Piece)
pieces s = pieces_in (read_from closed (lines s))

abbrev pub some_of : Option (List Piece) → List Piece
some_of none = []
some_of (some ps) = ps

-- the same, no piece where they do not read
unfoldable pub read_of : Bytes → List Piece
unfolding pieces
read_of s = some_of (pieces s)
