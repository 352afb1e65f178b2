-- The piece that a text begins with, its value decoded.
use Rattle.std.specs.Prelude.{List, ◌∷◌, take, drop}
use Rattle.std.proofs.Math.Option.{Option, none, some}
use Rattle.format.specs.Bytes.{Bytes}
use Rattle.format.specs.Lines.{lines}
use Rattle.format.specs.Pieces.{Piece}
use Rattle.lines.specs.Line.{first_line}
use Rattle.lines.specs.declared.Next.{Next}
use Rattle.values.specs.Value.{value_from}

-- the piece that a text goes on with, if it is no fault
abbrev pub piece_of : Next → Bytes → Option Piece
piece_of Next.End s = none
piece_of Next.Fault s = none
piece_of (Next.Blank k) s = some (Piece.blank (first_line s))
piece_of (Next.Comment k) s = some (Piece.comment (first_line s))
piece_of (Next.Field n v k) s = some (Piece.field (take n s) (value_from (drop v (take k s))) (lines (take k s)))

-- a piece in front of pieces, where there is one and they are
abbrev pub on_piece : Option Piece → Option (List Piece) → Option (List Piece)
on_piece none x = none
on_piece (some p) none = none
on_piece (some p) (some ps) = some (p ∷ ps)
