-- What a walk over the pieces finds: the first field, and how far its record goes.
use Rattle.std.specs.Prelude.{ℕ, ◌+◌, Bool, ◌||◌, List, [], ◌∷◌}
use Rattle.format.specs.Bytes.{Bytes, text, same}
use Rattle.format.specs.Pieces.{Piece, read_of}
use Rattle.format.specs.Records.{Record, Block, count_of, fields_of}
use Rattle.format.specs.Sets.{values_of}
use Rattle.format.specs.Calls.{lead}
use Rattle.records.specs.Places.{size_in, names_set}
use Rattle.records.specs.declared.Run.{Run}

-- the fields of a part, in order
abbrev pub record_in : Bytes → Record
record_in s = fields_of (read_of s)

-- the number of bytes before the first field
unfoldable pub lead_size : Bytes → ℕ
lead_size s = size_in (lead (read_of s))

-- the pieces up to the first blank line, and those from there on
abbrev pub until_blank : List Piece → Block
until_blank [] = []
until_blank (Piece.blank l ∷ ps) = []
until_blank (Piece.comment l ∷ ps) = Piece.comment l ∷ until_blank ps
until_blank (Piece.field n v ls ∷ ps) = Piece.field n v ls ∷ until_blank ps

abbrev pub from_blank : List Piece → List Piece
from_blank [] = []
from_blank (Piece.blank l ∷ ps) = Piece.blank l ∷ ps
from_blank (Piece.comment l ∷ ps) = from_blank ps
from_blank (Piece.field n v ls ∷ ps) = from_blank ps

-- A record's run over pieces that begin at a place: so far its last field ends at end, and descriptor says whether a `%rec` was met.
unfoldable pub run_from : ℕ → ℕ → Bool → List Piece → Run
run_from at end descriptor [] = record { end = end; after = at; descriptor = descriptor }
run_from at end descriptor (Piece.blank l ∷ ps) = record { end = end; after = at; descriptor = descriptor }
run_from at end descriptor (Piece.comment l ∷ ps) = run_from (at + count_of (l ∷ [])) end descriptor ps
run_from at end descriptor (Piece.field n v ls ∷ ps) = run_from (at + count_of ls) (at + count_of ls) (descriptor || same (text "%rec") n) ps

-- do the fields of a part open the set of a name
unfoldable pub opens_set : Bytes → Bytes → Bool
opens_set n s = names_set n (values_of (text "%rec") (record_in s))
