-- The entries of a text, one after another: where the block of the next record begins, and the next set as an entry.
use Rattle.records.specs.declared.RecordSet.{RecordSet}
use Rattle.std.specs.Prelude.{ℕ, zero, suc, ◌+◌, List, [], ◌∷◌, slice_index_or, Option, Some, None}
use Rattle.format.specs.Bytes.{Bytes}
use Rattle.format.specs.Pieces.{Piece, read_of}
use Rattle.format.specs.Records.{count_of}
use Rattle.format.specs.Directory.{directory_of}
use Rattle.format.specs.declared.Entry.{Entry}
use Rattle.records.specs.Places.{places_of}
use Rattle.records.specs.Sets.{first_set}

-- Of pieces from a byte on, where the block so far began at another: a blank line ends that, and a block begins behind it.
unfoldable pub block_from : ℕ → ℕ → List Piece → ℕ
block_from start at [] = start
block_from start at (Piece.blank l ∷ ps) = block_from (at + count_of (l ∷ [])) (at + count_of (l ∷ [])) ps
block_from start at (Piece.comment l ∷ ps) = block_from start (at + count_of (l ∷ [])) ps
block_from start at (Piece.field n v ls ∷ ps) = start

abbrev pub no_entry : Entry
no_entry = record { place = 0; count = 0; end = 0 }

abbrev pub entry_on : ℕ → Option RecordSet → Entry
entry_on place None = no_entry
entry_on place (Some q) = record { place = place; count = q.count; end = q.after }

-- the next set of a part that has a descriptor there
unfoldable pub next_entry : Bytes → Entry
next_entry s = entry_on (block_from 0 0 (read_of s)) (first_set (places_of s))

abbrev pub raise_entry : ℕ → Entry → Entry
raise_entry a e = record { place = a + e.place; count = e.count; end = a + e.end }

-- entry k of a text, and where it is looked for: behind the one before it
abbrev pub list_in : Bytes → List Entry
list_in s = directory_of (read_of s)

abbrev pub entry_in : Bytes → ℕ → Entry
entry_in s k = slice_index_or (list_in s) k no_entry

abbrev pub start_in : Bytes → ℕ → ℕ
start_in s zero = 0
start_in s (suc k) = (entry_in s k).end
