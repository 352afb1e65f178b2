-- What the walk over the fields of a part tells of those of listed names.
use Rattle.std.specs.Prelude.{ℕ, ◌≤◌, ◌<◌, ◌≡◌, List, length, take, Option, Some, None}
use Rattle.format.specs.Bytes.{Bytes}
use Rattle.format.specs.Records.{Record}
use Rattle.keys.specs.Marks.{marks_of, Inside}
use Rattle.singulars.specs.Marks.{marks}

-- room for so many fields that, if a file of 65,536 bytes has more of singular names, two of one name are empty
abbrev pub entries_room : ℕ
entries_room = 16384

-- the first n entries stand for the marks of all, or these are more than there are entries
abbrev pub GatheredAs : List Bytes → Bytes → Record → List ℕ → Option ℕ → Type 0
GatheredAs ws s r entries (Some n) = (n ≤ length entries) × Inside s n entries × (marks_of s (take n entries) ≡ marks ws r)
GatheredAs ws s r entries None = length entries < length (marks ws r)
