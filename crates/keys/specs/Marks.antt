-- An entry is a place of the file with a number above it; it stands for that number and the value at the place. Two entries are alike where both are.
use Rattle.std.specs.Prelude.{ℕ, ◌/◌, ◌%◌, ◌<◌, ◌≤◌, List, ◌∷◌, map, length, get_or, drop}
use Rattle.format.specs.Bytes.{Bytes}
use Rattle.values.specs.Value.{value_from}

abbrev pub mark_at : Bytes → ℕ → Bytes
mark_at s e = (e / 65536) ∷ value_from (drop (e % 65536) s)

abbrev pub marks_of : Bytes → List ℕ → List Bytes
marks_of s l = map (mark_at s) l

-- the places of the first n entries are in the file
abbrev pub Inside : Bytes → ℕ → List ℕ → Type 0
Inside s n l = (i : ℕ) → i < n → get_or l i 0 % 65536 ≤ length s
