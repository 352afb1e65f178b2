-- The names of a descriptor's typedefs, and values that fit the room they are decoded into.
use Rattle.std.specs.Prelude.{ℕ, Bool, List, map, leb, length}
use Rattle.format.specs.Bytes.{Bytes, text, all}
use Rattle.format.specs.Words.{first_word}
use Rattle.records.specs.Named.{values_from}

-- the names of the typedefs
abbrev pub names_from : Bytes → ℕ → List Bytes
names_from s i = map first_word (values_from s (text "%typedef") i)

-- do all values of a name have at most m bytes
abbrev pub fits : ℕ → Bytes → Bool
fits m v = leb (length v) m

abbrev pub fit_from : ℕ → Bytes → Bytes → ℕ → Bool
fit_from m s n i = all (fits m) (values_from s n i)
