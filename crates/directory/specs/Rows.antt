-- A directory's entries one by one, as they are written into a lent list, and what the parts of its calls answer.
use Rattle.std.specs.Prelude.{◌≡◌, ℕ, zero, suc, ◌<◌, ◌≤◌, List, length, take, set, slice_set}
use Rattle.format.specs.Bytes.{Bytes}
use Rattle.format.specs.Questions.{verdict}
use Rattle.format.specs.Calls.{Answer, answer, answered, value_or, then_no, filled_by}
use Rattle.format.specs.Directory.{list_no, listed_answer}
use Rattle.format.specs.declared.Entry.{Entry}
use Rattle.directory.specs.Blocks.{list_in, entry_in, start_in}
use Rattle.directory.specs.declared.inner.Done.{Done}

-- the entries that a file's directory has
abbrev pub list_of : Bytes → ℕ → List Entry
list_of b u = list_in (take u b)

abbrev pub entry_of : Bytes → ℕ → ℕ → Entry
entry_of b u k = entry_in (take u b) k

-- where the search for an entry begins: behind the last record of the set before it
abbrev pub start_of : Bytes → ℕ → ℕ → ℕ
start_of b u k = start_in (take u b) k

-- a list with its first n entries written
abbrev pub filled : Bytes → ℕ → List Entry → ℕ → List Entry
filled b u old zero = old
filled b u old (suc n) = slice_set (filled b u old n) n (entry_of b u n)

-- the file passes and has a set of this number
abbrev pub InDirectory : Bytes → ℕ → ℕ → Type 0
InDirectory b u k = (verdict b u ≡ 0) × (k < length (list_of b u))

-- a list of m entries has room for the first n, and there are so many
abbrev pub Fillable : Bytes → ℕ → ℕ → ℕ → Type 0
Fillable b u n m = (n ≤ m) × ((k : ℕ) → k < n → InDirectory b u k)

-- the number of sets, refused for the file or for a list of too few entries
abbrev pub counted_in : Bytes → ℕ → ℕ → Answer
counted_in b u m = answer (then_no (verdict b u) (list_no m (length (list_of b u)))) (length (list_of b u))

-- an edit given a list of m entries: its answer and the buffer, the length after it, and how many entries are to be written
abbrev pub Does : Bytes → ℕ → Bytes → ℕ → Bytes → Done → Type 0
Does b u q m b' d = (filled_by d.answer b' ≡ listed_answer m b u q) × (d.used ≡ value_or u (answered d.answer)) × (d.sets ≡ value_or 0 (counted_in b' d.used m))
