-- The answer of writing a record.
use Rattle.std.specs.Prelude.{ℕ, List, leb, length}
use Rattle.format.specs.Bytes.{pick}
use Rattle.format.specs.Questions.{first_no}
use Rattle.format.specs.Written.{Pair, written_all}
use Rattle.format.specs.Calls.{then_no, write_rows}

-- what is asked before it: of the pairs, and then whether their text fits
abbrev pub write_no : List Pair → ℕ → ℕ
write_no ps room = then_no (first_no write_rows ps) (pick (leb (length (written_all ps)) room) 0 27)
