-- The number of an edit that makes so many bytes in a buffer of `room`, and is over a limit.
use Rattle.std.specs.Prelude.{ℕ}
use Rattle.format.specs.Bytes.{pick}
use Rattle.edits.specs.Splices.{is_within}

abbrev pub over_no : ℕ → ℕ → ℕ
over_no room n = pick (is_within room n) 104 26
