-- Where words stand in a text.
use Rattle.words.specs.declared.Span.{Span}
use Rattle.std.specs.Prelude.{ℕ, ◌+◌, ◌-◌, Bool, not, eqb, ltb, length, take, drop, Option, Some, None}
use Rattle.format.specs.Bytes.{Bytes, pick}
use Rattle.format.specs.Words.{is_gap, not_gap}
use Rattle.lines.specs.Line.{run}

-- the bytes from one place to another
abbrev pub span : ℕ → ℕ → Bytes → Bytes
span a e s = take (e - a) (drop a s)

-- is a byte another than d
abbrev pub not_byte : ℕ → ℕ → Bool
not_byte d c = not (eqb c d)

abbrev pub word_from : Bytes → ℕ → Option Span
word_from s a = pick (ltb a (length s)) (Some (record { start = a; end = a + run not_gap (drop a s) })) None

-- where the first word of a text stands
unfoldable pub next_word : Bytes → Option Span
next_word s = word_from s (run is_gap s)
