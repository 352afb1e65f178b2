-- Words and other parts of a value.
use Rattle.std.specs.Prelude.{ℕ, Bool, ◌||◌, not, List, reverse, eqb}
use Rattle.format.specs.Lists.{is_filled, filter, front, behind, split_by}
use Rattle.format.specs.Bytes.{Bytes, is_blank, is_newline, is_letter, is_spelt}
use Rattle.format.specs.Lines.{is_later}

-- what divides words
abbrev pub is_gap : ℕ → Bool
is_gap c = is_blank c || is_newline c

abbrev pub not_gap : ℕ → Bool
not_gap c = not (is_gap c)

-- the first word of a text, and the text behind it
abbrev pub first_word : Bytes → Bytes
first_word s = front not_gap (behind is_gap s)

abbrev pub after_word : Bytes → Bytes
after_word s = behind not_gap (behind is_gap s)

-- "Words are divided by blanks and newlines."
abbrev pub words : Bytes → List Bytes
words s = filter is_filled (split_by is_gap s)

-- the parts of a text between bytes d
abbrev pub split : ℕ → Bytes → List Bytes
split d s = split_by (λ (c : ℕ). eqb c d) s

-- "Blanks and newlines around a value are ignored."
abbrev pub trim : Bytes → Bytes
trim s = reverse (behind is_gap (reverse (behind is_gap s)))

-- "A type name is a letter, then letters, digits, `_`."
abbrev pub is_type_name : Bytes → Bool
is_type_name s = is_spelt is_letter is_later s
