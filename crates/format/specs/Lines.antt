-- Physical lines and the form of each.
use Rattle.std.specs.Prelude.{ℕ, Bool, ◌||◌, List, [], ◌∷◌, ◌++◌, eqb, get_or}
use Rattle.format.specs.Lists.{front, behind, onto}
use Rattle.format.specs.Bytes.{Bytes, pick, is_letter, is_digit, is_blank, is_newline, all, is_spelt}

-- a physical line, without its newline
abbrev pub Line : Type 0
Line = Bytes

-- the lines of a text: a newline ends each
abbrev pub lines : Bytes → List Line
lines [] = []
lines (c ∷ s) = pick (is_newline c) ([] ∷ lines s) (onto c (lines s))

-- the bytes of lines: each with its newline
abbrev pub bytes : List Line → Bytes
bytes [] = []
bytes (l ∷ ls) = l ++ (10 ∷ bytes ls)

-- the last byte of a text, d of an empty one
abbrev pub last : ℕ → Bytes → ℕ
last d [] = d
last d (c ∷ s) = last c s

-- "A non-empty file ends in newline."
abbrev pub is_ended : Bytes → Bool
is_ended s = is_newline (last 10 s)

-- "A name is a letter or `%`, then letters, digits, `_`."
abbrev pub is_first : ℕ → Bool
is_first c = is_letter c || eqb c 37

abbrev pub is_later : ℕ → Bool
is_later c = is_letter c || is_digit c || eqb c 95

abbrev pub is_name : Bytes → Bool
is_name n = is_spelt is_first is_later n

-- does a name start with `%`
abbrev pub is_special : Bytes → Bool
is_special n = eqb (get_or n 0 0) 37

-- The form of a line. A field line has its name and what follows the dropped blank; a plus line, or one that the line before takes on, has
-- what it adds to the value.
pub data Form : Type 0 where
  blank : Form
  comment : Form
  field : Bytes → Bytes → Form
  more : Bytes → Form
  fault : Form

-- "a name, a colon, then one blank or the newline. That one blank is dropped; what follows is value."
abbrev pub after_colon : Bytes → Bytes → Form
after_colon n [] = field n []
after_colon n (c ∷ s) = pick (is_blank c) (field n s) fault

abbrev pub after_name : Bytes → Bytes → Form
after_name n [] = fault
after_name n (c ∷ s) = pick (eqb c 58) (after_colon n s) fault

-- "A plus line starts with `+`; one space after it is dropped."
abbrev pub after_plus : Bytes → Bytes
after_plus [] = []
after_plus (c ∷ s) = pick (eqb c 32) s (c ∷ s)

-- "A blank line is empty or all blanks. A comment line starts with `#`." A plus line "adds a newline and its rest to the value".
abbrev pub form : Line → Form
form [] = blank
form (c ∷ s) =
    pick (is_first c) (after_name (c ∷ front is_later s) (behind is_later s))
    (pick (eqb c 35) comment
    (pick (eqb c 43) (more (10 ∷ after_plus s))
    (pick (all is_blank (c ∷ s)) blank fault)))

-- "A field or plus line whose last byte is a backslash loses it and takes on the next physical line"
abbrev pub joins : Bytes → Bool
joins s = eqb (last 0 s) 92

abbrev pub cut : Bytes → Bytes
cut [] = []
cut (c ∷ []) = pick (eqb c 92) [] (c ∷ [])
cut (c ∷ d ∷ s) = c ∷ cut (d ∷ s)
