-- The first piece of a text, as lengths.
use Rattle.std.specs.Prelude.{ℕ, suc, ◌+◌, Bool, true, false, ◌||◌, List, [], ◌∷◌, eqb, length, get_or, Option, Some, None}
use Rattle.format.specs.Bytes.{Bytes, pick}
use Rattle.format.specs.Lines.{Line, lines, Form, form, joins}
use Rattle.lines.specs.declared.Next.{Next}

-- a line with its newline
abbrev pub line_size : Line → ℕ
line_size l = suc (length l)

abbrev pub is_plus : Line → Bool
is_plus l = eqb (get_or l 0 0) 43

-- the bytes of a field, n of them before these lines; taken: the line before takes the next one on
unfoldable pub extent_of : Bool → ℕ → List Line → Option ℕ
extent_of true n [] = None
extent_of false n [] = Some n
extent_of taken n (l ∷ ls) = pick (taken || is_plus l) (extent_of (joins l) (n + line_size l) ls) (Some n)

-- where a field's value begins: behind its name, the colon and the dropped blank, or at the newline behind the colon
abbrev pub value_at : ℕ → Line → ℕ
value_at name l = pick (eqb (length l) (name + 1)) (name + 1) (name + 2)

abbrev pub field_next : ℕ → ℕ → Option ℕ → Next
field_next name value (Some size) = Next.Field name value size
field_next name value None = Next.Fault

abbrev pub next_by : Form → Line → List Line → Next
next_by Form.blank l ls = Next.Blank (line_size l)
next_by Form.comment l ls = Next.Comment (line_size l)
next_by (Form.field n v) l ls = field_next (length n) (value_at (length n) l) (extent_of true 0 (l ∷ ls))
next_by (Form.more v) l ls = Next.Fault
next_by Form.fault l ls = Next.Fault

abbrev pub next_in : List Line → Next
next_in [] = Next.End
next_in (l ∷ ls) = next_by (form l) l ls

-- what a text goes on with
unfoldable pub next_of : Bytes → Next
next_of s = next_in (lines s)

abbrev pub is_fault : Next → Bool
is_fault Next.End = false
is_fault Next.Fault = true
is_fault (Next.Blank k) = false
is_fault (Next.Comment k) = false
is_fault (Next.Field n v k) = false

-- how many bytes it takes
abbrev pub size_of : Next → ℕ
size_of Next.End = 0
size_of Next.Fault = 0
size_of (Next.Blank k) = k
size_of (Next.Comment k) = k
size_of (Next.Field n v k) = k
