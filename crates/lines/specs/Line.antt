-- The first physical line of a text.
use Rattle.std.specs.Prelude.{ℕ, suc, ◌-◌, ◌≤◌, ◌<◌, ◌≡◌, Bool, [], ◌∷◌, take, get_or}
use Rattle.format.specs.Bytes.{Bytes, pick, is_newline}
use Rattle.format.specs.Lines.{Line, is_first, is_later}

-- the number of bytes before the first newline
unfoldable pub line_len : Bytes → ℕ
line_len [] = 0
line_len (c ∷ s) = pick (is_newline c) 0 (suc (line_len s))

abbrev pub first_line : Bytes → Line
first_line s = take (line_len s) s

-- a place within the first line, the byte before it no backslash: whether the line takes the next one on is seen from there on
abbrev pub GoesOn : Bytes → ℕ → Type 0
GoesOn s at = (0 < at) × (at ≤ line_len s) × (get_or s (at - 1) 0 ≡ 92 → ⊥)

-- the number of bytes at the front that pass a test
unfoldable pub run : (ℕ → Bool) → Bytes → ℕ
run p [] = 0
run p (c ∷ s) = pick (p c) (suc (run p s)) 0

-- the number of bytes of the name that a text begins with, 0 where it begins with none
unfoldable pub name_len : Bytes → ℕ
unfolding run
name_len [] = 0
name_len (c ∷ s) = pick (is_first c) (suc (run is_later s)) 0
