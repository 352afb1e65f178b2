-- A text at a place of a file: the value from there on, or the word that it begins with.
use Rattle.values.specs.declared.Decoded.{Decoded}
use Rattle.std.specs.Prelude.{ℕ, ◌+◌, ◌*◌, ◌%◌, ◌<◌, ◌≤◌, ◌≡◌, Bool, ◌||◌, not, [], ◌∷◌, length, drop, Option, Some, None}
use Rattle.format.specs.Lists.{front}
use Rattle.format.specs.Bytes.{Bytes}
use Rattle.values.specs.Value.{value_from}
use Rattle.values.specs.Stretches.{is_word_byte}

-- does a text go on with a byte: a word with bytes of words, a value with any
abbrev pub keeps : Bool → ℕ → Bool
keeps words c = not words || is_word_byte c

unfoldable pub text_at : Bool → Bytes → ℕ → Bytes
text_at words s i = front (keeps words) (value_from (drop i s))

-- what reading one byte of a text says of the rest
abbrev pub TextByte : Bool → Bytes → ℕ → Option Decoded → Type 0
TextByte words s i None = text_at words s i ≡ []
TextByte words s i (Some d) = (text_at words s i ≡ d.byte ∷ text_at words s d.next) × (i < d.next) × (d.next ≤ length s)

-- the bytes of a text mixed into a number below 4294967296
unfoldable pub mixed : ℕ → Bytes → ℕ
mixed h [] = h
mixed h (b ∷ v) = mixed ((h + b) * 2654435761 % 4294967296) v
