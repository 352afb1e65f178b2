-- The words of a value, and the parts of a word between commas.
use Rattle.values.specs.declared.lists.NextWord.{NextWord}
use Rattle.std.specs.Prelude.{ℕ, ◌≤◌, ◌<◌, ◌≡◌, Bool, not, List, [], ◌∷◌, eqb, length, drop, Option, Some, None}
use Rattle.format.specs.Bytes.{Bytes}
use Rattle.format.specs.Lists.{front, behind}
use Rattle.format.specs.Words.{not_gap, words, split}
use Rattle.format.proofs.Parts.{parts_behind}
use Rattle.values.specs.Value.{value_from}

-- the word that the value from i on begins with
abbrev pub word_from : Bytes → ℕ → Bytes
word_from s i = front not_gap (value_from (drop i s))

-- the next word of the value from i on: its first byte is looked for at a, what follows it at b
abbrev pub Cuts : Bytes → ℕ → Option NextWord → Type 0
Cuts s i None = words (value_from (drop i s)) ≡ []
Cuts s i (Some w) = (words (value_from (drop i s)) ≡ word_from s w.start ∷ words (value_from (drop w.rest s))) × (i ≤ w.start) × (w.start < w.rest) × (w.rest ≤ length s)

-- the bytes of a word before a comma, and its parts behind that
abbrev pub is_comma : ℕ → Bool
is_comma c = eqb c 44

abbrev pub name_of : Bytes → Bytes
name_of w = front (λ (c : ℕ). not (is_comma c)) w

abbrev pub others_of : Bytes → List Bytes
others_of w = parts_behind is_comma (behind (λ (c : ℕ). not (is_comma c)) w)

abbrev pub name_from : Bytes → ℕ → Bytes
name_from s i = name_of (word_from s i)

abbrev pub others_from : Bytes → ℕ → List Bytes
others_from s i = others_of (word_from s i)

-- what is told of the parts behind the first one
abbrev pub Behind : Bytes → ℕ → Option ℕ → Type 0
Behind s i None = others_from s i ≡ []
Behind s i (Some k) = (i < k) × (k ≤ length s) × (others_from s i ≡ split 44 (word_from s k))
