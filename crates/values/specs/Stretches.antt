-- The bytes that a stretch of a value has.
use Rattle.std.specs.Prelude.{ℕ, ◌≡◌, Bool, ◌||◌, not, ltb, eqb}

-- every byte of a name and of a symbol is a percent sign or above the comma; gaps, commas and parentheses are not
abbrev pub is_word_byte : ℕ → Bool
is_word_byte c = ltb 44 c || eqb c 37

-- within a comment stands no parenthesis
abbrev pub not_paren : ℕ → Bool
not_paren c = not (eqb c 40 || eqb c 41)

-- a test that the code makes of a byte answers as p does
abbrev pub Tests : (ℕ → Bool → Type 0) → (ℕ → Bool) → Type 0
Tests post p = (b : ℕ) (r : Bool) → post b r → r ≡ p b
