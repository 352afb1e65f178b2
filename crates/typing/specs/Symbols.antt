-- The words of the text behind the word `enum`, comments read as blanks.
use Rattle.std.specs.Prelude.{ℕ, ◌≤◌, ◌<◌, ◌≡◌, Bool, false, ◌&&◌, List, [], ◌∷◌, length}
use Rattle.std.proofs.Math.Option.{Option, none, some}
use Rattle.format.specs.Bytes.{Bytes, all}
use Rattle.format.specs.Words.{not_gap, words}
use Rattle.format.specs.Types.{uncomment, is_symbol}
use Rattle.words.specs.Spans.{span}
use Rattle.values.specs.Stretches.{not_paren}
use Rattle.typing.specs.declared.symbols.Symbol.{Symbol}

abbrev pub is_plain : ℕ → Bool
is_plain c = not_gap c && not_paren c

-- the words, none where a parenthesis is wrong
abbrev pub words_in : Option Bytes → Option (List Bytes)
words_in none = none
words_in (some s) = some (words s)

abbrev pub symbols_of : Bytes → Option (List Bytes)
symbols_of s = words_in (uncomment false s)

abbrev pub with_word : Bytes → Option (List Bytes) → Option (List Bytes)
with_word w none = none
with_word w (some ws) = some (w ∷ ws)

-- what is told of the words by what is found first
abbrev pub NextSymbol : Bytes → Symbol → Type 0
NextSymbol s (Symbol.At a e) = (a < e) × (e ≤ length s) × (symbols_of s ≡ with_word (span a e s) (symbols_of (span e (length s) s)))
NextSymbol s Symbol.End = symbols_of s ≡ some []
NextSymbol s Symbol.Fault = symbols_of s ≡ none

abbrev pub are_symbols : Option (List Bytes) → Bool
are_symbols none = false
are_symbols (some ws) = all is_symbol ws

-- one symbol or more
abbrev pub is_enum : Option (List Bytes) → Bool
is_enum none = false
is_enum (some []) = false
is_enum (some (w ∷ ws)) = all is_symbol (w ∷ ws)
