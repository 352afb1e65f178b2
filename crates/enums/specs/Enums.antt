-- The symbols of an `enum` that stands in a text.
use Rattle.std.specs.Prelude.{ℕ, ◌≤◌, ◌≡◌, Bool, true, false, List, [], length, drop}
use Rattle.std.proofs.Math.Option.{Option, none, some}
use Rattle.format.specs.Bytes.{Bytes, all, is_some}
use Rattle.format.specs.Words.{after_word}
use Rattle.format.specs.Numbers.{int_bounds}
use Rattle.format.specs.Types.{Kind, Typed, uncomment, is_symbol, type_of}
use Rattle.values.specs.Value.{value_from}
use Rattle.typing.specs.Symbols.{words_in}

-- the symbols of a type, if it is an `enum`
abbrev pub kind_symbols : Kind → Option (List Bytes)
kind_symbols Kind.int = none
kind_symbols (Kind.range x y) = none
kind_symbols Kind.real = none
kind_symbols Kind.line = none
kind_symbols (Kind.size n) = none
kind_symbols (Kind.enum ws) = some ws
kind_symbols Kind.bool = none
kind_symbols Kind.field = none
kind_symbols Kind.uuid = none

abbrev pub type_symbols : Option Typed → Option (List Bytes)
type_symbols none = none
type_symbols (some (Typed.kind k)) = kind_symbols k
type_symbols (some (Typed.alias n)) = none

abbrev pub listed : Option (List Bytes) → List Bytes
listed none = []
listed (some ws) = ws

-- the type behind the first word of the value at v: is it an `enum`, and what are its symbols
abbrev pub type_at : Bytes → ℕ → Option Typed
type_at d v = type_of int_bounds (after_word (value_from (drop v d)))

unfoldable pub is_enum_at : Bytes → ℕ → Bool
is_enum_at d v = is_some (type_symbols (type_at d v))

unfoldable pub enum_in : Bytes → ℕ → List Bytes
enum_in d v = listed (type_symbols (type_at d v))

-- the words from a place on, comments read as blanks; none where a parenthesis is wrong
unfoldable pub symbols_from : Bytes → ℕ → Option (List Bytes)
symbols_from d i = words_in (uncomment false (value_from (drop i d)))

-- the symbols of the `enum` at v begin at r
pub record Starts (d : Bytes) (v r : ℕ) : Type 0 where
  pub inside : r ≤ length d
  pub sound : is_some (symbols_from d r) ≡ true
  pub symbols : all is_symbol (listed (symbols_from d r)) ≡ true
  pub are : listed (symbols_from d r) ≡ enum_in d v
