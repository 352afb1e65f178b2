-- The code's tokens, as the fronts of a text that the reader tells.
use Rattle.std.specs.Prelude.{ℕ, ◌-◌, take, drop}
use Rattle.std.proofs.Math.Option.{Option, none, some}
use Rattle.format.specs.Bytes.{Bytes}
use Rattle.numbers.specs.Meaning.{int_in}
use Rattle.selection.specs.Expressions.{Operator as Comparing, equals, differs, less_than, at_most, more_than, at_least, int, string, Sign, comparing, not_sign, and_sign, or_sign, open_sign, close_sign, field_name, operand}
use Rattle.selection.specs.Reading.{Front, no_part, one_blank, one_part, sign_front}
use Rattle.selection.specs.declared.parts.Operator.{Operator}
use Rattle.selection.specs.declared.parts.Symbol.{Symbol}
use Rattle.selection.specs.declared.parts.Token.{Token}

abbrev pub operator_in : Operator → Comparing
operator_in Operator.Equals = equals
operator_in Operator.Differs = differs
operator_in Operator.LessThan = less_than
operator_in Operator.AtMost = at_most
operator_in Operator.MoreThan = more_than
operator_in Operator.AtLeast = at_least

abbrev pub sign_in : Symbol → Option Sign
sign_in (Symbol.Comparing o) = some (comparing (operator_in o))
sign_in Symbol.Not = some not_sign
sign_in Symbol.And = some and_sign
sign_in Symbol.Or = some or_sign
sign_in Symbol.Open = some open_sign
sign_in Symbol.Close = some close_sign
sign_in Symbol.Unknown = none

-- the front of the text that a token was found in
abbrev pub front_in : Bytes → Token → Front
front_in s Token.Nothing = no_part
front_in s Token.Gap = one_blank
front_in s (Token.Name n) = one_part (field_name (take n s)) n
front_in s (Token.Int w n) = one_part (operand (int (int_in w))) n
front_in s (Token.Text n) = one_part (operand (string (take (n - 2) (drop 1 s)))) n
front_in s (Token.Sign m) = sign_front (sign_in m)

-- how many bytes it has
abbrev pub operator_bytes : Operator → ℕ
operator_bytes Operator.Equals = 1
operator_bytes Operator.Differs = 2
operator_bytes Operator.LessThan = 1
operator_bytes Operator.AtMost = 2
operator_bytes Operator.MoreThan = 1
operator_bytes Operator.AtLeast = 2

abbrev pub symbol_bytes : Symbol → ℕ
symbol_bytes (Symbol.Comparing o) = operator_bytes o
symbol_bytes Symbol.Not = 1
symbol_bytes Symbol.And = 2
symbol_bytes Symbol.Or = 2
symbol_bytes Symbol.Open = 1
symbol_bytes Symbol.Close = 1
symbol_bytes Symbol.Unknown = 1

abbrev pub token_bytes : Token → ℕ
token_bytes Token.Nothing = 1
token_bytes Token.Gap = 1
token_bytes (Token.Name n) = n
token_bytes (Token.Int w n) = n
token_bytes (Token.Text n) = n
token_bytes (Token.Sign g) = symbol_bytes g
