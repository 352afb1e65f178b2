-- For which records an expression holds.
use Rattle.std.specs.Prelude.{Bool, false, ◌&&◌, ◌||◌, not}
use Rattle.std.proofs.Math.Option.{Option, none, some}
use Rattle.format.specs.Bytes.{Bytes, same, any}
use Rattle.format.specs.Words.{trim}
use Rattle.format.specs.Numbers.{Int, int_bounds, int_of, is_at_most}
use Rattle.format.specs.Records.{Record}
use Rattle.format.specs.Sets.{values_of}
use Rattle.selection.specs.Expressions.{Operator, equals, differs, less_than, at_most, more_than, at_least, Operand, int, string, Expression, comparison, negation, conjunction, disjunction}

-- two ints compared as numbers, so that −0 equals 0
abbrev pub ints_compare : Operator → Int → Int → Bool
ints_compare equals x y = is_at_most x y && is_at_most y x
ints_compare differs x y = not (is_at_most x y && is_at_most y x)
ints_compare less_than x y = not (is_at_most y x)
ints_compare at_most x y = is_at_most x y
ints_compare more_than x y = not (is_at_most x y)
ints_compare at_least x y = is_at_most y x

-- "occurrences that aren't ints don't", for `!=` too
abbrev pub int_compares : Operator → Option Int → Int → Bool
int_compares o none y = false
int_compares o (some x) y = ints_compare o x y

-- "Strings take only `=` and `!=`, on bytes."
abbrev pub string_compares : Operator → Bool → Bool
string_compares equals b = b
string_compares differs b = not b
string_compares less_than b = false
string_compares at_most b = false
string_compares more_than b = false
string_compares at_least b = false

-- does one occurrence, by its value, satisfy a comparison
abbrev pub satisfies : Operator → Operand → Bytes → Bool
satisfies o (int y) v = int_compares o (int_of int_bounds (trim v)) y
satisfies o (string w) v = string_compares o (same v w)

-- "A comparison holds if some occurrence of the field satisfies it"; each chooses its occurrence by itself
unfoldable pub holds : Expression → Record → Bool
holds (comparison n o x) r = any (satisfies o x) (values_of n r)
holds (negation e) r = not (holds e r)
holds (conjunction e f) r = holds e r && holds f r
holds (disjunction e f) r = holds e r || holds f r
