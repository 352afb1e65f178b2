-- The types of a descriptor by the ints that they are met by, where they are int or range.
use Rattle.std.specs.Prelude.{ℕ, ◌<◌, ◌≤◌, ◌≡◌, Bool, true, ◌||◌, not, leb, length, drop}
use Rattle.std.proofs.Math.Option.{Option, none, some}
use Rattle.format.specs.Bytes.{Bytes, any, among, is_some}
use Rattle.format.specs.Lists.{onward}
use Rattle.format.specs.Limits.{value_bytes}
use Rattle.format.specs.Numbers.{int_bounds}
use Rattle.format.specs.Records.{Field}
use Rattle.format.specs.Rules.{typed_names, Span, all_ints, span_of, auto}
use Rattle.values.specs.Value.{value_from}
use Rattle.records.specs.Walk.{record_in}
use Rattle.numbers.specs.Meaning.{int_in}
use Rattle.typing.specs.declared.Shape.{Shape}
use Rattle.columns.specs.Meets.{kind_of}

-- of a shape
abbrev pub span_in : Shape → Option Span
span_in Shape.Int = some (all_ints int_bounds)
span_in (Shape.Range a b) = some (record { low = int_in a; high = int_in b })
span_in Shape.Real = none
span_in Shape.Line = none
span_in (Shape.Size n) = none
span_in (Shape.Enum a e) = none
span_in Shape.Bool = none
span_in Shape.Field = none
span_in Shape.Uuid = none
span_in (Shape.Alias a e) = none

-- of the kind at the end of a `%type` value's type
abbrev pub type_span : Bytes → Bytes → Option Span
type_span d v = onward (span_of int_bounds) (kind_of d v)

-- there is a kind at the end of the type of the value at a place
pub record HasType (d : Bytes) (v : ℕ) : Type 0 where
  pub there : v < length d
  pub fits : length (value_from (drop v d)) ≤ value_bytes
  pub ends : is_some (kind_of d (value_from (drop v d))) ≡ true

-- is it int or range, or about no name of an `%auto` list
abbrev pub is_type_counted : Bytes → Bytes → Bool
is_type_counted d v = is_some (type_span d v) || not (any (λ (n : Bytes). among n (auto (record_in d))) (typed_names v))

-- does a field's value fit so many bytes
abbrev pub fits_in : ℕ → Field → Bool
fits_in m f = leb (length f.value) m
