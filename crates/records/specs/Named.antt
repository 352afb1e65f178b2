-- The next field of a name: where it stands, its value, and the values behind it.
use Rattle.records.specs.declared.ValuePlace.{ValuePlace}
use Rattle.std.specs.Prelude.{ℕ, zero, suc, ◌≤◌, ◌<◌, ◌≡◌, true, List, [], ◌∷◌, length, drop, Option, Some, None}
use Rattle.format.specs.Bytes.{Bytes}
use Rattle.format.specs.Pieces.{read_of}
use Rattle.format.specs.Sets.{values_of}
use Rattle.values.specs.Value.{value_from}
use Rattle.words.specs.Spans.{span}
use Rattle.records.specs.Places.{is_readable, field_in}
use Rattle.records.specs.Fields.{fields_from}

-- the values of a name from byte i on
abbrev pub values_from : Bytes → Bytes → ℕ → List Bytes
values_from s name i = values_of name (fields_from s i)

-- the next of them, from v to e, and those behind it; it ends by itself, whatever stands behind
pub record ValueHere (s name : Bytes) (i v e : ℕ) : Type 0 where
  pub moves : i < e
  pub within : v ≤ e
  pub inside : e ≤ length s
  pub readable : is_readable (drop e s) ≡ true
  pub value_there : v < length s
  pub ends-itself : value_from (drop v s) ≡ value_from (span v e s)
  pub values : values_from s name i ≡ value_from (span v e s) ∷ values_from s name e

abbrev pub ValueNext : Bytes → Bytes → ℕ → Option ValuePlace → Type 0
ValueNext s name i None = values_from s name i ≡ []
ValueNext s name i (Some f) = ValueHere s name i f.value f.end

-- the occurrence o of a name from byte i on
abbrev pub occurrence : Bytes → Bytes → ℕ → ℕ → Option ValuePlace
occurrence s name i o = field_in name (read_of (drop i s)) i o

-- is the one found the first, and do the others stand behind it
abbrev pub first_or : Option ValuePlace → (ℕ → Option ValuePlace) → ℕ → Option ValuePlace
first_or x later zero = x
first_or x later (suc o) = later o

abbrev pub OccurrenceNext : Bytes → Bytes → ℕ → Option ValuePlace → Type 0
OccurrenceNext s name i None = (o : ℕ) → occurrence s name i o ≡ None
OccurrenceNext s name i (Some f) = (o : ℕ) → occurrence s name i o ≡ first_or (Some f) (occurrence s name f.end) o

-- its value does not stand before it
abbrev pub ValueBehind : Option ValuePlace → Type 0
ValueBehind None = Unit {0}
ValueBehind (Some f) = f.start ≤ f.value

pub record NamedNext (s name : Bytes) (i : ℕ) (x : Option ValuePlace) : Type 0 where
  pub behind : ValueBehind x
  pub value : ValueNext s name i x
  pub found : OccurrenceNext s name i x
