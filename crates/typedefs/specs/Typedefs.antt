-- The typedefs of a descriptor as structs: each with the place of its value, its type and its target.
use Rattle.std.specs.Prelude.{ℕ, ◌<◌, ◌≡◌, List, map, length, drop, get_or}
use Rattle.format.specs.Bytes.{Bytes, text}
use Rattle.format.specs.Words.{after_word}
use Rattle.format.specs.Numbers.{int_bounds}
use Rattle.format.specs.Types.{type_of}
use Rattle.values.specs.Value.{value_from}
use Rattle.records.specs.Named.{values_from}
use Rattle.typing.specs.Meaning.{Told}
use Rattle.typedefs.specs.Walks.{names_from}
use Rattle.typedefs.specs.Targets.{target_in, Bounded, targets_in, follow_of}
use Rattle.typedefs.specs.declared.Target.{Target}
use Rattle.typedefs.specs.declared.Followed.{Followed}
use Rattle.typedefs.specs.declared.Typedef.{Typedef}
use Rattle.typedefs.specs.declared.Typedefs.{Typedefs}

-- the text of the type of the value at a place
abbrev pub type_text : Bytes → ℕ → Bytes
type_text d v = after_word (value_from (drop v d))

pub record IsTypedef (d : Bytes) (v : ℕ) (r : Typedef) : Type 0 where
  pub place : r.value ≡ v
  pub told : Told (type_text d v) (type_of int_bounds (type_text d v)) r.kind
  pub target_is : r.target ≡ target_in (names_from d 0) (value_from (drop v d))

-- one for each of the first n places of a list
abbrev pub Typed : Bytes → List ℕ → List Typedef → ℕ → Type 0
Typed d places rows n = (k : ℕ) (other : Typedef) → k < n → IsTypedef d (get_or places k 0) (get_or rows k other)

pub record AreTypedefs (d : Bytes) (places : List ℕ) (r : Typedefs) : Type 0 where
  pub bounded : Bounded r.targets
  pub long : length r.rows ≡ 32
  pub targets-are : targets_in r.targets ≡ map (target_in (names_from d 0)) (values_from d (text "%typedef") 0)
  pub row : Typed d places r.rows r.targets.count

-- the typedef in which a chain ends, or t
abbrev pub row_of : List Typedef → Typedef → Followed → Typedef
row_of rows t (Followed.End k) = get_or rows k t
row_of rows t Followed.Missing = t
row_of rows t Followed.Loop = t

abbrev pub row_by : Typedefs → Typedef → Target → Typedef
row_by r t Target.Kind = t
row_by r t (Target.Alias j) = row_of r.rows t (follow_of r.targets.count (targets_in r.targets) j)
row_by r t Target.Missing = t

-- and in which the type of t ends
abbrev pub end_row : Typedefs → Typedef → Typedef
end_row r t = row_by r t t.target
