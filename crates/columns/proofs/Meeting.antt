-- What a shape asks of a value that was read once.
use Prim.Native.Nat.{ℕ}
use mathlib.Core.Path.{◌≡◌, refl, sym, ap}
use mathlib.Core.Bool.{Bool, false}
use mathlib.Core.List.{List, [], ◌∷◌}
use denote.Enum.Declared.{tag_of}
use types.Run.{OneOf, miss}
use Rattle.format.specs.Bytes.{Bytes}
use Rattle.format.specs.Types.{uncomment}
use Rattle.words.specs.Spans.{span}
use Rattle.typing.specs.Meaning.{symbols_in, Sound, meets_in}
use Rattle.typing.specs.declared.Shape.{Shape}
use Rattle.typing.specs.contracts.Shape.{the_type as shape-type}
use Rattle.columns.specs.Readings.{met_by}

pub met-shape : (symbol : Bool) (v : Bytes) {k j : Shape} → k ≡ j → met_by j symbol v ≡ met_by k symbol v
met-shape symbol v e = ap (λ (k : Shape). met_by k symbol v) (sym e)

-- the symbols of a shape of the text s
abbrev pub symbols_of : Bytes → Shape → List Bytes
symbols_of s Shape.Int = []
symbols_of s (Shape.Range a b) = []
symbols_of s Shape.Real = []
symbols_of s Shape.Line = []
symbols_of s (Shape.Size n) = []
symbols_of s (Shape.Enum a e) = symbols_in (uncomment false (span a e s))
symbols_of s Shape.Bool = []
symbols_of s Shape.Field = []
symbols_of s Shape.Uuid = []
symbols_of s (Shape.Alias a e) = []

-- a kind that needs neither an int nor symbols
pub record Apart (k : Shape) : Type 0 where
  pub sound : Sound [] k
  pub meets : (symbol : Bool) (v : Bytes) → meets_in [] k v ≡ met_by k symbol v

abbrev others : List ℕ
others = 2 ∷ 3 ∷ 4 ∷ 6 ∷ 7 ∷ 8 ∷ []

pub apart : (k : Shape) → OneOf (2 ∷ 3 ∷ 4 ∷ 6 ∷ 7 ∷ 8 ∷ []) (tag_of shape-type k) → Apart k
apart Shape.Int h = absurd (miss others 0 tt h)
apart (Shape.Range a b) h = absurd (miss others 1 tt h)
apart Shape.Real h = record { sound = tt; meets = λ t v. refl }
apart Shape.Line h = record { sound = tt; meets = λ t v. refl }
apart (Shape.Size n) h = record { sound = tt; meets = λ t v. refl }
apart (Shape.Enum a e) h = absurd (miss others 5 tt h)
apart Shape.Bool h = record { sound = tt; meets = λ t v. refl }
apart Shape.Field h = record { sound = tt; meets = λ t v. refl }
apart Shape.Uuid h = record { sound = tt; meets = λ t v. refl }
apart (Shape.Alias a e) h = absurd (miss others 9 tt h)
