-- The definitions' type or answer for each case of an enum.
use Rattle.numbers.specs.declared.Whole.{Whole}
use Rattle.std.specs.Prelude.{◌≤◌, ◌≡◌, Bool, true, false, List, [], length, Option as Maybe, Some, None}
use Rattle.std.proofs.Math.Option.{Option, none, some}
use Rattle.format.specs.Bytes.{Bytes, text, pick, same}
use Rattle.format.specs.Words.{words}
use Rattle.format.specs.Numbers.{int_bounds}
use Rattle.format.specs.Types.{Kind, Typed, uncomment, meets}
use Rattle.words.specs.Spans.{span}
use Rattle.numbers.specs.Meaning.{int_in}
use Rattle.typing.specs.declared.Shape.{Shape}
use Rattle.typing.specs.declared.kinds.Head.{Head}

-- are the comments of a text closed
abbrev pub is_read : Option Bytes → Bool
is_read none = false
is_read (some s) = true

-- the symbols of an enum, in the text behind the word `enum`
abbrev pub symbols_in : Option Bytes → List Bytes
symbols_in none = []
symbols_in (some s) = words s

-- a shape of a type's text s
abbrev pub typed_in : Bytes → Shape → Typed
typed_in s Shape.Int = Typed.kind Kind.int
typed_in s (Shape.Range a b) = Typed.kind (Kind.range (int_in a) (int_in b))
typed_in s Shape.Real = Typed.kind Kind.real
typed_in s Shape.Line = Typed.kind Kind.line
typed_in s (Shape.Size n) = Typed.kind (Kind.size n)
typed_in s (Shape.Enum a e) = Typed.kind (Kind.enum (symbols_in (uncomment false (span a e s))))
typed_in s Shape.Bool = Typed.kind Kind.bool
typed_in s Shape.Field = Typed.kind Kind.field
typed_in s Shape.Uuid = Typed.kind Kind.uuid
typed_in s (Shape.Alias a e) = Typed.alias (span a e s)

abbrev pub type_answer : Bytes → Maybe Shape → Option Typed
type_answer s (Some k) = some (typed_in s k)
type_answer s None = none

-- the places of a shape lie in the text that it was read from, and an enum's comments are closed
abbrev pub Sound : Bytes → Shape → Type 0
Sound s Shape.Int = Unit {0}
Sound s (Shape.Range a b) = Unit {0}
Sound s Shape.Real = Unit {0}
Sound s Shape.Line = Unit {0}
Sound s (Shape.Size n) = Unit {0}
Sound s (Shape.Enum a e) = (a ≤ e) × (e ≤ length s) × (is_read (uncomment false (span a e s)) ≡ true)
Sound s Shape.Bool = Unit {0}
Sound s Shape.Field = Unit {0}
Sound s Shape.Uuid = Unit {0}
Sound s (Shape.Alias a e) = (a ≤ e) × (e ≤ length s)

abbrev pub SoundType : Bytes → Maybe Shape → Type 0
SoundType s (Some k) = Sound s k
SoundType s None = Unit {0}

-- what a reader of types tells of the text s
pub record Told (s : Bytes) (answer : Option Typed) (r : Maybe Shape) : Type 0 where
  pub answers : type_answer s r ≡ answer
  pub sound : SoundType s r

-- the same of a type that holds no place: whatever the text is
abbrev pub Placeless : Option Typed → Maybe Shape → Type 0
Placeless answer r = (s : Bytes) → Told s answer r

-- what the first word says, if it is not `enum`
unfoldable pub head_of : Bytes → Head
head_of w =
    pick (same w (text "int")) (Head.Bare Shape.Int)
    (pick (same w (text "range")) Head.Range
    (pick (same w (text "real")) (Head.Bare Shape.Real)
    (pick (same w (text "line")) (Head.Bare Shape.Line)
    (pick (same w (text "size")) Head.Size
    (pick (same w (text "bool")) (Head.Bare Shape.Bool)
    (pick (same w (text "field")) (Head.Bare Shape.Field)
    (pick (same w (text "uuid")) (Head.Bare Shape.Uuid)
    Head.Name)))))))

abbrev pub range_in : Maybe Whole → Maybe Whole → Maybe Shape
range_in (Some a) (Some b) = Some (Shape.Range a b)
range_in (Some a) None = None
range_in None y = None

-- does a value meet a type; an alias is met by none
abbrev pub meets_typed : Typed → Bytes → Bool
meets_typed (Typed.kind k) v = meets int_bounds k v
meets_typed (Typed.alias n) v = false

abbrev pub meets_in : Bytes → Shape → Bytes → Bool
meets_in s k v = meets_typed (typed_in s k) v
