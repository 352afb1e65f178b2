-- Tagged fields from a place of a request on.
use Rattle.requests.specs.declared.fields.Number.{Number}
use Rattle.requests.specs.declared.fields.Place.{Place}
use Rattle.std.specs.Prelude.{ℕ, ◌≤◌, ◌<◌, ◌≡◌, false, List, [], ◌∷◌, eqb, length, drop, Option as Maybe, Some, None}
use Rattle.std.proofs.Math.Option.{Option, none, some}
use Rattle.format.specs.Lists.{onward}
use Rattle.format.specs.Bytes.{Bytes}
use Rattle.format.specs.Requests.{Tagged as Field, tagged, with_number, changes}
use Rattle.format.specs.Edits.{Change, Act, Edit}
use Rattle.words.specs.Spans.{span}
use Rattle.words.specs.declared.Span.{Span}
use Rattle.requests.specs.declared.fields.Tag.{Tag}
use Rattle.requests.specs.declared.fields.Tagged.{Tagged}

abbrev pub tag_no : Tag → ℕ
tag_no Tag.Kind = 1
tag_no Tag.Set = 2
tag_no Tag.Record = 3
tag_no Tag.Name = 4
tag_no Tag.Occurrence = 5
tag_no Tag.Value = 6
tag_no Tag.NewName = 7

abbrev pub bytes_of : Bytes → Span → Bytes
bytes_of s p = span p.start p.end s

abbrev pub InSpan : Bytes → Span → Type 0
InSpan s p = (p.start ≤ p.end) × (p.end ≤ length s)

-- the fields from a place on, and a field in front of fields where they are
abbrev pub fields_from : Bytes → ℕ → Option (List Field)
fields_from s i = tagged (drop i s)

abbrev pub in_front : ℕ → Bytes → Option (List Field) → Option (List Field)
in_front t c x = onward (λ (fs : List Field). some (record { tag = t; contents = c } ∷ fs)) x

-- what the field at i says of the fields from i on
abbrev pub FieldAt : Bytes → ℕ → Tagged → Type 0
FieldAt s i (Tagged.At t a b) = (fields_from s i ≡ in_front t (span a b s) (fields_from s b)) × (i < a) × (a ≤ b) × (b ≤ length s)
FieldAt s i Tagged.End = (fields_from s i ≡ some []) × (length s ≤ i)
FieldAt s i Tagged.Fault = (fields_from s i ≡ none) × (i < length s)

-- fields that do not begin with one of a tag
abbrev pub NoText : ℕ → Option (List Field) → Type 0
NoText t none = Unit {0}
NoText t (some []) = Unit {0}
NoText t (some (f ∷ fs)) = eqb t f.tag ≡ false

abbrev pub TextAt : Bytes → ℕ → ℕ → Maybe Span → Type 0
TextAt s i t (Some p) = (fields_from s i ≡ in_front t (bytes_of s p) (fields_from s p.end)) × (i < p.start) × InSpan s p
TextAt s i t None = NoText t (fields_from s i)

-- whatever follows from a number, and from the place of a field, follows from what is read
abbrev pub NumberAt : Bytes → ℕ → ℕ → Maybe Number → Type 0
NumberAt s i t (Some nx) = ((f : ℕ → List Field → Option Edit) → onward (with_number t f) (fields_from s i) ≡ onward (f nx.value) (fields_from s nx.next)) × (nx.next ≤ length s)
NumberAt s i t None = (f : ℕ → List Field → Option Edit) → onward (with_number t f) (fields_from s i) ≡ none

abbrev pub in_field : ℕ → Bytes → ℕ → Option Change → Option Edit
in_field r n o x = onward (λ (c : Change). some (Edit.on r (Act.change n o c))) x

abbrev pub PlaceAt : Bytes → ℕ → Maybe Place → Type 0
PlaceAt s i (Some p) = ((f : List Field → Option Change) → onward (changes f) (fields_from s i) ≡ in_field p.row (bytes_of s p.name) p.occurrence (onward f (fields_from s p.next))) × InSpan s p.name × (p.next ≤ length s)
PlaceAt s i None = (f : List Field → Option Change) → onward (changes f) (fields_from s i) ≡ none
