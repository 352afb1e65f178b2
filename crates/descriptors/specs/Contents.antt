-- What a field's name asks of its value.
use Rattle.words.specs.declared.Span.{Span}
use Rattle.std.specs.Prelude.{ℕ, ◌<◌, ◌≤◌, ◌≡◌, Bool, true, false, [], ◌∷◌, length, Option, Some, None}
use Rattle.format.specs.Bytes.{Bytes, text, same, is_some}
use Rattle.format.specs.Lines.{is_name}
use Rattle.format.specs.Numbers.{int_bounds}
use Rattle.format.specs.Rules.{size_rule, one, several, name_list, is_ordinary, is_shaped}
use Rattle.format.specs.Words.{words, is_type_name}
use Rattle.words.specs.Spans.{span}
use Rattle.descriptors.specs.Sizes.{field_of}
use Rattle.descriptors.specs.declared.shapes.Content.{Content}

-- a test that the code makes of a text answers as p does
abbrev pub TextTests : (Bytes → Bool → Type 0) → (Bytes → Bool) → Type 0
TextTests post p = (w : Bytes) (r : Bool) → post w r → r ≡ p w

-- the one word of a text, or that it has none or more
abbrev pub OnlyWord : Bytes → Option Span → Type 0
OnlyWord s (Some p) = (p.start < p.end) × (p.end ≤ length s) × (words s ≡ span p.start p.end s ∷ [])
OnlyWord s None = (p : Bytes → Bool) → one p (words s) ≡ false

-- may a word stand in a list of names, of such as may begin with `%` or of others
abbrev pub listable : Bool → Bytes → Bool
listable true = is_name
listable false = is_ordinary

-- is a value what is asked
abbrev pub holds : Content → Bytes → Bool
holds Content.Free v = true
holds Content.TypeName v = one is_type_name (words v)
holds Content.Names v = name_list v
holds Content.Ordinary v = several is_ordinary (words v)
holds Content.Name v = one is_name (words v)
holds Content.Size v = is_some (size_rule int_bounds (words v))
holds Content.Fault v = false

-- is one name asked, or a size
abbrev pub asks_name : Content → Bool
asks_name Content.Free = false
asks_name Content.TypeName = false
asks_name Content.Names = false
asks_name Content.Ordinary = false
asks_name Content.Name = true
asks_name Content.Size = false
asks_name Content.Fault = false

abbrev pub asks_size : Content → Bool
asks_size Content.Free = false
asks_size Content.TypeName = false
asks_size Content.Names = false
asks_size Content.Ordinary = false
asks_size Content.Name = false
asks_size Content.Size = true
asks_size Content.Fault = false

-- a name asks this, whatever the value and the count are; `%key` alone asks one name, and `%size` alone a size
pub record Asks (n : Bytes) (c : Content) : Type 0 where
  pub shaped : (v : Bytes) (k : ℕ) → is_shaped int_bounds (field_of n v k) ≡ holds c v
  pub key : same (text "%key") n ≡ asks_name c
  pub size : same (text "%size") n ≡ asks_size c
