-- A shape that was read of a value's text, and the kind that it holds.
use Prim.Native.Nat.{ℕ, ◌≤◌, ◌<◌}
use native.Mathlib.Omega.{arith}
use mathlib.Core.Path.{◌≡◌, refl, sym, ap, ◌∙◌}
use mathlib.Core.Bool.{Bool, true, false, false≢true}
use mathlib.Core.List.{List, [], ◌∷◌}
use mathlib.Core.Option.{Option, some}
use denote.Enum.Declared.{tag_of}
use lib.ListN.{length, drop}
use types.Run.{OneOf, miss}
use Rattle.format.specs.Bytes.{Bytes, among, is_some}
use Rattle.format.specs.Words.{trim, after_word}
use Rattle.format.specs.Numbers.{int_bounds}
use Rattle.format.specs.Types.{Kind, Typed, uncomment, meets}
use Rattle.values.specs.Value.{value_from}
use Rattle.words.specs.Spans.{span}
use Rattle.numbers.specs.Meaning.{int_in}
use Rattle.typing.specs.Meaning.{symbols_in, typed_in}
use Rattle.typing.specs.declared.Shape.{Shape}
use Rattle.typing.specs.contracts.Shape.{the_type}
use Rattle.typedefs.proofs.Following.{kind_only}
use Rattle.columns.specs.Readings.{met_by}
use Rattle.enums.specs.Enums.{type_symbols, listed, type_at, is_enum_at, enum_in}
use Rattle.enums.specs.Rows.{TextAt}
use Rattle.columns.specs.Meets.{meets_kind}
use Rattle.columns.specs.Rows.{text_of, IsKind}

abbrev others : List ℕ
others = 0 ∷ 1 ∷ 2 ∷ 3 ∷ 4 ∷ 6 ∷ 7 ∷ 8 ∷ 9 ∷ []

pub text-none : (k : Shape) (v : ℕ) → OneOf (0 ∷ 1 ∷ 2 ∷ 3 ∷ 4 ∷ 6 ∷ 7 ∷ 8 ∷ 9 ∷ []) (tag_of the_type k) → 65536 ≡ text_of k v
text-none Shape.Int v h = refl
text-none (Shape.Range a b) v h = refl
text-none Shape.Real v h = refl
text-none Shape.Line v h = refl
text-none (Shape.Size n) v h = refl
text-none (Shape.Enum a e) v h = absurd (miss others 5 tt h)
text-none Shape.Bool v h = refl
text-none Shape.Field v h = refl
text-none Shape.Uuid v h = refl
text-none (Shape.Alias a e) v h = refl

-- the shape of the value at v
module _ (d : Bytes) (v : ℕ) (there : v < 65536) (inside : v ≤ length d) (fits : length (value_from (drop v d)) ≤ 4096) where
  abbrev type_text : Bytes
  type_text = after_word (value_from (drop v d))

  pub enum-text : (ws : List Bytes) → type_at d v ≡ some (Typed.kind (Kind.enum ws)) → TextAt d v
  unfolding is_enum_at
  enum-text ws e = record { inside = inside; fits = fits; enum = ap (λ (t : Option Typed). is_some (type_symbols t)) e }

  pub enum-symbols : (ws : List Bytes) → type_at d v ≡ some (Typed.kind (Kind.enum ws)) → enum_in d v ≡ ws
  unfolding enum_in
  enum-symbols ws e = ap (λ (t : Option Typed). listed (type_symbols t)) e

  module _ (o : Option Kind) (ends : o ≡ kind_only (type_at d v)) (some-kind : is_some o ≡ true) where
    -- any but an `enum`
    plain : (k : Kind) (shape : Shape) → ((symbol : Bool) (u : Bytes) → met_by shape symbol u ≡ meets int_bounds k u) → type_at d v ≡ some (Typed.kind k) → IsKind d o shape 65536
    plain k shape h e =
        record {
          texts = λ l. absurd (omega arith);
          asks = λ u symbol q. h symbol u ∙ ap (λ (x : Option Kind). meets_kind x u) (sym (ends ∙ ap kind_only e));
        }

    enum : (a e : ℕ) (ws : List Bytes) → type_at d v ≡ some (Typed.kind (Kind.enum ws)) → IsKind d o (Shape.Enum a e) v
    enum a e ws q =
        record {
          texts = λ l. enum-text ws q;
          asks = λ u symbol h. h there ∙ ap (among (trim u)) (enum-symbols ws q) ∙ ap (λ (x : Option Kind). meets_kind x u) (sym (ends ∙ ap kind_only q));
        }

    pub kind-is : (shape : Shape) → type_at d v ≡ some (typed_in type_text shape) → IsKind d o shape (text_of shape v)
    kind-is Shape.Int e = plain Kind.int Shape.Int (λ t u. refl) e
    kind-is (Shape.Range a b) e = plain (Kind.range (int_in a) (int_in b)) (Shape.Range a b) (λ t u. refl) e
    kind-is Shape.Real e = plain Kind.real Shape.Real (λ t u. refl) e
    kind-is Shape.Line e = plain Kind.line Shape.Line (λ t u. refl) e
    kind-is (Shape.Size n) e = plain (Kind.size n) (Shape.Size n) (λ t u. refl) e
    kind-is (Shape.Enum a b) e = enum a b (symbols_in (uncomment false (span a b type_text))) e
    kind-is Shape.Bool e = plain Kind.bool Shape.Bool (λ t u. refl) e
    kind-is Shape.Field e = plain Kind.field Shape.Field (λ t u. refl) e
    kind-is Shape.Uuid e = plain Kind.uuid Shape.Uuid (λ t u. refl) e
    kind-is (Shape.Alias a b) e = absurd (false≢true (sym (ap is_some (ends ∙ ap kind_only e)) ∙ some-kind))
