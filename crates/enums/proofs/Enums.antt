-- An `enum` by its word, and its symbols.
use Prim.Native.Nat.{ℕ}
use mathlib.Core.Path.{◌≡◌, refl, sym, ◌∙◌}
use mathlib.Core.Bool.{Bool, true, false, ◌&&◌, not, and-eq-true_iff, false≢true}
use mathlib.Core.List.{List, [], ◌∷◌}
use mathlib.Core.Option.{Option, none, some, map}
use Rattle.format.specs.Lists.{only_if, onward, is_filled, behind, front}
use Rattle.format.specs.Bytes.{Bytes, text, pick, all, same, is_some}
use Rattle.format.specs.Words.{is_gap, words, is_type_name}
use Rattle.format.specs.Numbers.{Int, Bounds, int_bounds, number_of}
use Rattle.format.specs.Types.{Kind, Typed, bare, end_of, ranged, range_of, size_of, alias_of, plain_kind, uncomment, is_symbol, enum_in as enum_of, before_comment, type_of}
use Rattle.typing.specs.Symbols.{words_in}
use Rattle.enums.specs.Enums.{type_symbols, listed}

-- no other word makes an `enum`
abbrev NoEnum : Option Typed → Type 0
NoEnum t = is_some (type_symbols t) ≡ false

pick_no : (b : Bool) (x y : Option Typed) → NoEnum x → NoEnum y → NoEnum (pick b x y)
pick_no true x y p q = p
pick_no false x y p q = q

bare-no : (k : Kind) (ws : List Bytes) → NoEnum (some (Typed.kind k)) → NoEnum (bare k ws)
bare-no k [] h = h
bare-no k (w ∷ ws) h = refl

ranged-no : (x y : Option Int) → NoEnum (ranged x y)
ranged-no none y = refl
ranged-no (some x) none = refl
ranged-no (some x) (some y) = refl

range-no : (b : Bounds) (ws : List Bytes) → NoEnum (range_of b ws)
range-no b [] = refl
range-no b (w ∷ []) = ranged-no (some (Int.plus 0)) (end_of b w)
range-no b (w ∷ v ∷ []) = ranged-no (end_of b w) (end_of b v)
range-no b (w ∷ v ∷ u ∷ us) = refl

sized-no : (n : Option ℕ) → NoEnum (map (λ (m : ℕ). Typed.kind (Kind.size m)) n)
sized-no none = refl
sized-no (some n) = refl

size-no : (b : Bounds) (ws : List Bytes) → NoEnum (size_of b ws)
size-no b [] = refl
size-no b (w ∷ []) = sized-no (number_of b w)
size-no b (w ∷ v ∷ vs) = refl

alias-no : (w : Bytes) (ws : List Bytes) → NoEnum (alias_of w ws)
alias-no w ws = go (not (is_filled ws) && is_type_name w)
  where
    go : (t : Bool) → NoEnum (only_if t (Typed.alias w))
    go true = refl
    go false = refl

plain-no : (b : Bounds) (ws : List Bytes) → NoEnum (plain_kind b ws)
plain-no b [] = refl
plain-no b (w ∷ ws) =
    pick_no (same w (text "int")) _ _ (bare-no Kind.int ws refl)
    (pick_no (same w (text "range")) _ _ (range-no b ws)
    (pick_no (same w (text "real")) _ _ (bare-no Kind.real ws refl)
    (pick_no (same w (text "line")) _ _ (bare-no Kind.line ws refl)
    (pick_no (same w (text "size")) _ _ (size-no b ws)
    (pick_no (same w (text "bool")) _ _ (bare-no Kind.bool ws refl)
    (pick_no (same w (text "field")) _ _ (bare-no Kind.field ws refl)
    (pick_no (same w (text "uuid")) _ _ (bare-no Kind.uuid ws refl)
    (alias-no w ws))))))))

-- the text behind the word `enum`
abbrev pub body : Bytes → Bytes
body s = behind before_comment (behind is_gap s)

-- what its words are, if it makes an `enum`
pub record Body (s : Bytes) (t : Option Typed) : Type 0 where
  pub sound : is_some (words_in (uncomment false (body s))) ≡ true
  pub good : all is_symbol (listed (words_in (uncomment false (body s)))) ≡ true
  pub are : listed (words_in (uncomment false (body s))) ≡ listed (type_symbols t)

symbols-good : (ws : List Bytes) (t : Bool) → is_filled ws && all is_symbol ws ≡ t → is_some (type_symbols (only_if t (Typed.kind (Kind.enum ws)))) ≡ true
    → (all is_symbol ws ≡ true) × (ws ≡ listed (type_symbols (only_if t (Typed.kind (Kind.enum ws)))))
symbols-good ws true q e = (((and-eq-true_iff (is_filled ws) (all is_symbol ws)).0 q).1, refl)
symbols-good ws false q e = absurd (false≢true e)

enum-good : (o : Option Bytes) → is_some (type_symbols (onward enum_of o)) ≡ true
    → (is_some (words_in o) ≡ true) × (all is_symbol (listed (words_in o)) ≡ true) × (listed (words_in o) ≡ listed (type_symbols (onward enum_of o)))
enum-good none e = absurd (false≢true e)
enum-good (some u) e = let h = symbols-good (words u) (is_filled (words u) && all is_symbol (words u)) refl e in (refl, h.0, h.1)

pub enum-body : (s : Bytes) → is_some (type_symbols (type_of int_bounds s)) ≡ true → Body s (type_of int_bounds s)
enum-body s e = go (same (front before_comment (behind is_gap s)) (text "enum")) e
  where
    go : (t : Bool) → is_some (type_symbols (pick t (onward enum_of (uncomment false (body s))) (plain_kind int_bounds (words s)))) ≡ true
        → Body s (pick t (onward enum_of (uncomment false (body s))) (plain_kind int_bounds (words s)))
    go true h = let g = enum-good (uncomment false (body s)) h in record { sound = g.0; good = g.1; are = g.2 }
    go false h = absurd (false≢true (sym (plain-no int_bounds (words s)) ∙ h))
