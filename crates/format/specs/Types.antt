-- Types: the nine kinds, typedefs and aliases.
use Rattle.std.specs.Prelude.{ℕ, zero, suc, Bool, true, false, ◌&&◌, ◌||◌, not, List, [], ◌∷◌, map, leb, eqb, length}
use Rattle.std.proofs.Math.Option
use Rattle.std.proofs.Math.Option.{Option, none, some}
use Rattle.format.specs.Lists.{only_if, onward, is_filled, filter, front, behind}
use Rattle.format.specs.Bytes.{Bytes, text, pick, within, is_letter, is_digit, is_newline, all, any, is_spelt, same, among, is_some}
use Rattle.format.specs.Lines.{is_name}
use Rattle.format.specs.Words.{is_gap, not_gap, words, split, trim, is_type_name}
use Rattle.format.specs.Numbers.{Int, plus, minus, Bounds, is_digit_of, int_of, is_at_most, number_of, is_real}

-- "A type is one of nine kinds, some with numbers"
pub data Kind : Type 0 where
  int : Kind
  range : Int → Int → Kind
  real : Kind
  line : Kind
  size : ℕ → Kind
  enum : List Bytes → Kind
  bool : Kind
  field : Kind
  uuid : Kind

-- ".. or the name of a typedef"
pub data Typed : Type 0 where
  kind : Kind → Typed
  alias : Bytes → Typed

-- reading a type

-- kinds that take nothing after them
abbrev pub bare : Kind → List Bytes → Option Typed
bare k ws = only_if (not (is_filled ws)) (kind k)

-- "`MIN`, `MAX` are the ends of int"
abbrev pub end_of : Bounds → Bytes → Option Int
end_of b w = pick (same w (text "MIN")) (some (minus b.least)) (pick (same w (text "MAX")) (some (plus b.greatest)) (int_of b w))

-- a range, where there are both ends
abbrev pub ranged : Option Int → Option Int → Option Typed
ranged low high = onward (λ (x : Int). Option.map (λ (y : Int). kind (range x y)) high) low

-- "`range` with one or two ends (one: from 0 ..)"
abbrev pub range_of : Bounds → List Bytes → Option Typed
range_of b [] = none
range_of b (w ∷ []) = ranged (some (plus 0)) (end_of b w)
range_of b (w ∷ v ∷ []) = ranged (end_of b w) (end_of b v)
range_of b (w ∷ v ∷ u ∷ us) = none

-- "`size` n"
abbrev pub size_of : Bounds → List Bytes → Option Typed
size_of b [] = none
size_of b (w ∷ []) = Option.map (λ (n : ℕ). kind (size n)) (number_of b w)
size_of b (w ∷ v ∷ vs) = none

-- a typedef's name, with nothing after it
abbrev pub alias_of : Bytes → List Bytes → Option Typed
alias_of w ws = only_if (not (is_filled ws) && is_type_name w) (alias w)

abbrev pub plain_kind : Bounds → List Bytes → Option Typed
plain_kind b [] = none
plain_kind b (w ∷ ws) =
    pick (same w (text "int")) (bare int ws)
    (pick (same w (text "range")) (range_of b ws)
    (pick (same w (text "real")) (bare real ws)
    (pick (same w (text "line")) (bare line ws)
    (pick (same w (text "size")) (size_of b ws)
    (pick (same w (text "bool")) (bare bool ws)
    (pick (same w (text "field")) (bare field ws)
    (pick (same w (text "uuid")) (bare uuid ws)
    (alias_of w ws))))))))

-- a byte in front of a text, where there is one
abbrev pub cons_to : ℕ → Option Bytes → Option Bytes
cons_to c x = Option.map (λ (s : Bytes). c ∷ s) x

-- "comments in unnested parentheses, each read as a blank"; true: the text begins within one
abbrev pub uncomment : Bool → Bytes → Option Bytes
uncomment false [] = some []
uncomment false (c ∷ s) = pick (eqb c 40) (cons_to 32 (uncomment true s)) (pick (eqb c 41) none (cons_to c (uncomment false s)))
uncomment true [] = none
uncomment true (c ∷ s) = pick (eqb c 40) none (uncomment (not (eqb c 41)) s)

-- "symbols (letter or digit, then letters, digits, `_`, `-`)"
abbrev pub is_symbol_byte : ℕ → Bool
is_symbol_byte c = is_letter c || is_digit c || eqb c 95 || eqb c 45

abbrev pub is_symbol : Bytes → Bool
is_symbol s = is_spelt (λ (c : ℕ). is_letter c || is_digit c) is_symbol_byte s

-- "`enum` with one or more symbols"
abbrev pub enum_in : Bytes → Option Typed
enum_in s = let ws : List Bytes = words s in only_if (is_filled ws && all is_symbol ws) (kind (enum ws))

-- comments are looked for behind the word `enum`, which a parenthesis ends too
abbrev pub before_comment : ℕ → Bool
before_comment c = not_gap c && not (eqb c 40)

-- a type, by its first word
abbrev pub type_of : Bounds → Bytes → Option Typed
type_of b s =
    pick (same (front before_comment (behind is_gap s)) (text "enum"))
    (onward enum_in (uncomment false (behind before_comment (behind is_gap s))))
    (plain_kind b (words s))

-- typedefs

pub record Typedef : Type 0 where
  pub name : Bytes
  pub type : Typed

-- the type that a name is defined as
abbrev pub lookup : Bytes → List Typedef → Option Typed
lookup n [] = none
lookup n (d ∷ ds) = pick (same n d.name) (some d.type) (lookup n ds)

-- "An alias is followed to its end": `left` typedefs may still be met; none where a name is missing or in a loop
abbrev pub follow : ℕ → List Typedef → Typed → Option Kind
follow zero ds (kind k) = some k
follow zero ds (alias n) = none
follow (suc left) ds (kind k) = some k
follow (suc left) ds (alias n) = onward (λ (t : Typed). follow left ds t) (lookup n ds)

abbrev pub kind_of : List Typedef → Typed → Option Kind
kind_of ds t = follow (length ds) ds t

-- values

-- "a value is an int within them, ends included"
abbrev pub is_in_range : Int → Int → Option Int → Bool
is_in_range low high none = false
is_in_range low high (some x) = is_at_most low x && is_at_most x high

-- "8-4-4-4-12 hex digits, of either case"
abbrev pub is_uuid : Bytes → Bool
is_uuid s = let gs : List Bytes = split 45 s in same (map length gs) (8 ∷ 4 ∷ 4 ∷ 4 ∷ 12 ∷ []) && all (all (is_digit_of 16)) gs

-- "`yes no 0 1 true false`"
abbrev pub truths : List Bytes
truths = map text ("yes" ∷ "no" ∷ "0" ∷ "1" ∷ "true" ∷ "false" ∷ [])

-- "From now on `size` counts the bytes outside hex 80 to BF, which in UTF-8 is the count of characters." (document 02, order 7)
abbrev pub is_continuation : ℕ → Bool
is_continuation c = within 128 191 c

abbrev pub size_count : Bytes → ℕ
size_count v = length (filter (λ (c : ℕ). not (is_continuation c)) v)

-- "`line` (no newline)", "Blanks and newlines around a value are ignored for all kinds but `line` and `size`."
abbrev pub meets : Bounds → Kind → Bytes → Bool
meets b int v = is_some (int_of b (trim v))
meets b (range low high) v = is_in_range low high (int_of b (trim v))
meets b real v = is_real (trim v)
meets b line v = not (any is_newline v)
meets b (size n) v = leb (size_count v) n
meets b (enum ws) v = among (trim v) ws
meets b bool v = among (trim v) truths
meets b field v = is_name (trim v)
meets b uuid v = is_uuid (trim v)
