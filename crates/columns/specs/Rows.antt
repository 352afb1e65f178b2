-- The rows of a table of kinds: what each says, and a value held against them.
use Rattle.std.specs.Prelude.{ℕ, zero, suc, ◌≤◌, ◌<◌, ◌≡◌, Bool, true, ◌&&◌, ◌||◌, not, List, ltb, length, get_or}
use Rattle.std.proofs.Math.Option.{Option}
use Rattle.format.specs.Bytes.{Bytes, text, among}
use Rattle.format.specs.Limits.{file_bytes, type_fields}
use Rattle.format.specs.Words.{trim}
use Rattle.format.specs.Types.{Kind}
use Rattle.records.specs.Walk.{record_in}
use Rattle.typing.specs.declared.Shape.{Shape}
use Rattle.records.specs.Named.{values_from}
use Rattle.terms.specs.Sets.{in_set}
use Rattle.dictionary.specs.Known.{type_value}
use Rattle.columns.specs.Readings.{met_by}
use Rattle.enums.specs.Enums.{enum_in}
use Rattle.enums.specs.Rows.{TextAt, leader_of, IsSymbols}
use Rattle.columns.specs.Meets.{meets_kind, kind_of}
use Rattle.columns.specs.declared.Row.{Row}
use Rattle.columns.specs.declared.Kinds.{Kinds}
use Rattle.columns.specs.declared.Typed.{Typed}

-- where the text of a kind stands that was read at v: only an `enum` needs it
abbrev pub text_of : Shape → ℕ → ℕ
text_of Shape.Int v = file_bytes
text_of (Shape.Range a b) v = file_bytes
text_of Shape.Real v = file_bytes
text_of Shape.Line v = file_bytes
text_of (Shape.Size n) v = file_bytes
text_of (Shape.Enum a e) v = v
text_of Shape.Bool v = file_bytes
text_of Shape.Field v = file_bytes
text_of Shape.Uuid v = file_bytes
text_of (Shape.Alias a e) v = file_bytes

-- a shape and the place of its text ask of a value what a kind asks; an `enum` is told whether the value is one of its symbols
pub record IsKind (d : Bytes) (k : Option Kind) (shape : Shape) (place : ℕ) : Type 0 where
  pub texts : place < file_bytes → TextAt d place
  pub asks : (v : Bytes) (symbol : Bool) → (place < file_bytes → symbol ≡ among (trim v) (enum_in d place)) → met_by shape symbol v ≡ meets_kind k v

-- a row for any place without one
abbrev pub any_row : Row
any_row = record { kind = Shape.Line }

-- a row for each `%type` field, with the kind at the end of its type
pub record IsKinds (d : Bytes) (r : Kinds) : Type 0 where
  pub few : r.count ≤ type_fields
  pub count : r.count ≡ length (values_from d (text "%type") 0)
  pub rows_long : length r.rows ≡ type_fields
  pub texts-long : length r.texts ≡ type_fields
  pub row : (k : ℕ) → k < r.count → IsKind d (kind_of d (type_value (record_in d) k)) (get_or r.rows k any_row).kind (get_or r.texts k 0)

-- those kinds, and a table of the symbols of some of them
pub record IsTyped (d : Bytes) (l : List ℕ) (t : Typed) : Type 0 where
  pub kinds-are : IsKinds d t.kinds
  pub symbols-are : IsSymbols d t.kinds.texts l t.symbols
  pub within : t.symbols.next ≤ t.kinds.count

-- is a value a symbol of row k, if x tells of which texts it is one
unfoldable pub is_symbol : List ℕ → ℕ → ℕ → ℕ → Bool
is_symbol texts from x k = ltb (get_or texts k 0) file_bytes && in_set (leader_of texts from k) x

-- does a value meet row k
abbrev pub row_asks : Kinds → ℕ → ℕ → Bytes → ℕ → Bool
row_asks r from x v k = met_by (get_or r.rows k any_row).kind (is_symbol r.texts from x k) v

-- and those of m rows, from k on, that are in a set of tags
abbrev pub rows_ask : Kinds → ℕ → ℕ → ℕ → Bytes → ℕ → ℕ → Bool
rows_ask r from x tags v k zero = true
rows_ask r from x tags v k (suc m) = (not (in_set k tags) || row_asks r from x v k) && rows_ask r from x tags v (suc k) m
