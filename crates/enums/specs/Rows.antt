-- Rows by the places of their texts, the symbols of those, and what a table of them says of a value.
use Rattle.std.specs.Prelude.{ℕ, zero, suc, ◌+◌, ◌-◌, ◌≤◌, ◌<◌, ◌≡◌, Bool, true, ◌&&◌, List, [], ◌∷◌, ◌++◌, map, ltb, eqb, length, get_or, take, drop}
use Rattle.format.specs.Bytes.{Bytes, pick, among}
use Rattle.format.specs.Limits.{file_bytes, value_bytes}
use Rattle.values.specs.Value.{value_from}
use Rattle.terms.specs.Sets.{Term, term_of, in_set, tagged}
use Rattle.terms.specs.Entries.{terms_of}
use Rattle.terms.specs.Order.{IsTable}
use Rattle.terms.specs.Adding.{Adding, value_terms}
use Rattle.enums.specs.Enums.{is_enum_at, enum_in}
use Rattle.enums.specs.declared.Added.{Added}
use Rattle.enums.specs.declared.Symbols.{Symbols}

-- each text below the end of any file of the first rows is an `enum` that a value of the right length holds
pub record TextAt (d : Bytes) (v : ℕ) : Type 0 where
  pub inside : v ≤ length d
  pub fits : length (value_from (drop v d)) ≤ value_bytes
  pub enum : is_enum_at d v ≡ true

abbrev pub Texts : Bytes → List ℕ → ℕ → Type 0
Texts d texts to = (k : ℕ) → k < to → get_or texts k 0 < file_bytes → TextAt d (get_or texts k 0)

-- the first row from one on with the text of a row
unfoldable pub place_of : ℕ → List ℕ → ℕ
place_of v [] = 0
place_of v (x ∷ xs) = pick (eqb x v) 0 (suc (place_of v xs))

unfoldable pub leader_of : List ℕ → ℕ → ℕ → ℕ
leader_of texts from row = from + place_of (get_or texts row 0) (drop from texts)

-- the symbols of a row, if it is the first with its text; those of m rows from one on
abbrev pub is_first : List ℕ → ℕ → ℕ → Bool
is_first texts from row = ltb (get_or texts row 0) file_bytes && eqb (leader_of texts from row) row

abbrev pub symbol_row : Bytes → List ℕ → ℕ → ℕ → List Term
symbol_row d texts from row = pick (is_first texts from row) (map (term_of row) (enum_in d (get_or texts row 0))) []

abbrev pub symbol_rows : Bytes → List ℕ → ℕ → ℕ → ℕ → List Term
symbol_rows d texts from row zero = []
symbol_rows d texts from row (suc m) = symbol_row d texts from row ++ symbol_rows d texts from (suc row) m

abbrev pub rows_left : Bytes → List ℕ → ℕ → ℕ → ℕ → List Term
rows_left d texts from to row = symbol_rows d texts from row (to - row)

-- the symbols of the rows from one on were put, up to the next
pub record RowsAdded (d : Bytes) (texts : List ℕ) (from to : ℕ) (l m : List ℕ) (r : Added) : Type 0 where
  pub begins : from ≤ r.next
  pub within : r.next ≤ to
  pub room : r.count ≤ length m
  pub some : value_terms ≤ length l → from < to → from < r.next
  pub adding : Adding d l 0 (rows_left d texts from to from) (rows_left d texts from to r.next) m r.count

-- the rows of a set, from one on up to another, are each the first with its text
abbrev pub Leads : List ℕ → ℕ → ℕ → ℕ → Type 0
Leads texts from next x = (k : ℕ) → from ≤ k → k < next → in_set k x ≡ true → leader_of texts from k ≡ k

-- x tells of a value w of which rows, from one on up to another, it is a symbol: those of one text under the number of the first, and no others
pub record Found (d : Bytes) (texts : List ℕ) (from next : ℕ) (w : Bytes) (x : ℕ) : Type 0 where
  pub tells : (k : ℕ) → from ≤ k → k < next → get_or texts k 0 < file_bytes → in_set (leader_of texts from k) x ≡ among w (enum_in d (get_or texts k 0))
  pub leads : Leads texts from next x

-- a table has the symbols of the rows from one on before the next
pub record IsSymbols (d : Bytes) (texts : List ℕ) (l : List ℕ) (r : Symbols) : Type 0 where
  pub table : IsTable d l r.table
  pub begins : r.from ≤ r.next
  pub short : r.next ≤ length texts
  pub terms : (w : Bytes) (k : ℕ) → r.from ≤ k → k < r.next → tagged w k (terms_of d (take r.table.count l)) ≡ tagged w k (symbol_row d texts r.from k)

-- of the rows from one on before another, and of one at least
pub record Reaches (from to : ℕ) (r : Symbols) : Type 0 where
  pub from_is : r.from ≡ from
  pub within : r.next ≤ to
  pub some : from < to → from < r.next
