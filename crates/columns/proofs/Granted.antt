-- What the limits and the questions passed grant of a descriptor's types and typedefs.
use Prim.Native.Nat.{ℕ, zero, suc, ◌≤◌, ◌<◌}
use native.Mathlib.Omega.{arith}
use mathlib.Core.Path.{◌≡◌, refl, sym, ◌∙◌}
use mathlib.Core.Bool.{Bool, true, false, ◌&&◌, and-eq-true_iff}
use mathlib.Core.List.{List, [], ◌∷◌, map}
use borrow.Author.Tests.{leb-true, le-leb}
use lib.Dec.{leb}
use lib.ListN.{length, get_or}
use Rattle.format.specs.Bytes.{Bytes, text, pick, all, same, is_some}
use Rattle.format.specs.Lines.{is_name}
use Rattle.format.specs.Words.{first_word, is_type_name}
use Rattle.format.specs.Records.{Record}
use Rattle.format.specs.Sets.{values_of}
use Rattle.format.specs.Limits.{name_bytes, value_bytes, record_fields, typedefs}
use Rattle.format.specs.Rules.{typed_names, is_typedef_name, distinct}
use Rattle.format.specs.Questions.{fits_field}
use Rattle.format.proofs.Limits.{rules-few}
use Rattle.records.specs.Walk.{record_in}
use Rattle.records.specs.Named.{values_from}
use Rattle.typedefs.specs.Walks.{names_from, fits, fit_from}
use Rattle.typedefs.proofs.Deciding.{all_words, type-names}
use Rattle.dictionary.specs.Known.{Described}
use Rattle.columns.specs.Meets.{kind_of}

-- a test that all pass, at a place
pub all-at : {A : Type 0} (p : A → Bool) (other : A) (l : List A) (k : ℕ) → all p l ≡ true → k < length l → p (get_or l k other) ≡ true
all-at p other [] k e h = absurd (omega arith)
all-at p other (x ∷ l) zero e h = ((and-eq-true_iff (p x) (all p l)).0 e).0
all-at p other (x ∷ l) (suc k) e h = all-at p other l k ((and-eq-true_iff (p x) (all p l)).0 e).1 (omega arith)

all-by : (p : Bytes → Bool) (l : List Bytes) → ((k : ℕ) → p (get_or l k []) ≡ true) → all p l ≡ true
all-by p [] h = refl
all-by p (x ∷ l) h = (and-eq-true_iff (p x) (all p l)).1 (h 0, all-by p l (λ k. h (suc k)))

-- any value of a name
value-fits : (n : Bytes) (r : Record) → all fits_field r ≡ true → (k : ℕ) → length (get_or (values_of n r) k []) ≤ 4096
value-fits n [] e k = omega arith
value-fits n (f ∷ r) e k =
    let h = (and-eq-true_iff (fits_field f) (all fits_field r)).0 e in
    let g = (and-eq-true_iff (leb (length f.name) name_bytes) (leb (length f.value) value_bytes)).0 h.0 in
    go (same n f.name) k (leb-true (length f.value) 4096 g.1) (value-fits n r h.1)
  where
    go : (t : Bool) (j : ℕ) → length f.value ≤ 4096 → ((i : ℕ) → length (get_or (values_of n r) i []) ≤ 4096) → length (get_or (pick t (f.value ∷ values_of n r) (values_of n r)) j []) ≤ 4096
    go true zero h ih = h
    go true (suc j) h ih = ih j
    go false j h ih = ih j

module _ (d : Bytes) (h : Described d) where
  abbrev rules : Record
  rules = record_in d

  abbrev defs : List Bytes
  defs = values_from d (text "%typedef") 0

  abbrev types : List Bytes
  types = values_from d (text "%type") 0

  abbrev pub are_kinds : List Bytes → Bool
  are_kinds vs = all (λ (v : Bytes). is_some (kind_of d v)) vs

  pub fits-at : (n : Bytes) (k : ℕ) → length (get_or (values_from d n 0) k []) ≤ 4096
  fits-at n k = value-fits n rules ((and-eq-true_iff (leb (length rules) record_fields) (all fits_field rules)).0 h.fits).1 k

  pub typedefs-fit : (m : ℕ) → 4096 ≤ m → fit_from m d (text "%typedef") 0 ≡ true
  typedefs-fit m l = all-by (fits m) defs (λ k. le-leb (length (get_or defs k [])) m (omega (arith, fits-at (text "%typedef") k)))

  pub typedefs-few : length defs ≤ 32
  typedefs-few = (rules-few rules h.few).typedefs-few

  -- all have good names and end in a kind
  abbrev good : Bool
  good = all (λ (v : Bytes). is_typedef_name (first_word v)) defs

  ended : (are_kinds defs ≡ true) × (are_kinds types ≡ true) × (good ≡ true)
  ended =
      let apart : Bool = distinct (map first_word defs) in
      let named : Bool = all (λ (v : Bytes). all is_name (typed_names v)) types in
      let all_kinds = (and-eq-true_iff (good && are_kinds defs && apart && named) (are_kinds types)).0 h.typed in
      let names = (and-eq-true_iff (good && are_kinds defs && apart) named).0 all_kinds.0 in
      let two = (and-eq-true_iff (good && are_kinds defs) apart).0 names.0 in
      let one = (and-eq-true_iff good (are_kinds defs)).0 two.0 in
      (one.1, all_kinds.1, one.0)

  pub typedefs-named : all is_type_name (names_from d 0) ≡ true
  typedefs-named = type-names (names_from d 0) (sym (all_words is_typedef_name defs) ∙ ended.2)

  pub typedefs-end : are_kinds defs ≡ true
  typedefs-end = ended.0

  pub type-ends : (k : ℕ) → k < length types → is_some (kind_of d (get_or types k [])) ≡ true
  type-ends k l = all-at (λ (v : Bytes). is_some (kind_of d v)) [] types k ended.1 l
