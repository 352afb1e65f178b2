-- How far the walk over the `%type` fields has come, and what the limits and the questions passed grant of them.
use Prim.Native.Nat.{ℕ, suc, ◌+◌, ◌≤◌}
use native.Mathlib.Numerals.{add-one}
use native.Mathlib.Omega.{arith}
use mathlib.Core.Path.{◌≡◌, refl, sym, ap, ◌∙◌}
use mathlib.Core.Bool.{Bool, true, false, ◌&&◌, and-eq-true_iff}
use mathlib.Core.List.{List, [], ◌∷◌, ◌++◌, map}
use borrow.Author.Tests.{leb-true}
use lib.Dec.{leb}
use lib.ListN.{length, drop, length-drop}
use Rattle.format.specs.Bytes.{Bytes, text, pick, all, same, is_some}
use Rattle.format.specs.Lines.{is_name}
use Rattle.format.specs.Words.{first_word}
use Rattle.format.specs.Records.{Record}
use Rattle.format.specs.Sets.{values_of}
use Rattle.format.specs.Limits.{name_bytes, value_bytes, record_fields}
use Rattle.format.specs.Numbers.{int_bounds}
use Rattle.format.specs.Types.{Typedef}
use Rattle.format.specs.Rules.{typed_names, typedefs_of, end_kind, is_typedef_name, distinct, is_shaped}
use Rattle.format.specs.Questions.{fits_field}
use Rattle.format.proofs.Limits.{rules-few}
use Rattle.format.proofs.Listing.{well-shaped}
use Rattle.values.specs.Value.{value_from}
use Rattle.words.specs.Spans.{span}
use Rattle.records.specs.Walk.{record_in}
use Rattle.records.specs.Named.{values_from, ValueHere}
use Rattle.typedefs.proofs.Placing.{Passed}
use Rattle.terms.specs.Sets.{Term, term_of}
use Rattle.terms.specs.Adding.{Adding}
use Rattle.dictionary.specs.Terms.{row_terms}
use Rattle.dictionary.specs.Known.{Described}
use Rattle.terms.proofs.Adding.{adding-rest, adding-many}
use Rattle.dictionary.proofs.Rows.{next-rest, all_drop, names-few}

-- a value whose names are names, and which is short
abbrev pub is_good : Bytes → Bool
is_good v = all is_name (typed_names v) && leb (length v) value_bytes

values-fit : (n : Bytes) (r : Record) → all fits_field r ≡ true → all (λ (v : Bytes). leb (length v) value_bytes) (values_of n r) ≡ true
values-fit n [] e = refl
values-fit n (f ∷ r) e =
    let h = (and-eq-true_iff (fits_field f) (all fits_field r)).0 e in
    let g = (and-eq-true_iff (leb (length f.name) name_bytes) (leb (length f.value) value_bytes)).0 h.0 in
    keep (same n f.name) f.value (values_of n r) g.1 (values-fit n r h.1)
  where
    keep : (t : Bool) (v : Bytes) (vs : List Bytes) → leb (length v) value_bytes ≡ true → all (λ (x : Bytes). leb (length x) value_bytes) vs ≡ true → all (λ (x : Bytes). leb (length x) value_bytes) (pick t (v ∷ vs) vs) ≡ true
    keep true v vs a b = (and-eq-true_iff (leb (length v) value_bytes) (all (λ (x : Bytes). leb (length x) value_bytes) vs)).1 (a, b)
    keep false v vs a b = b

both-all : (p q : Bytes → Bool) (vs : List Bytes) → all p vs ≡ true → all q vs ≡ true → all (λ (v : Bytes). p v && q v) vs ≡ true
both-all p q [] a b = refl
both-all p q (v ∷ vs) a b =
    let h = (and-eq-true_iff (p v) (all p vs)).0 a in
    let g = (and-eq-true_iff (q v) (all q vs)).0 b in
    (and-eq-true_iff (p v && q v) (all (λ (x : Bytes). p x && q x) vs)).1 ((and-eq-true_iff (p v) (q v)).1 (h.0, g.0), both-all p q vs h.1 g.1)

module _ (d : Bytes) (h : Described d) where
  abbrev rules : Record
  rules = record_in d

  abbrev vs : List Bytes
  vs = values_from d (text "%type") 0

  abbrev ds : List Typedef
  ds = typedefs_of int_bounds rules

  abbrev tds : List Bytes
  tds = values_of (text "%typedef") rules

  all_named : all (λ (v : Bytes). all is_name (typed_names v)) vs ≡ true
  all_named =
      let p : Bool = all (λ (v : Bytes). is_typedef_name (first_word v)) tds && all (λ (v : Bytes). is_some (end_kind int_bounds ds v)) tds && distinct (map first_word tds) in
      let q : Bool = all (λ (v : Bytes). all is_name (typed_names v)) vs in
      let a = (and-eq-true_iff (p && q) (all (λ (v : Bytes). is_some (end_kind int_bounds ds v)) vs)).0 h.typed in
      ((and-eq-true_iff p q).0 a.0).1

  all_fit : all (λ (v : Bytes). leb (length v) value_bytes) vs ≡ true
  all_fit = values-fit (text "%type") rules ((and-eq-true_iff (leb (length rules) record_fields) (all fits_field rules)).0 h.fits).1

  pub all-good : all is_good vs ≡ true
  all-good = both-all (λ (v : Bytes). all is_name (typed_names v)) (λ (v : Bytes). leb (length v) value_bytes) vs all_named all_fit

  pub rows_few : length vs ≤ 32
  rows_few = (rules-few rules h.few).types-few

  pub all-shaped : all (is_shaped int_bounds) rules ≡ true
  all-shaped = well-shaped int_bounds rules h.well

-- `row` of them are passed, and byte i is behind them
module _ (d : Bytes) (row i v e : ℕ) (b : Passed d (text "%type") row i) (f : ValueHere d (text "%type") i v e) where
  abbrev here : Bytes
  here = value_from (span v e d)

  -- the field at `row`
  pub row_is : drop row (values_from d (text "%type") 0) ≡ here ∷ values_from d (text "%type") e
  row_is = sym b.values ∙ f.values

  rest-is : drop (row + 1) (values_from d (text "%type") 0) ≡ values_from d (text "%type") e
  rest-is = next-rest (values_from d (text "%type") 0) row here (values_from d (text "%type") e) row_is

  module _ (h : Described d) where
    good : (all is_name (typed_names here) ≡ true) × (length here ≤ 4096)
    good =
        let a = ((and-eq-true_iff (is_good here) (all is_good (values_from d (text "%type") e))).0 (sym (ap (all is_good) row_is) ∙ all_drop is_good row (values_from d (text "%type") 0) (all-good d h))).0 in
        let g = (and-eq-true_iff (all is_name (typed_names here)) (leb (length here) value_bytes)).0 a in
        (g.0, leb-true (length here) 4096 g.1)

    pub row-names : all is_name (typed_names (value_from (drop v d))) ≡ true
    row-names = ap (λ (x : Bytes). all is_name (typed_names x)) f.ends-itself ∙ good.0

    pub row_fits : length (typed_names (value_from (drop v d))) ≤ 4097
    row_fits = omega (arith, ap (λ (x : Bytes). length (typed_names x)) f.ends-itself, names-few here, good.1)

    -- its names are put, and the rows from the next on are left
    module _ (from : ℕ) (l : List ℕ) (n : ℕ) (m : List ℕ) (k : ℕ) where
      abbrev all-rows : List Term
      all-rows = row_terms from (drop from (values_from d (text "%type") 0))

      pub rows_more : (p : List ℕ) (r : ℕ) → Adding d l n all-rows (row_terms row (drop row (values_from d (text "%type") 0))) m k → Adding d m k (map (term_of row) (typed_names (value_from (drop v d)))) [] p r
          → Adding d l n all-rows (row_terms (row + 1) (drop (row + 1) (values_from d (text "%type") 0))) p r
      rows_more p r a c =
          let ts : List Term = map (term_of row) (typed_names (value_from (drop v d))) in
          let same_here : map (term_of row) (typed_names here) ≡ ts = ap (λ (x : Bytes). map (term_of row) (typed_names x)) (sym f.ends-itself) in
          let cut : row_terms row (drop row (values_from d (text "%type") 0)) ≡ ts ++ row_terms (suc row) (values_from d (text "%type") e) =
          ap (row_terms row) row_is ∙ ap (λ (us : List Term). us ++ row_terms (suc row) (values_from d (text "%type") e)) same_here in
          let next : row_terms (suc row) (values_from d (text "%type") e) ≡ row_terms (row + 1) (drop (row + 1) (values_from d (text "%type") 0)) =
          ap (λ (j : ℕ). row_terms j (values_from d (text "%type") e)) (sym (add-one row)) ∙ ap (row_terms (row + 1)) (sym rest-is) in
          adding-rest (row_terms (suc row) (values_from d (text "%type") e)) (row_terms (row + 1) (drop (row + 1) (values_from d (text "%type") 0))) next
          (adding-many d l n all-rows ts (row_terms (suc row) (values_from d (text "%type") e)) m k p r
          (adding-rest (row_terms row (drop row (values_from d (text "%type") 0))) (ts ++ row_terms (suc row) (values_from d (text "%type") e)) cut a) c)

-- none is left
pub row-none : (d : Bytes) (row i : ℕ) → Passed d (text "%type") row i → values_from d (text "%type") i ≡ [] → length (values_from d (text "%type") 0) ≤ row
row-none d row i b e = omega (arith, ap length (sym b.values ∙ e), length-drop row (values_from d (text "%type") 0))
