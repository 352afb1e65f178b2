-- The terms that a descriptor makes, and the names of `%type` fields put one behind the other.
use Rattle.std.specs.Prelude.{ℕ, suc, ◌+◌, ◌≤◌, ◌<◌, Bool, ◌||◌, List, [], ◌∷◌, ◌++◌, map, eqb, length, drop}
use Rattle.format.specs.Lists.{flat}
use Rattle.format.specs.Bytes.{Bytes, text, pick, all}
use Rattle.format.specs.Lines.{is_name}
use Rattle.format.specs.Words.{words}
use Rattle.format.specs.Records.{Field, Record}
use Rattle.format.specs.Rules.{typed_names}
use Rattle.records.specs.Named.{values_from}
use Rattle.terms.specs.Sets.{tags, Term, term_of}
use Rattle.terms.specs.Adding.{value_terms, Adding}
use Rattle.dictionary.specs.Tags.{list_tag}
use Rattle.dictionary.specs.declared.Added.{Added}

-- the words of a field, if it is a list's, and those of all lists
abbrev pub terms_by : ℕ → List Bytes → List Term
terms_by k ws = pick (eqb k tags) [] (map (term_of k) ws)

abbrev pub field_terms : Field → List Term
field_terms f = terms_by (list_tag f.name) (words f.value)

unfoldable pub list_terms : Record → List Term
list_terms r = flat (map field_terms r)

-- are the words of a list names
abbrev pub are_names : Field → Bool
are_names f = eqb (list_tag f.name) tags || all is_name (words f.value)

-- the names of `%type` values, the first of them of field `row`
abbrev pub row_terms : ℕ → List Bytes → List Term
row_terms row [] = []
row_terms row (v ∷ vs) = map (term_of row) (typed_names v) ++ row_terms (suc row) vs

-- the terms of the `%type` fields from one on were put, up to the next
pub record RowsAdded (d : Bytes) (from : ℕ) (l : List ℕ) (n : ℕ) (m : List ℕ) (r : Added) : Type 0 where
  pub begins : from ≤ r.next
  pub within : r.next ≤ length (values_from d (text "%type") 0)
  pub room : r.count ≤ length m
  pub some : n + value_terms ≤ length l → from < length (values_from d (text "%type") 0) → from < r.next
  pub adding : Adding d l n (row_terms from (drop from (values_from d (text "%type") 0))) (row_terms r.next (drop r.next (values_from d (text "%type") 0))) m r.count
