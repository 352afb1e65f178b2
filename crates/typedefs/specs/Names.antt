-- The typedefs of a descriptor by their names: where their values stand, and a table of the names.
use Rattle.std.specs.Prelude.{ℕ, zero, suc, ◌≤◌, ◌<◌, ◌≡◌, List, [], ◌∷◌, length, drop, get_or, take}
use Rattle.format.specs.Bytes.{Bytes, text, pick}
use Rattle.values.specs.Value.{value_from}
use Rattle.terms.specs.Sets.{Term, term_of, in_set, tagged}
use Rattle.terms.specs.Entries.{terms_of}
use Rattle.terms.specs.Order.{IsTable}
use Rattle.records.specs.Named.{values_from}
use Rattle.typedefs.specs.Walks.{names_from}
use Rattle.typedefs.specs.declared.Target.{Target}
use Rattle.typedefs.specs.declared.Names.{Names}

-- names with their numbers, from k on
abbrev pub numbered : ℕ → List Bytes → List Term
numbered k [] = []
numbered k (n ∷ ns) = term_of k n ∷ numbered (suc k) ns

-- the first tag from k on, among m of them, that is in a set
unfoldable pub tag_from : ℕ → ℕ → ℕ → Target
tag_from x k zero = Target.Missing
tag_from x k (suc m) = pick (in_set k x) (Target.Alias k) (tag_from x (suc k) m)

-- a value of a typedef stands at each of the first n places
abbrev pub PlacesTo : Bytes → List ℕ → ℕ → Type 0
PlacesTo d l n = (k : ℕ) → k < n → (get_or l k 0 < length d) × (value_from (drop (get_or l k 0) d) ≡ get_or (values_from d (text "%typedef") 0) k [])

pub record ArePlaces (d : Bytes) (l : List ℕ) (n : ℕ) : Type 0 where
  pub few : n ≤ 32
  pub long : length l ≡ 32
  pub count : n ≡ length (values_from d (text "%typedef") 0)
  pub places : PlacesTo d l n

-- and the table has the names with their numbers
pub record AreNames (d : Bytes) (r : Names) : Type 0 where
  pub values : ArePlaces d r.places r.count
  pub table : IsTable d r.entries r.table
  pub terms : (w : Bytes) (k : ℕ) → tagged w k (terms_of d (take r.table.count r.entries)) ≡ tagged w k (numbered 0 (names_from d 0))
