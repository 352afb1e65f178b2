-- The tags of equal words together.
use Rattle.std.specs.Prelude.{ℕ, ◌<◌, ◌≤◌, ◌≡◌, true, List, length, get_or, take, drop}
use Rattle.format.specs.Bytes.{Bytes}
use Rattle.terms.specs.Sets.{Answers}
use Rattle.terms.specs.Entries.{word_at, terms_of}
use Rattle.terms.specs.Order.{IsTable}
use Rattle.terms.specs.declared.Table.{Table}

-- x is the set of the tags that the word of entry i has from there on
abbrev pub TagsFrom : Bytes → List ℕ → ℕ → ℕ → Type 0
TagsFrom s l i x = Answers (word_at s (get_or l i 0)) (terms_of s (drop i l)) x

-- each entry has such a set
abbrev pub Joined : Bytes → List ℕ → List ℕ → Type 0
Joined s l sets = (i : ℕ) → i < length l → TagsFrom s l i (get_or sets i 0)

-- a table, with those sets where it says that it rises
pub record IsJoined (s : Bytes) (l sets : List ℕ) (t : Table) : Type 0 where
  pub table : IsTable s l t
  pub room : t.count ≤ length sets
  pub joined : t.sorted ≡ true → Joined s (take t.count l) sets
