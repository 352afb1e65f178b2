-- Words in order, by fingerprint and then by their bytes; what a table is.
use Rattle.std.specs.Prelude.{ℕ, ◌-◌, ◌<◌, ◌≤◌, ◌≡◌, true, List, ◌∷◌, length, get_or, take}
use Rattle.format.specs.Bytes.{Bytes}
use Rattle.sorting.specs.Order.{compared_of}
use Rattle.std.specs.declared.cmp.Ordering.{Ordering}
use Rattle.terms.specs.Entries.{print_of, word_at, Entries, Kept}
use Rattle.terms.specs.declared.Table.{Table}

-- words with their fingerprints in front
abbrev pub ranked : Bytes → Bytes → Ordering
ranked a b = compared_of (print_of a ∷ a) (print_of b ∷ b)

-- the second is not before the first
abbrev pub NotBehind : Bytes → Bytes → Type 0
NotBehind a b = ranked b a ≡ Ordering.Less → ⊥

-- none of the first n words is behind the next
abbrev pub Rising : Bytes → ℕ → List ℕ → Type 0
Rising s n l = (q : ℕ) → q < n → 0 < q → NotBehind (word_at s (get_or l (q - 1) 0)) (word_at s (get_or l q 0))

-- the words before a place come before w
abbrev pub Low : Bytes → List ℕ → Bytes → ℕ → Type 0
Low s l w lo = (q : ℕ) → q < lo → ranked (word_at s (get_or l q 0)) w ≡ Ordering.Less

-- the first entries are a table; where it says so, they rise
pub record IsTable (s : Bytes) (l : List ℕ) (t : Table) : Type 0 where
  pub room : t.count ≤ length l
  pub entries : Entries s t.count l
  pub rising : t.sorted ≡ true → Rising s t.count l

-- and have the terms of the entries l
pub record Holds (s : Bytes) (l m : List ℕ) (t : Table) : Type 0 where
  pub table : IsTable s m t
  pub kept : Kept s l (take t.count m)
