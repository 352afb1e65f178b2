-- What a sort does to a list: two elements change places, again and again.
use Rattle.std.specs.Prelude.{ℕ, ◌<◌, List, length, get_or, set}

abbrev pub swapped : List ℕ → ℕ → ℕ → List ℕ
swapped l i j = set (set l i (get_or l j 0)) j (get_or l i 0)

-- the second list is the first with its elements moved
pub data Moved : List ℕ → List ℕ → Type 0 where
  none : {l : List ℕ} → Moved l l
  more : {l m : List ℕ} → Moved l m → (i j : ℕ) → i < length m → j < length m → Moved l (swapped m i j)
