-- A record closed in a walk: how many were met and found then, and the list.
use Rattle.std.specs.Prelude.{ℕ, ◌+◌, Bool, List, eqb, ltb, length, set}
use Rattle.format.specs.Bytes.{pick}

-- without fields it is no record
abbrev pub closed_number : ℕ → ℕ → ℕ
closed_number fields met = pick (eqb fields 0) met (met + 1)

abbrev pub closed_found : ℕ → Bool → ℕ → ℕ
closed_found fields b found = pick (eqb fields 0) found (pick b (found + 1) found)

abbrev pub closed_list : ℕ → Bool → ℕ → ℕ → List ℕ → List ℕ
closed_list fields b met found list = pick (eqb fields 0) list (pick b (pick (ltb found (length list)) (set list found met) list) list)
