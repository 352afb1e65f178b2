-- Descriptors in file order, and the names that they give.
use Rattle.records.specs.declared.Place.{Place}
use Rattle.std.specs.Prelude.{ℕ, zero, suc, Bool, true, false, List, [], ◌∷◌, Option, Some, None}
use Rattle.format.specs.Bytes.{Bytes}
use Rattle.format.specs.Words.{first_word}
use Rattle.format.specs.Calls.{Filled, filled}
use Rattle.records.specs.Places.{Placed, is_descriptor, place_of}

-- the name that a descriptor's `%rec` values give
abbrev pub titled : List Bytes → Bytes → Filled
titled [] out = filled 21 [] out
titled (v ∷ vs) out = filled 0 (first_word v) out

-- where descriptor k stands
abbrev pub descriptor_by : Bool → ℕ → Placed → (ℕ → Option Place) → Option Place
descriptor_by false k p later = later k
descriptor_by true zero p later = Some (place_of p)
descriptor_by true (suc k) p later = later k

unfoldable pub descriptor_at : List Placed → ℕ → Option Place
descriptor_at [] k = None
descriptor_at (p ∷ ps) k = descriptor_by (is_descriptor p) k p (λ (j : ℕ). descriptor_at ps j)
