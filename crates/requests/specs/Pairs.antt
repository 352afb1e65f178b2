-- The pairs of an insert from a place of a request on.
use Rattle.requests.specs.declared.pairs.Pair.{Pair}
use Rattle.requests.specs.declared.pairs.Weight.{Weight}
use Rattle.std.specs.Prelude.{ℕ, ◌<◌, ◌≡◌, true, false, List, [], ◌∷◌, leb, length, Option as Maybe, Some, None}
use Rattle.std.proofs.Math.Option.{Option, none, some}
use Rattle.format.specs.Lists.{only_if, onward}
use Rattle.format.specs.Bytes.{Bytes, all}
use Rattle.format.specs.Requests.{Tagged, with_text, pairs_of}
use Rattle.format.specs.Edits.{Edit}
use Rattle.format.specs.Written.{Pair as Written, written_all, is_legal_pair}
use Rattle.words.specs.declared.Span.{Span}
use Rattle.requests.specs.Fields.{bytes_of, InSpan, fields_from}

abbrev pub pairs_from : Bytes → ℕ → Option (List Written)
pairs_from s i = onward pairs_of (fields_from s i)

-- none where the fields are no pairs
abbrev pub list_of : Option (List Written) → List Written
list_of none = []
list_of (some ps) = ps

abbrev pub pairs_at : Bytes → ℕ → List Written
pairs_at s i = list_of (pairs_from s i)

-- a pair of a request, and one in front of pairs where they are
abbrev pub pair_of : Bytes → Span → Span → Written
pair_of s n v = record { name = bytes_of s n; value = bytes_of s v }

abbrev pub onto : Written → Option (List Written) → Option (List Written)
onto p x = onward (λ (ps : List Written). some (p ∷ ps)) x

-- what follows from the fields of one pair
abbrev pub with_pair : (Bytes → Bytes → List Tagged → Option Edit) → List Tagged → Option Edit
with_pair f fs = with_text 4 (λ (n : Bytes). with_text 6 (λ (v : Bytes). f n v)) fs

-- what the pair at i says of the pairs from i on, and of one pair there
abbrev pub PairAt : Bytes → ℕ → Maybe Pair → Type 0
PairAt s i (Some p) =
    (pairs_from s i ≡ onto (pair_of s p.name p.value) (pairs_from s p.next))
    × ((f : Bytes → Bytes → List Tagged → Option Edit) → onward (with_pair f) (fields_from s i) ≡ onward (f (bytes_of s p.name) (bytes_of s p.value)) (fields_from s p.next))
    × (i < p.name.start)
    × InSpan s p.name
    × (p.name.end < p.value.start)
    × InSpan s p.value
    × (p.next ≡ p.value.end)
PairAt s i None =
    (pairs_from s i ≡ only_if (leb (length s) i) [])
    × ((f : Bytes → Bytes → List Tagged → Option Edit) → onward (with_pair f) (fields_from s i) ≡ none)

-- the sums over pairs
abbrev pub Weighs : List Written → Maybe Weight → Type 0
Weighs ps None = all is_legal_pair ps ≡ false
Weighs ps (Some w) = (all is_legal_pair ps ≡ true) × (w.len ≡ length (written_all ps)) × (w.count ≡ length ps)
