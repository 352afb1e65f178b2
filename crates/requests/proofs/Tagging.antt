-- The tagged fields of a text: its first field, by its head and its length, and the fields behind it.
use Prim.Native.Nat.{ℕ, suc, ◌+◌, ◌-◌, ◌*◌, ◌≤◌, ◌<◌}
use native.Mathlib.Nat.{not-suc-le-zero}
use native.Mathlib.Numerals.{add-one, add-two, add-three}
use native.Mathlib.Omega.{arith}
use mathlib.Core.Path.{◌≡◌, refl, ap, ◌∙◌}
use mathlib.Core.List.{List, [], ◌∷◌}
use mathlib.Core.Option.{Option, none, some}
use lib.ListN.{length, take, drop, get_or, drop_of_length-le, length-drop}
use lib.Seq.{drop-cons, drop-drop}
use Rattle.format.specs.Bytes.{Bytes}
use Rattle.format.specs.Requests.{Tagged, short_at, tagged_from, tagged}
use Rattle.format.proofs.Encoding.{tagged-behind, tagged-cut-off}
use Rattle.words.specs.Spans.{span}
use Rattle.requests.specs.Fields.{fields_from, in_front}

-- its contents are so many bytes behind its head
tag-cut : (c d e : ℕ) (s : Bytes) → d * 256 + e ≤ length s → tagged (c ∷ d ∷ e ∷ s) ≡ in_front c (take (d * 256 + e) s) (tagged (drop (d * 256 + e) s))
unfolding tagged
tag-cut c d e s h = ap (in_front c (take (d * 256 + e) s)) (tagged-behind (d * 256 + e) s h)

tag-short : (c d e : ℕ) (s : Bytes) → length s < d * 256 + e → tagged (c ∷ d ∷ e ∷ s) ≡ none
unfolding tagged
tag-short c d e s h = ap (in_front c (take (d * 256 + e) s)) (tagged-cut-off (d * 256 + e) s h)

-- a head that is cut off
head-short : (s : Bytes) → 0 < length s → length s < 3 → tagged s ≡ none
unfolding tagged
head-short [] h k = absurd (not-suc-le-zero h)
head-short (c ∷ []) h k = refl
head-short (c ∷ d ∷ []) h k = refl
head-short (c ∷ d ∷ e ∷ s) h k = absurd (omega arith)

-- there is a field where there is a byte
abbrev pub Ample : Option (List Tagged) → Type 0
Ample none = Unit {0}
Ample (some []) = ⊥
Ample (some (f ∷ fs)) = Unit {0}

ample : (s : Bytes) → 0 < length s → Ample (tagged s)
unfolding tagged
ample [] h = absurd (not-suc-le-zero h)
ample (c ∷ s) h = go (tagged_from (suc (suc (short_at s))) s)
  where
    go : (x : Option (List Tagged)) → Ample (in_front c (take (short_at s) (drop 2 s)) x)
    go none = tt
    go (some fs) = tt

-- the same from a place on
module _ (s : Bytes) (i : ℕ) where
  pub fields-ample : i < length s → Ample (fields_from s i)
  fields-ample h = ample (drop i s) (simp length-drop (omega arith))

  pub fields-end : length s ≤ i → fields_from s i ≡ some []
  unfolding tagged
  fields-end h = rw (drop_of_length-le s)

  pub head-cut-off : i < length s → length s - i < 3 → fields_from s i ≡ none
  head-cut-off h k = head-short (drop i s) (simp length-drop (omega arith)) (simp length-drop (omega arith))

  three : i + 3 ≤ length s → drop i s ≡ get_or s i 0 ∷ get_or s (i + 1) 0 ∷ get_or s (i + 2) 0 ∷ drop (i + 3) s
  three h = rw (add-one i, add-two i, add-three i, drop-cons s i 0 (omega arith), drop-cons s (suc i) 0 (omega arith), drop-cons s (suc (suc i)) 0 (omega arith))

  module _ (len : ℕ) (h : i + 3 ≤ length s) (e : len ≡ get_or s (i + 1) 0 * 256 + get_or s (i + 2) 0) where
    pub field_cut : len ≤ length s - (i + 3) → fields_from s i ≡ in_front (get_or s i 0) (span (i + 3) (i + 3 + len) s) (fields_from s (i + 3 + len))
    field_cut k =
        let m : i + 3 + len - (i + 3) ≡ len = omega arith in
        rw (three h, m, e) (tag-cut (get_or s i 0) (get_or s (i + 1) 0) (get_or s (i + 2) 0) (drop (i + 3) s) (simp length-drop (omega arith)) ∙ rw drop-drop)

    pub field-short : length s - (i + 3) < len → fields_from s i ≡ none
    field-short k = rw (three h) (tag-short (get_or s i 0) (get_or s (i + 1) 0) (get_or s (i + 2) 0) (drop (i + 3) s) (simp length-drop (omega arith)))
