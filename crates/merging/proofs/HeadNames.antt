-- The name of the set that a descriptor opens: the first word of its first `%rec` value, which is no longer than a value may be.
use Prim.Native.Nat.{ℕ, suc, ◌-◌, ◌≤◌, ◌<◌}
use native.Mathlib.Omega.{arith}
use mathlib.Core.Path.{◌≡◌, refl, sym, ap, ◌∙◌}
use mathlib.Core.Bool.{Bool, true, false, and-eq-true_iff, false≢true}
use mathlib.Core.List.{List, [], ◌∷◌}
use lib.ListN.{length, take, drop, get_or}
use borrow.Author.Tests.{leb-true}
use Rattle.format.specs.Bytes.{Bytes, text, pick, all, same}
use Rattle.format.specs.Lists.{is_filled, front, behind}
use Rattle.format.specs.Limits.{value_bytes}
use Rattle.format.specs.Records.{Record}
use Rattle.format.specs.Sets.{values_of}
use Rattle.format.specs.Words.{is_gap, not_gap, first_word}
use Rattle.format.proofs.Walking.{is_head, name_in, head_name}
use Rattle.values.specs.Value.{value_from}
use Rattle.records.specs.Walk.{record_in}
use Rattle.records.proofs.Fields.{FieldFound}
use Rattle.merging.specs.Texts.{fits_value}

-- a part of a list is no longer than it
front-least : (t : ℕ → Bool) (s : Bytes) → length (front t s) ≤ length s
front-least t [] = omega arith
front-least t (c ∷ s) = go (t c) (front-least t s)
  where
    go : (b : Bool) → length (front t s) ≤ length s → length (pick b (c ∷ front t s) []) ≤ suc (length s)
    go true h = omega arith
    go false h = omega arith

behind-least : (t : ℕ → Bool) (s : Bytes) → length (behind t s) ≤ length s
behind-least t [] = omega arith
behind-least t (c ∷ s) = go (t c) (behind-least t s)
  where
    go : (b : Bool) → length (behind t s) ≤ length s → length (pick b (behind t s) (c ∷ s)) ≤ suc (length s)
    go true h = omega arith
    go false h = omega arith

-- the values of a name fit where all do
first_fits : (n : Bytes) (r : Record) → all fits_value r ≡ true → length (get_or (values_of n r) 0 []) ≤ value_bytes
first_fits n [] h = omega arith
first_fits n (f ∷ r) h = let k = (and-eq-true_iff (fits_value f) (all fits_value r)).0 h in go (same n f.name) (leb-true (length f.value) value_bytes k.0) (first_fits n r k.1)
  where
    go : (b : Bool) → length f.value ≤ value_bytes → length (get_or (values_of n r) 0 []) ≤ value_bytes → length (get_or (pick b (f.value ∷ values_of n r) (values_of n r)) 0 []) ≤ value_bytes
    go true a c = a
    go false a c = c

head_first : (r : Record) → 0 < length (values_of (text "%rec") r) → head_name r ≡ first_word (get_or (values_of (text "%rec") r) 0 [])
head_first r h = go (values_of (text "%rec") r) h
  where
    go : (vs : List Bytes) → 0 < length vs → name_in vs ≡ first_word (get_or vs 0 [])
    go [] k = absurd (omega arith)
    go (v ∷ vs) k = refl

pub head-there : (r : Record) → is_head r ≡ true → length (values_of (text "%rec") r) ≤ 0 → ⊥
head-there r h l = go (values_of (text "%rec") r) h l
  where
    go : (vs : List Bytes) → is_filled vs ≡ true → length vs ≤ 0 → ⊥
    go [] e k = false≢true e
    go (v ∷ vs) e k = omega arith

module _ (d : Bytes) (start value end i : ℕ) (f : FieldFound d (values_of (text "%rec") (record_in d)) 0 start value end) (e : value_from (drop i (take (end - value) (drop value d))) ≡ behind is_gap (value_from (take (end - value) (drop value d)))) where
  pub head-word : front not_gap (value_from (drop i (take (end - value) (drop value d)))) ≡ head_name (record_in d)
  head-word = ap (front not_gap) e ∙ ap first_word f.decodes ∙ sym (head_first (record_in d) f.there)

  pub word_fits : all fits_value (record_in d) ≡ true → length (front not_gap (value_from (drop i (take (end - value) (drop value d))))) ≤ value_bytes
  word_fits h =
      let v : Bytes = value_from (take (end - value) (drop value d)) in
      omega (arith, ap (λ (w : Bytes). length (front not_gap w)) e, front-least not_gap (behind is_gap v), behind-least is_gap v, ap length f.decodes, first_fits (text "%rec") (record_in d) h)
