-- Two records compared field by field, and one with those of a part.
use Rattle.records.specs.declared.FieldPlace.{FieldPlace}
use Rattle.std.specs.Prelude.{Option, Some, None}
use Prim.Native.Nat.{ℕ, ◌-◌}
use mathlib.Core.Path.{◌≡◌, sym, ap, ◌∙◌, subst}
use mathlib.Core.Bool.{Bool, true, false, ◌&&◌, ◌||◌}
use mathlib.Core.List.{List, [], ◌∷◌, map}
use lib.ListN.{length, take, drop}
use Rattle.format.specs.Bytes.{Bytes, any, same}
use Rattle.format.specs.Records.{Field, Record}
use Rattle.lines.proofs.Cuts.{rest}
use Rattle.values.specs.Value.{value_from}
use Rattle.words.specs.Spans.{span}
use Rattle.records.specs.Fields.{fields_from, field_between, FieldHere, FieldNext}
use Rattle.records.specs.Walk.{record_in}
use Rattle.merging.specs.Merging.{pair_of, is_same_pair, is_twin}
use Rattle.merging.specs.Texts.{is_nothing}

-- the fields from i on of a, and from j on of b
abbrev pub twins_from : Bytes → ℕ → Bytes → ℕ → Bool
twins_from a i b j = is_twin (map pair_of (fields_from a i)) (fields_from b j)

twin-none : (r : Record) (y : Option FieldPlace) → (b : Bytes) (j : ℕ) → r ≡ [] → FieldNext b j y → is_twin (map pair_of r) (fields_from b j) ≡ is_nothing y
twin-none r None b j e h = λ i. is_twin (map pair_of (e i)) (h i)
twin-none r (Some f) b j e h = λ i. is_twin (map pair_of (e i)) (h.fields i)

pub twins-end : (a : Bytes) (i : ℕ) (b : Bytes) (j : ℕ) (y : Option FieldPlace) → fields_from a i ≡ [] → FieldNext b j y → is_nothing y ≡ twins_from a i b j
twins-end a i b j y e h = sym (twin-none (fields_from a i) y b j e h)

pub twins-short : (a : Bytes) (i : ℕ) (b : Bytes) (j : ℕ) (f : Field) (r : Record) → fields_from a i ≡ f ∷ r → fields_from b j ≡ [] → false ≡ twins_from a i b j
twins-short a i b j f r e h = sym (λ k. is_twin (map pair_of (e k)) (h k))

-- both have a field
module _ (a : Bytes) (i : ℕ) (b : Bytes) (j : ℕ) (f g : Field) (r q : Record) (e : fields_from a i ≡ f ∷ r) (h : fields_from b j ≡ g ∷ q) where
  both : twins_from a i b j ≡ (is_same_pair (pair_of f) g && is_twin (map pair_of r) q)
  both = λ k. is_twin (map pair_of (e k)) (h k)

  pub twins-names : same f.name g.name ≡ false → false ≡ twins_from a i b j
  twins-names n = sym (both ∙ ap (λ (t : Bool). t && same f.value g.value && is_twin (map pair_of r) q) n)

  pub twins-values : same f.name g.name ≡ true → same f.value g.value ≡ false → false ≡ twins_from a i b j
  twins-values n v = sym (both ∙ (λ k. n k && v k && is_twin (map pair_of r) q))

  pub twins-on : same f.name g.name ≡ true → same f.value g.value ≡ true → twins_from a i b j ≡ is_twin (map pair_of r) q
  twins-on n v = both ∙ (λ k. n k && v k && is_twin (map pair_of r) q)

pub field_told : (s : Bytes) (x : Option FieldPlace) {y : Option FieldPlace} → FieldNext s 0 x → x ≡ y → FieldNext s 0 y
field_told s x h e = subst (FieldNext s 0) e h

-- behind a field of each
pub twins-again : (p q : Bytes) (s n v e t m w z : ℕ) → FieldHere p 0 s n v e → FieldHere q 0 t m w z → same (span s n p) (span t m q) ≡ true → same (value_from (span v e p)) (value_from (span w z q)) ≡ true
    → twins_from p 0 q 0 ≡ twins_from (take (length p - e) (drop e p)) 0 (take (length q - z) (drop z q)) 0
twins-again p q s n v e t m w z h k a b =
    twins-on p 0 q 0 (field_between p s n v e) (field_between q t m w z) (fields_from p e) (fields_from q z) h.fields k.fields a b
    ∙ (λ i. is_twin (map pair_of (record_in (sym (rest p e) i))) (record_in (sym (rest q z) i)))

-- among records
module _ (t : Record → Bool) (rs : List Record) (r : Record) (others : List Record) (e : rs ≡ r ∷ others) where
  pub any_here : t r ≡ true → true ≡ any t rs
  any_here h = sym (ap (any t) e ∙ ap (λ (b : Bool). b || any t others) h)

  pub any-later : t r ≡ false → any t rs ≡ any t others
  any-later h = ap (any t) e ∙ ap (λ (b : Bool). b || any t others) h
