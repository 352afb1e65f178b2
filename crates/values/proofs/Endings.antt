-- Two values of one length that are alike from two places on: what the bytes before these places say of the values.
use Rattle.std.specs.Prelude.{Some}
use Prim.Native.Nat.{ℕ, ◌+◌, ◌-◌, ◌≤◌}
use native.Mathlib.Omega.{arith}
use mathlib.Core.Path.{◌≡◌, sym, ap, ap₂, ◌∙◌}
use mathlib.Core.List.{[], ◌∷◌, ◌++◌}
use lib.Dec.{ltb}
use lib.ListN.{length, drop, length-append}
use Rattle.format.specs.Bytes.{Bytes}
use Rattle.values.specs.Value.{value_from, Reaches, Precedes}
use Rattle.values.proofs.Backwards.{reaches-value}
use Rattle.values.specs.Likeness.{last_of, likeness_of}
use Rattle.values.specs.declared.ends.Likeness.{Likeness}
use Rattle.values.proofs.Likenesses.{likeness-last, same-likeness, last-here}

-- a text behind nothing
whole_back : (f v w : Bytes) → w ≡ f ++ v → length w ≡ length v → w ≡ v
whole_back [] v w e h = e
whole_back (x ∷ f) v w e h = absurd (omega (arith, ap length e, length-append (x ∷ f) v))

whole-value : (s : Bytes) (k : ℕ) → Reaches s 0 k → length (value_from s) ≡ length (value_from (drop k s)) → value_from s ≡ value_from (drop k s)
whole-value s k r h = let f = reaches-value s 0 k r in whole_back f.0 (value_from (drop k s)) (value_from s) f.1 h

-- the place of the byte before
pub place-before : (s : Bytes) (k place c i : ℕ) → place + length (value_from (drop k s)) ≡ length (value_from s) → Precedes s k (Some (record { byte = c; next = i })) → 1 ≤ place
place-before s k place c i h u =
    let f = reaches-value s 0 i u.2 in
    omega (arith, ap length f.1, length-append f.0 (value_from (drop i s)), ap length u.0)

module _ (a b : Bytes) (p q : ℕ) (alike : length (value_from a) ≡ length (value_from b)) (rest : value_from (drop p a) ≡ value_from (drop q b)) where
  pub first_ended : Reaches b 0 q → value_from a ≡ value_from (drop p a) → Likeness.Equal ≡ likeness_of (value_from a) (value_from b)
  first_ended t e = sym (same-likeness (value_from a) (value_from b) (e ∙ rest ∙ sym (whole-value b q t (omega (arith, ap length e, ap length rest)))))

  pub second_ended : Reaches a 0 p → value_from b ≡ value_from (drop q b) → Likeness.Equal ≡ likeness_of (value_from a) (value_from b)
  second_ended t e = sym (same-likeness (value_from a) (value_from b) (whole-value a p t (omega (arith, ap length e, ap length rest)) ∙ rest ∙ sym e))

  module _ (c d i j : ℕ) (x : Precedes a p (Some (record { byte = c; next = i }))) (y : Precedes b q (Some (record { byte = d; next = j }))) where
    pub differs : (place : ℕ) → place + length (value_from (drop p a)) ≡ length (value_from a) → (c ≡ d → ⊥) → Likeness.Differ (place - 1) (ltb c d) ≡ likeness_of (value_from a) (value_from b)
    differs place h n =
        let r = value_from (drop p a) in
        let f = reaches-value a 0 i x.2 in
        let g = reaches-value b 0 j y.2 in
        let u : value_from a ≡ f.0 ++ (c ∷ r) = f.1 ∙ ap (λ (v : Bytes). f.0 ++ v) x.0 in
        let w : value_from b ≡ g.0 ++ (d ∷ r) = g.1 ∙ ap (λ (v : Bytes). g.0 ++ v) (y.0 ∙ ap {B = Bytes} (λ v. d ∷ v) (sym rest)) in
        let m = length-append f.0 (c ∷ r) in
        let o = length-append g.0 (d ∷ r) in
        let l : length f.0 ≡ length g.0 = omega (arith, ap length u, ap length w) in
        let z : place - 1 ≡ length f.0 = omega (arith, ap length u) in
        ap (λ (k : ℕ). Likeness.Differ k (ltb c d)) z ∙ sym (likeness-last (value_from a) (value_from b) alike ∙ ap₂ last_of u w ∙ last-here f.0 g.0 r c d l n)

    pub alike-before : c ≡ d → value_from (drop i a) ≡ value_from (drop j b)
    alike-before e = x.0 ∙ (λ k. e k ∷ rest k) ∙ sym y.0
