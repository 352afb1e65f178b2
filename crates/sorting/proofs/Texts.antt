-- Texts, byte by byte.
use Rattle.std.specs.Prelude.{Option, Some, None}
use Rattle.values.specs.declared.Decoded.{Decoded}
use Prim.Native.Nat.{ℕ, ◌<◌, ◌≤◌}
use mathlib.Core.Path.{◌≡◌, refl, sym, ap, ◌∙◌, subst}
use mathlib.Core.Bool.{Bool, true, false, not, and-eq-true_iff}
use mathlib.Core.List.{[], ◌∷◌}
use lib.ListN.{length, drop}
use Rattle.format.specs.Lists.{front, behind}
use Rattle.format.specs.Bytes.{Bytes, pick, all}
use Rattle.values.specs.Value.{value_from}
use Rattle.sorting.specs.Texts.{keeps, text_at, TextByte}
use Rattle.values.proofs.Tests.{by_bool}

-- the longest front of a text that begins with a byte
module _ (p : ℕ → Bool) (v w : Bytes) (b : ℕ) (e : v ≡ b ∷ w) where
  pub front-stop : p b ≡ false → front p v ≡ []
  front-stop g = ap (front p) e ∙ ap (λ (t : Bool). pick t (b ∷ front p w) []) g

  pub front-on : p b ≡ true → front p v ≡ b ∷ front p w
  front-on g = ap (front p) e ∙ ap (λ (t : Bool). pick t (b ∷ front p w) []) g

module _ (p : ℕ → Bool) (v : Bytes) (b : ℕ) where
  pub behind-on : p b ≡ true → behind p (b ∷ v) ≡ behind p v
  behind-on g = ap (λ (t : Bool). pick t (behind p v) (b ∷ v)) g

  pub behind-stop : p b ≡ false → behind p (b ∷ v) ≡ b ∷ v
  behind-stop g = ap (λ (t : Bool). pick t (behind p v) (b ∷ v)) g

-- a longest front for a test is that for a stricter one, if its bytes pass that; and what is behind is the same
module _ (p q : ℕ → Bool) (strict : (c : ℕ) → q c ≡ false → p c ≡ false) where
  pub front-narrow : (v : Bytes) → all p (front q v) ≡ true → front p v ≡ front q v
  front-narrow [] e = refl
  front-narrow (c ∷ v) e =
      by_bool (q c)
      (λ g.
      let f = front-on q (c ∷ v) v c refl g in
      let h = (and-eq-true_iff (p c) (all p (front q v))).0 (sym (ap (all p) f) ∙ e) in
      front-on p (c ∷ v) v c refl h.0 ∙ ap {B = Bytes} (λ x. c ∷ x) (front-narrow v h.1) ∙ sym f)
      (λ g. front-stop p (c ∷ v) v c refl (strict c g) ∙ sym (front-stop q (c ∷ v) v c refl g))

  pub behind-narrow : (v : Bytes) → all p (front q v) ≡ true → behind p v ≡ behind q v
  behind-narrow [] e = refl
  behind-narrow (c ∷ v) e =
      by_bool (q c)
      (λ g.
      let h = (and-eq-true_iff (p c) (all p (front q v))).0 (sym (ap (all p) (front-on q (c ∷ v) v c refl g)) ∙ e) in
      behind-on p v c h.0 ∙ behind-narrow v h.1 ∙ sym (behind-on q v c g))
      (λ g. behind-stop p v c (strict c g) ∙ sym (behind-stop q v c g))

-- a value is a text as a whole
front-all : (v : Bytes) → front (keeps false) v ≡ v
front-all [] = refl
front-all (c ∷ v) = ap {B = Bytes} (λ x. c ∷ x) (front-all v)

pub text-whole : (s : Bytes) (i : ℕ) → text_at false s i ≡ value_from (drop i s)
unfolding text_at
text-whole s i = front-all (value_from (drop i s))

-- the value has ended, its next byte ends the text, or goes on with it
not-false : (t : Bool) → not t ≡ false → t ≡ true
not-false true e = refl
not-false false e = sym e

not-true : (t : Bool) → not t ≡ true → t ≡ false
not-true true e = sym e
not-true false e = refl

module _ (words : Bool) (s : Bytes) (i : ℕ) where
  pub text-ended : value_from (drop i s) ≡ [] → TextByte words s i None
  unfolding text_at
  text-ended e = ap (front (keeps words)) e

  module _ (b k : ℕ) (e : value_from (drop i s) ≡ b ∷ value_from (drop k s)) where
    pub text-stop : not (keeps words b) ≡ true → TextByte words s i None
    unfolding text_at
    text-stop g = front-stop (keeps words) (value_from (drop i s)) (value_from (drop k s)) b e (not-true (keeps words b) g)

    pub text-on : not (keeps words b) ≡ false → i < k → k ≤ length s → TextByte words s i (Some (record { byte = b; next = k }))
    unfolding text_at
    text-on g h l = (front-on (keeps words) (value_from (drop i s)) (value_from (drop k s)) b e (not-false (keeps words b) g), h, l)

-- what an answer tells, once its form is known
pub text-told : (words : Bool) (s : Bytes) (i : ℕ) (x : Option Decoded) {y : Option Decoded} → TextByte words s i x → x ≡ y → TextByte words s i y
text-told words s i x h e = subst (TextByte words s i) e h
