-- The words of a value, byte by byte: bytes are passed, and a word's bytes are compared with another text's.
use Prim.Native.Nat.{ℕ, suc, ◌+◌, ◌≤◌, ◌<◌}
use native.Mathlib.Omega.{arith}
use mathlib.Core.Path.{◌≡◌, refl, sym, ap, ◌∙◌}
use mathlib.Core.Bool.{Bool, true, false, not}
use mathlib.Core.List.{[], ◌∷◌}
use lib.Dec.{eqb}
use lib.ListN.{length, drop, get_or, drop_of_length-le, length-drop}
use borrow.Author.Tests.{eqb-true, eqb-false, eq-eqb, ne_eqb}
use Rattle.format.specs.Lists.{front, behind}
use Rattle.format.specs.Bytes.{Bytes, pick, same}
use Rattle.format.specs.Words.{is_gap, not_gap}
use Rattle.lines.proofs.Cuts.{at-cons}
use Rattle.values.specs.Value.{value_from}
use Rattle.values.proofs.Decoding.{value-length}

-- a text that begins with a byte that is passed, or with another
module _ (p : ℕ → Bool) (v w : Bytes) (b : ℕ) (e : v ≡ b ∷ w) where
  pub byte-passed : p b ≡ true → behind p v ≡ behind p w
  byte-passed g = ap (behind p) e ∙ ap (λ (t : Bool). pick t (behind p w) (b ∷ w)) g

  pub byte_left : p b ≡ false → behind p v ≡ v
  byte_left g = ap (behind p) e ∙ ap (λ (t : Bool). pick t (behind p w) (b ∷ w)) g ∙ sym e

-- a text that begins with a gap, and one that begins with another byte
module _ (v w : Bytes) (b : ℕ) (e : v ≡ b ∷ w) where
  pub word-ended : is_gap b ≡ true → front not_gap v ≡ []
  word-ended g = ap (front not_gap) e ∙ ap (λ (t : Bool). pick (not t) (b ∷ front not_gap w) []) g

  pub word_on : is_gap b ≡ false → front not_gap v ≡ b ∷ front not_gap w
  word_on g = ap (front not_gap) e ∙ ap (λ (t : Bool). pick (not t) (b ∷ front not_gap w) []) g

-- is a text, from its byte n on, the same as another
drop-none : (w : Bytes) (n : ℕ) → n ≡ length w → drop n w ≡ []
drop-none w n e = let h : length w ≤ n = omega arith in drop_of_length-le w h

same_none : (w : Bytes) (n : ℕ) → n ≤ length w → same (drop n w) [] ≡ eqb n (length w)
same_none w n h = go (eqb n (length w)) refl
  where
    go : (t : Bool) → eqb n (length w) ≡ t → same (drop n w) [] ≡ t
    go true e = ap (λ (x : Bytes). same x []) (drop-none w n (eqb-true n (length w) e))
    go false e = rw (at-cons w n (omega (arith, eqb-false n (length w) e)))

module _ (w : Bytes) (n : ℕ) (u : Bytes) where
  pub same_ended : n ≤ length w → u ≡ [] → same (drop n w) u ≡ eqb n (length w)
  same_ended h e = ap (same (drop n w)) e ∙ same_none w n h

  pub same_over : (b : ℕ) (x : Bytes) → n ≡ length w → u ≡ b ∷ x → same (drop n w) u ≡ false
  same_over b x h e = rw (drop-none w n h, e)

  pub same-other : (b : ℕ) (x : Bytes) → n < length w → u ≡ b ∷ x → (get_or w n 0 ≡ b → ⊥) → same (drop n w) u ≡ false
  same-other b x h e d = rw (at-cons w n h, e, ne_eqb _ _ d)

  pub same_byte : (b : ℕ) (x : Bytes) → n < length w → u ≡ b ∷ x → get_or w n 0 ≡ b → same (drop n w) u ≡ same (drop (n + 1) w) x
  same_byte b x h e d = rw (at-cons w n h, e, eq-eqb _ _ d)

-- the word that a value begins with is no longer than the text
front_length : (p : ℕ → Bool) (v : Bytes) → length (front p v) ≤ length v
front_length p [] = omega arith
front_length p (c ∷ v) = go (p c) (front p v) (front_length p v)
  where
    go : (b : Bool) (w : Bytes) → length w ≤ length v → length (pick b (c ∷ w) []) ≤ suc (length v)
    go true w h = omega arith
    go false w h = omega arith

pub word-length : (s : Bytes) (i : ℕ) → length (front not_gap (value_from (drop i s))) ≤ length s
word-length s i = omega (arith, front_length not_gap (value_from (drop i s)), value-length (drop i s), length-drop i s)
