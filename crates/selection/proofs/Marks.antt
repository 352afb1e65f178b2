-- The code's tests of one or two bytes: which sign they are, and whether an int begins there.
use Prim.Native.Nat.{ℕ, ◌≤◌, ◌<◌}
use mathlib.Core.Path.{◌≡◌, refl, sym, ap, ◌∙◌}
use mathlib.Core.Bool.{Bool, true, false, ◌&&◌, ◌||◌}
use mathlib.Core.List.{[], ◌∷◌}
use mathlib.Core.Option.{Option, none}
use lib.Dec.{eqb, leb}
use lib.ListN.{get_or}
use borrow.Author.Tests.{ne_eqb, le-leb, lt-leb}
use Rattle.format.specs.Bytes.{Bytes, pick, is_digit}
use Rattle.selection.specs.Expressions.{Sign}
use Rattle.selection.specs.Reading.{all_signs, sign_among, is_int_first}

-- a sign is told by two bytes
pub sign-of-two : (c : ℕ) (s : Bytes) → sign_among all_signs (c ∷ s) ≡ sign_among all_signs (c ∷ get_or s 0 0 ∷ [])
sign-of-two c [] = refl
sign-of-two c (d ∷ s) = refl

abbrev two : ℕ → ℕ → Option Sign
two b d = sign_among all_signs (b ∷ d ∷ [])

pub one_byte : (x b d : ℕ) (g : Option Sign) → b ≡ x → g ≡ two x d → g ≡ two b d
one_byte x b d g e h = h ∙ ap (λ (c : ℕ). two c d) (sym e)

pub two_bytes : (x y b d : ℕ) → b ≡ x → d ≡ y → two x y ≡ two b d
two_bytes x y b d e k = λ i. two (sym e i) (sym k i)

-- a byte that is a sign of its own, or none, where the second byte does not go with it
pub other-behind : (x y b d : ℕ) (f g : Option Sign) → b ≡ x → (d ≡ y → ⊥) → two x d ≡ pick (eqb y d && true) f g → g ≡ two b d
other-behind x y b d f g e k h = ap (λ (t : Bool). pick (t && true) f g) (sym (ne_eqb y d (λ q. k (sym q)))) ∙ sym h ∙ ap (λ (c : ℕ). two c d) (sym e)

pub no-mark : (b d : ℕ) → (b ≡ 61 → ⊥) → (b ≡ 33 → ⊥) → (b ≡ 60 → ⊥) → (b ≡ 62 → ⊥) → (b ≡ 38 → ⊥) → (b ≡ 124 → ⊥) → (b ≡ 40 → ⊥) → (b ≡ 41 → ⊥) → none ≡ two b d
no-mark b d h1 h2 h3 h4 h5 h6 h7 h8 = rw (n 61 h1, n 33 h2, n 60 h3, n 62 h4, n 38 h5, n 124 h6, n 40 h7, n 41 h8)
  where
    n : (x : ℕ) → (b ≡ x → ⊥) → eqb x b ≡ false
    n x h = ne_eqb x b (λ q. h (sym q))

-- does an int begin with a byte
or-none : (t : Bool) → t || false ≡ t
or-none true = refl
or-none false = refl

begins-by : (b : ℕ) → (b ≡ 45 → ⊥) → is_int_first b ≡ is_digit b
begins-by b h = ap (λ (t : Bool). is_digit b || t) (ne_eqb b 45 h) ∙ or-none (is_digit b)

pub begins-minus : (b : ℕ) → b ≡ 45 → true ≡ is_int_first b
begins-minus b e = ap is_int_first (sym e)

pub begins-digit : (b : ℕ) → (b ≡ 45 → ⊥) → 48 ≤ b → leb b 57 ≡ is_int_first b
begins-digit b h l = ap (λ (t : Bool). t && leb b 57) (sym (le-leb 48 b l)) ∙ sym (begins-by b h)

pub begins-other : (b : ℕ) → (b ≡ 45 → ⊥) → b < 48 → false ≡ is_int_first b
begins-other b h l = ap (λ (t : Bool). t && leb b 57) (sym (lt-leb 48 b l)) ∙ sym (begins-by b h)
