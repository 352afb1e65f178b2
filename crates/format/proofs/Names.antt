-- Names: their bytes, and the line that begins with one.
use Prim.Native.Nat.{ℕ, ◌≤◌}
use native.Mathlib.Omega.{arith}
use mathlib.Core.Path.{◌≡◌, refl, sym, ap, ◌∙◌}
use mathlib.Core.Bool.{Bool, true, false, ◌||◌, and-eq-true_iff, false≢true}
use mathlib.Core.List.{[], ◌∷◌, ◌++◌}
use lib.Dec.{eqb, leb}
use borrow.Author.Tests.{eqb-true, leb-true, le-leb}
use Rattle.format.specs.Bytes.{Bytes, within, is_letter, is_digit, is_blank, is_newline, is_allowed, all, pick}
use Rattle.format.specs.Lines.{is_first, is_later, is_name, Form, after_colon, form, after_name}
use Rattle.format.proofs.Parts.{front-stops}
use Rattle.format.proofs.Lines.{Clean}

-- a name holds no newline
not-newline : (p : ℕ → Bool) (c : ℕ) → p 10 ≡ false → p c ≡ true → is_newline c ≡ false
not-newline p c e h = go (is_newline c) refl
  where
    go : (b : Bool) → is_newline c ≡ b → is_newline c ≡ false
    go true q = absurd (false≢true (sym e ∙ sym (ap p (eqb-true c 10 q)) ∙ h))
    go false q = q

later-clean : (s : Bytes) → all is_later s ≡ true → Clean s
later-clean [] e = tt
later-clean (c ∷ s) e = let h = (and-eq-true_iff (is_later c) (all is_later s)).0 e in (not-newline is_later c refl h.0, later-clean s h.1)

pub name-clean : (n : Bytes) → is_name n ≡ true → Clean n
name-clean [] e = tt
name-clean (c ∷ s) e = let h = (and-eq-true_iff (is_first c) (all is_later s)).0 e in (not-newline is_first c refl h.0, later-clean s h.1)

-- a name's bytes are allowed, all in 32 to 126
abbrev Printed : ℕ → Type 0
Printed c = (32 ≤ c) × (c ≤ 126)

either : {P : Type 0} (a b : Bool) → (a ≡ true → P) → (b ≡ true → P) → (a || b) ≡ true → P
either true b f g e = f refl
either false b f g e = g e

within-printed : (low high c : ℕ) → 32 ≤ low → high ≤ 126 → within low high c ≡ true → Printed c
within-printed low high c a b e = let h = (and-eq-true_iff (leb low c) (leb c high)).0 e in omega (arith, leb-true low c h.0, leb-true c high h.1)

byte-printed : (c k : ℕ) → Printed k → eqb c k ≡ true → Printed c
byte-printed c k h e = omega (arith, eqb-true c k e)

letter-printed : (c : ℕ) → is_letter c ≡ true → Printed c
letter-printed c = either (within 65 90 c) (within 97 122 c) (within-printed 65 90 c (omega arith) (omega arith)) (within-printed 97 122 c (omega arith) (omega arith))

first-printed : (c : ℕ) → is_first c ≡ true → Printed c
first-printed c = either (is_letter c) (eqb c 37) (letter-printed c) (byte-printed c 37 (omega arith))

later-printed : (c : ℕ) → is_later c ≡ true → Printed c
later-printed c = either (is_letter c || is_digit c) (eqb c 95) (either (is_letter c) (is_digit c) (letter-printed c) (within-printed 48 57 c (omega arith) (omega arith))) (byte-printed c 95 (omega arith))

third : (a b c d : Bool) → c ≡ true → (a || b || c || d) ≡ true
third true b c d e = refl
third false true c d e = refl
third false false c d e = ap (λ (t : Bool). t || d) e

printed-allowed : (c : ℕ) → Printed c → is_allowed c ≡ true
printed-allowed c h = third (eqb c 9) (eqb c 10) (within 32 126 c) (within 128 255 c) ((and-eq-true_iff (leb 32 c) (leb c 126)).1 (le-leb 32 c h.0, le-leb c 126 h.1))

later-allowed : (s : Bytes) → all is_later s ≡ true → all is_allowed s ≡ true
later-allowed [] e = refl
later-allowed (c ∷ s) e = let h = (and-eq-true_iff (is_later c) (all is_later s)).0 e in (and-eq-true_iff (is_allowed c) (all is_allowed s)).1 (printed-allowed c (later-printed c h.0), later-allowed s h.1)

pub name-allowed : (n : Bytes) → is_name n ≡ true → all is_allowed n ≡ true
name-allowed [] e = refl
name-allowed (c ∷ s) e = let h = (and-eq-true_iff (is_first c) (all is_later s)).0 e in (and-eq-true_iff (is_allowed c) (all is_allowed s)).1 (printed-allowed c (first-printed c h.0), later-allowed s h.1)

-- a line of a name, a colon and a text
pub name-form : (n y : Bytes) → is_name n ≡ true → form (n ++ (58 ∷ y)) ≡ after_colon n y
name-form [] y e = absurd (false≢true e)
name-form (c ∷ s) y e =
    let k = (and-eq-true_iff (is_first c) (all is_later s)).0 e in
    let h = front-stops is_later s 58 y k.1 refl in
    rw k.0 (λ i. after_name (c ∷ h.0 i) (h.1 i))

-- what may follow a colon does so behind any name
pub colon-any : (m n y v : Bytes) → after_colon m y ≡ Form.field m v → after_colon n y ≡ Form.field n v
colon-any m n [] v e = let z : [] ≡ v = cc in ap (Form.field n) z
colon-any m n (c ∷ y) v e = go (is_blank c) e
  where
    go : (b : Bool) → pick b (Form.field m y) Form.fault ≡ Form.field m v → pick b (Form.field n y) Form.fault ≡ Form.field n v
    go true q = let z : y ≡ v = cc in ap (Form.field n) z
    go false q = let z : ◌≡◌ {A = ℕ} 0 1 = cc in absurd (omega arith)
