-- The bytes of a field line.
use Prim.Native.Nat.{ℕ, ◌+◌, ◌≤◌, ◌<◌}
use native.Mathlib.Omega.{arith}
use mathlib.Core.Path.{◌≡◌, refl, sym, ap, ◌∙◌, subst}
use mathlib.Core.Bool.{Bool, true, false, ◌||◌, false≢true}
use mathlib.Core.List.{[], ◌∷◌, ◌++◌}
use borrow.Author.Tests.{eqb-true, eqb-false}
use lib.Dec.{eqb}
use lib.ListN.{length}
use Rattle.format.specs.Bytes.{Bytes, pick, is_blank}
use Rattle.format.specs.Lines.{Line, Form, after_colon, form, joins, is_name}
use Rattle.format.proofs.Renaming.{Starts, starts}
use Rattle.lines.specs.Piece.{value_at}

-- A field line is its name, a colon and what follows, and takes the next one on if what it adds to the value does.
abbrev pub Shaped : Line → Bytes → Bytes → Type 0
Shaped l n v = (y : Bytes) × (l ≡ n ++ (58 ∷ y)) × (joins v ≡ joins (58 ∷ y))

either : {P : Type 0} (a b : Bool) → (a ≡ true → P) → (b ≡ true → P) → a || b ≡ true → P
either true b f g e = f refl
either false b f g e = g e

blank-joins : (d : ℕ) (s : Bytes) → is_blank d ≡ true → joins s ≡ joins (d ∷ s)
blank-joins d [] e = sym (either (eqb d 32) (eqb d 9) (λ q. ap (λ (x : ℕ). eqb x 92) (eqb-true d 32 q)) (λ q. ap (λ (x : ℕ). eqb x 92) (eqb-true d 9 q)) e)
blank-joins d (c ∷ s) e = refl

colon-joins : (n y v : Bytes) → after_colon n y ≡ Form.field n v → joins v ≡ joins (58 ∷ y)
colon-joins n [] v e = let z : v ≡ [] = cc in ap joins z
colon-joins n (d ∷ y) v e = go (is_blank d) refl e
  where
    go : (b : Bool) → is_blank d ≡ b → pick b (Form.field n y) Form.fault ≡ Form.field n v → joins v ≡ joins (58 ∷ d ∷ y)
    go true q f = let z : v ≡ y = cc in ap joins z ∙ blank-joins d y q
    go false q f = let z : ◌≡◌ {A = ℕ} 0 1 = cc in absurd (omega arith)

module _ (l : Line) (n v : Bytes) (is : form l ≡ Form.field n v) where
  begun : Starts (Form.field n v) l
  begun = subst (λ (F : Form). Starts F l) is (starts l)

  pub shaped : Shaped l n v
  shaped = (begun.0, begun.2, colon-joins n begun.0 v begun.3)

  -- its name is not empty
  pub name-some : 0 < length n
  name-some = go n begun.1
    where
      go : (m : Bytes) → is_name m ≡ true → 0 < length m
      go [] e = absurd (false≢true e)
      go (c ∷ m) e = omega arith

pub joins-name : (n t : Bytes) → joins (n ++ (58 ∷ t)) ≡ joins (58 ∷ t)
joins-name [] t = refl
joins-name (c ∷ []) t = refl
joins-name (c ∷ d ∷ n) t = joins-name (d ∷ n) t

-- its value begins behind its name, on the line or at its newline
pub value-inside : (n : ℕ) (l : Line) → n < length l → (n < value_at n l) × (value_at n l ≤ length l)
value-inside n l h = go (eqb (length l) (n + 1)) refl
  where
    go : (b : Bool) → eqb (length l) (n + 1) ≡ b → (n < pick b (n + 1) (n + 2)) × (pick b (n + 1) (n + 2) ≤ length l)
    go true q = omega (arith, eqb-true (length l) (n + 1) q)
    go false q = (omega arith, below (eqb-false (length l) (n + 1) q))
      where
        below : (length l ≡ n + 1 → ⊥) → n + 2 ≤ length l
        below x = omega arith
