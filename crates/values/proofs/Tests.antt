-- Tests with what they say.
use Prim.Native.Nat.{ℕ, ◌<◌, ◌≤◌}
use native.Mathlib.Omega.{arith}
use mathlib.Core.Path.{◌≡◌, refl, sym}
use mathlib.Core.Bool.{Bool, true, false, ◌||◌}
use mathlib.Core.List.{[], ◌∷◌}
use borrow.Author.Tests.{ltb-true, ltb-false, eq-eqb}
use lib.Dec.{ltb}
use Rattle.format.specs.Bytes.{Bytes, same}
use Rattle.format.proofs.Listing.{same_true}

pub by_bool : {P : Type 0} (t : Bool) → (t ≡ true → P) → (t ≡ false → P) → P
by_bool true f g = f refl
by_bool false f g = g refl

pub dec-lt : {P : Type 0} (a b : ℕ) → (a < b → P) → (b ≤ a → P) → P
dec-lt a b f g = by_bool (ltb a b) (λ e. f (ltb-true a b e)) (λ e. g (ltb-false a b e))

-- two numbers: less, greater or equal
pub three_ways : {P : Type 0} (x y : ℕ) → (x < y → P) → (y < x → P) → (x ≡ y → P) → P
three_ways {P} x y f g h = go (ltb x y) refl (ltb y x) refl
  where
    go : (a : Bool) → ltb x y ≡ a → (b : Bool) → ltb y x ≡ b → P
    go true p b q = f (ltb-true x y p)
    go false p true q = g (ltb-true y x q)
    go false p false q = let m = ltb-false x y p in let n = ltb-false y x q in h (omega arith)

-- texts that are the same, and that are not
pub same_self : (x : Bytes) → same x x ≡ true
same_self [] = refl
same_self (x ∷ s) = rw (eq-eqb x x refl) (same_self s)

pub same-apart : (a b : Bytes) → (a ≡ b → ⊥) → same a b ≡ false
same-apart a b n = by_bool (same a b) (λ e. absurd (n (same_true a b e))) (λ e. e)

-- two tests of which each says no where the other does
pub same_false : (a b : Bool) → (a ≡ false → b ≡ false) → (b ≡ false → a ≡ false) → a ≡ b
same_false true true f g = refl
same_false true false f g = g refl
same_false false b f g = sym (f refl)

pub or-first : (a b : Bool) → a || b ≡ false → a ≡ false
or-first true b e = e
or-first false b e = refl

pub or-second : (a b : Bool) → a || b ≡ false → b ≡ false
or-second true true e = e
or-second true false e = refl
or-second false b e = e
