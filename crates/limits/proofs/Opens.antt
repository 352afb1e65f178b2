-- A record that goes on, in the code: its name tests, and the rows of a descriptor.
use Prim.Native.Nat.{ℕ, ◌+◌, ◌≤◌}
use native.Mathlib.Omega.{arith}
use mathlib.Core.Path.{◌≡◌, refl, sym, ap, ◌∙◌}
use mathlib.Core.Bool.{Bool, true, false, ◌&&◌, ◌||◌, not}
use mathlib.Core.List.{List, [], ◌∷◌}
use borrow.Author.Tests.{eq-eqb, ne_eqb, eqb-false}
use lib.Dec.{eqb}
use lib.ListN.{length, set}
use lib.Seq.{set_out}
use Rattle.format.specs.Bytes.{Bytes, text, pick, same}
use Rattle.format.specs.Lines.{is_special}
use Rattle.limits.specs.Opens.{put_row}
use Rattle.limits.specs.declared.Open.{Open}

-- a name that is not special is no `%rec`
pub plain-name : (n : Bytes) → is_special n ≡ false → same (text "%rec") n ≡ false
plain-name [] e = refl
plain-name (c ∷ n) e = ap (λ (b : Bool). b && same (text "rec") n) (ne_eqb 37 c (λ q. eqb-false c 37 e (sym q)))

pub once_by : (b c : Bool) → (not b || c) ≡ pick b c true
once_by true c = refl
once_by false c = refl

pub one-most : (b : Bool) → pick b 1 0 ≤ 1
one-most true = omega arith
one-most false = omega arith

pub none-most : (b : Bool) → pick b 0 1 ≤ 1
none-most true = omega arith
none-most false = omega arith

module _ (o : Open) where
  module _ (e : o.recs ≡ 0) where
    pub number-none : (count : ℕ) → count ≡ count + pick (eqb o.recs 0) 0 1
    number-none count = omega (arith, ap (λ (b : Bool). pick {A = ℕ} b 0 1) (eq-eqb o.recs 0 e))

    pub put-none : (rows : List ℕ) (k v : ℕ) → rows ≡ put_row o rows k v
    put-none rows k v = sym (ap (λ (b : Bool). pick b rows (set rows k v)) (eq-eqb o.recs 0 e))

  module _ (e : o.recs ≡ 0 → ⊥) where
    pub number-one : (count : ℕ) → count + 1 ≡ count + pick (eqb o.recs 0) 0 1
    number-one count = omega (arith, ap (λ (b : Bool). pick {A = ℕ} b 0 1) (ne_eqb o.recs 0 e))

    pub put_in : (rows : List ℕ) (k v : ℕ) → set rows k v ≡ put_row o rows k v
    put_in rows k v = sym (ap (λ (b : Bool). pick b rows (set rows k v)) (ne_eqb o.recs 0 e))

    pub put-out : (rows : List ℕ) (k v : ℕ) → length rows ≤ k → rows ≡ put_row o rows k v
    put-out rows k v h = sym (set_out rows k v h) ∙ put_in rows k v
