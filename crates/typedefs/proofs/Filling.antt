-- Tables that are filled row by row, and values that fit the room they are decoded into.
use Prim.Native.Nat.{ℕ, zero, suc, ◌+◌, ◌≤◌, ◌<◌}
use native.Mathlib.Numerals.{add-one}
use native.Mathlib.Omega.{arith}
use mathlib.Core.Path.{◌≡◌, refl, sym, ap, ap₂, ◌∙◌, subst}
use mathlib.Core.Bool.{Bool, true, false, ◌&&◌}
use mathlib.Core.List.{List, [], ◌∷◌, ◌++◌, map}
use borrow.Author.Tests.{eqb-true, eqb-false, leb-true}
use lib.Dec.{eqb}
use lib.ListN.{length, take, get_or, set}
use lib.Seq.{take-suc-set, get_or-set_same, get_or-set_other}
use Rattle.format.specs.Bytes.{Bytes, all}
use Rattle.values.proofs.Tests.{by_bool}
use Rattle.typedefs.specs.Walks.{fits}
use Rattle.typedefs.specs.Typedefs.{IsTypedef, Typed}
use Rattle.typedefs.specs.declared.Target.{Target}
use Rattle.typedefs.specs.declared.Link.{Link}
use Rattle.typedefs.specs.declared.Typedef.{Typedef}

pub both_true : (a b : Bool) → (a && b) ≡ true → (a ≡ true) × (b ≡ true)
both_true true b e = (refl, e)
both_true false b e = absurd (let z : ◌≡◌ {A = ℕ} 0 1 = cc in omega arith)

pub fit-here : (m : ℕ) (ws : List Bytes) (v : Bytes) (vs : List Bytes) → all (fits m) ws ≡ true → ws ≡ v ∷ vs → (length v ≤ m) × (all (fits m) vs ≡ true)
fit-here m ws v vs h e =
    let b = both_true (fits m v) (all (fits m) vs) (sym (ap (all (fits m)) e) ∙ h) in
    (leb-true (length v) m b.0, b.1)

-- one target more: that of x is what f makes of value k
module _ (f : Bytes → Target) (vs : List Bytes) where
  pub targets-more : (rows : List Link) (k : ℕ) (x : Link) → k < length rows → k < length vs → x.to ≡ f (get_or vs k []) → map (λ (y : Link). y.to) (take k rows) ≡ map f (take k vs)
      → map (λ (y : Link). y.to) (take (k + 1) (set rows k x)) ≡ map f (take (k + 1) vs)
  targets-more rows k x h l q e =
      ap (λ (j : ℕ). map (λ (y : Link). y.to) (take j (set rows k x))) (add-one k)
      ∙ ap (map (λ (y : Link). y.to)) (take-suc-set rows k x h)
      ∙ behind (take k rows) x
      ∙ ap₂ (λ (a : List Target) (y : Target). a ++ (y ∷ [])) e q
      ∙ sym (map_more vs k l) ∙ ap (λ (j : ℕ). map f (take j vs)) (sym (add-one k))
    where
      behind : (l : List Link) (x : Link) → map (λ (y : Link). y.to) (l ++ (x ∷ [])) ≡ map (λ (y : Link). y.to) l ++ (x.to ∷ [])
      behind [] x = refl
      behind (y ∷ l) x = ap (λ (ys : List Target). y.to ∷ ys) (behind l x)

      map_more : (ws : List Bytes) (j : ℕ) → j < length ws → map f (take (suc j) ws) ≡ map f (take j ws) ++ (f (get_or ws j []) ∷ [])
      map_more [] j g = absurd (omega arith)
      map_more (w ∷ ws) zero g = refl
      map_more (w ∷ ws) (suc j) g = ap (λ (ys : List Target). f w ∷ ys) (map_more ws j (omega arith))

-- one typedef more
pub rows_more : (d : Bytes) (places : List ℕ) (rows : List Typedef) (n : ℕ) (x : Typedef) → n < length rows → IsTypedef d (get_or places n 0) x → Typed d places rows n → Typed d places (set rows n x) (n + 1)
rows_more d places rows n x h is f k other l = by_bool (eqb k n) (λ e. here (eqb-true k n e)) (λ e. there (eqb-false k n e))
  where
    here : k ≡ n → IsTypedef d (get_or places k 0) (get_or (set rows n x) k other)
    here e =
        subst (λ (j : ℕ). IsTypedef d (get_or places j 0) (get_or (set rows n x) j other)) (sym e)
        (subst (IsTypedef d (get_or places n 0)) (sym (get_or-set_same rows n x other h)) is)

    there : (k ≡ n → ⊥) → IsTypedef d (get_or places k 0) (get_or (set rows n x) k other)
    there e = subst (IsTypedef d (get_or places k 0)) (sym (get_or-set_other rows n k x other e)) (f k other (omega (arith, e)))
