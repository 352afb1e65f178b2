-- A record closed in a walk, as the code tests it.
use Prim.Native.Nat.{ℕ, ◌+◌}
use mathlib.Core.Path.{◌≡◌, sym, ◌∙◌}
use mathlib.Core.Bool.{Bool, true, false}
use mathlib.Core.List.{List}
use lib.Dec.{eqb, ltb}
use lib.ListN.{length, set}
use borrow.Author.Tests.{eq-eqb, ne_eqb}
use Rattle.format.specs.Bytes.{pick}
use Rattle.selection.specs.Walks.{closed_number, closed_found, closed_list}
use Rattle.selection.proofs.Ints.{pick_true, pick-false}

module _ (fields met found : ℕ) (b : Bool) (list : List ℕ) where
  pub closed_none : fields ≡ 0 → (met ≡ closed_number fields met) × (found ≡ closed_found fields b found) × (list ≡ closed_list fields b met found list)
  closed_none e = let z = eq-eqb fields 0 e in (sym (pick_true (eqb fields 0) _ _ z), sym (pick_true (eqb fields 0) _ _ z), sym (pick_true (eqb fields 0) _ _ z))

  module _ (h : fields ≡ 0 → ⊥) where
    more : {A : Type 0} (x y : A) → pick (eqb fields 0) x y ≡ y
    more x y = pick-false (eqb fields 0) x y (ne_eqb fields 0 h)

    pub closed-found : (next : List ℕ) → b ≡ true → next ≡ pick (ltb found (length list)) (set list found met) list → (met + 1 ≡ closed_number fields met) × (found + 1 ≡ closed_found fields b found) × (next ≡ closed_list fields b met found list)
    closed-found next e f = (sym (more _ _), sym (more _ _ ∙ pick_true b _ _ e), f ∙ sym (more _ _ ∙ pick_true b _ _ e))

    pub closed-passed : b ≡ false → (met + 1 ≡ closed_number fields met) × (found ≡ closed_found fields b found) × (list ≡ closed_list fields b met found list)
    closed-passed e = (sym (more _ _), sym (more _ _ ∙ pick-false b _ _ e), sym (more _ _ ∙ pick-false b _ _ e))
