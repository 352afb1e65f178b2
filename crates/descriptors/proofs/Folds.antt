-- A test of all, one by one.
use mathlib.Core.Path.{◌≡◌, sym, ap, ◌∙◌}
use mathlib.Core.Bool.{Bool, true, false, ◌&&◌, and-eq-true_iff}
use mathlib.Core.List.{List, ◌∷◌}
use Rattle.format.specs.Bytes.{all}

module _ {A : Type 0} (p : A → Bool) (xs : List A) (x : A) (ys : List A) (e : xs ≡ x ∷ ys) where
  pub all_more : p x ≡ true → all p xs ≡ all p ys
  all_more h = ap (all p) e ∙ ap (λ (b : Bool). b && all p ys) h

  pub all-stop : p x ≡ false → all p xs ≡ false
  all-stop h = ap (all p) e ∙ ap (λ (b : Bool). b && all p ys) h

  pub all_both : all p xs ≡ true → (p x ≡ true) × (all p ys ≡ true)
  all_both h = (and-eq-true_iff (p x) (all p ys)).0 (sym (ap (all p) e) ∙ h)
