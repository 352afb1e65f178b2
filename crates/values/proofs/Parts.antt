-- The parts of a word between commas, byte by byte.
use Rattle.std.specs.Prelude.{Option}
use Prim.Native.Nat.{ℕ}
use mathlib.Core.Path.{◌≡◌, ap, ◌∙◌, subst}
use mathlib.Core.Bool.{Bool, true, false, not}
use mathlib.Core.List.{[], ◌∷◌}
use lib.Dec.{eqb}
use Rattle.format.specs.Bytes.{Bytes, pick}
use Rattle.format.specs.Lists.{behind}
use Rattle.format.specs.Words.{split}
use Rattle.format.proofs.Parts.{parts_behind}
use Rattle.values.specs.Words.{is_comma, name_of, others_of, Behind}

-- a word that has ended, one that begins with a comma, and one that begins with another byte
module _ (w : Bytes) where
  pub parts_none : w ≡ [] → (name_of w ≡ []) × (others_of w ≡ [])
  parts_none e = (ap name_of e, ap others_of e)

  module _ (b : ℕ) (u : Bytes) (e : w ≡ b ∷ u) where
    name_by : (t : Bool) → eqb b 44 ≡ t → name_of w ≡ pick (not t) (b ∷ name_of u) []
    name_by t q = ap name_of e ∙ ap (λ (x : Bool). pick (not x) (b ∷ name_of u) []) q

    others_by_lem : (t : Bool) → eqb b 44 ≡ t → others_of w ≡ parts_behind is_comma (pick (not t) (behind (λ (c : ℕ). not (is_comma c)) u) (b ∷ u))
    others_by_lem t q = ap others_of e ∙ ap (λ (x : Bool). parts_behind is_comma (pick (not x) (behind (λ (c : ℕ). not (is_comma c)) u) (b ∷ u))) q

    pub parts-comma : eqb b 44 ≡ true → (name_of w ≡ []) × (others_of w ≡ split 44 u)
    parts-comma q = (name_by true q, others_by_lem true q)

    pub parts-on : eqb b 44 ≡ false → (name_of w ≡ b ∷ name_of u) × (others_of w ≡ others_of u)
    parts-on q = (name_by false q, others_by_lem false q)

-- what an answer tells, once its form is known
pub behind-told : (s : Bytes) (i : ℕ) (p : Option ℕ) {q : Option ℕ} → Behind s i p → p ≡ q → Behind s i q
behind-told s i p h e = subst (Behind s i) e h
