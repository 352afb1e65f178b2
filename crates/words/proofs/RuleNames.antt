-- The place of a word in a list, one word after another; and what a number says of a name.
use Prim.Native.Nat.{ℕ, suc, ◌<◌}
use native.Mathlib.Omega.{arith}
use mathlib.Core.Path.{◌≡◌, refl, sym, ap, ◌∙◌}
use mathlib.Core.Bool.{Bool, true, false, ◌||◌}
use mathlib.Core.List.{List, [], ◌∷◌}
use borrow.Author.Tests.{ltb-true, ltb-false, lt-ltb, le-ltb}
use lib.Dec.{ltb}
use lib.ListN.{length, get_or}
use Rattle.format.specs.Bytes.{Bytes, pick, same, among}
use Rattle.format.proofs.Listing.{same_true}
use Rattle.words.specs.RuleNames.{place_in, rule_names, rule_no}
use Rattle.words.specs.declared.fieldnames.Rule.{Rule}

module _ (w : Bytes) (ws : List Bytes) (v : Bytes) (vs : List Bytes) (e : ws ≡ v ∷ vs) where
  place-by : (t : Bool) → same w v ≡ t → place_in w ws ≡ pick t 0 (suc (place_in w vs))
  place-by t q = ap (place_in w) e ∙ ap (λ (b : Bool). pick b 0 (suc (place_in w vs))) q

  pub place_here : same w v ≡ true → place_in w ws ≡ 0
  place_here q = place-by true q

  pub place-later : same w v ≡ false → place_in w ws ≡ suc (place_in w vs)
  place-later q = place-by false q

-- a word is one of a list if its place is before their number, and only then
pub place-among : (w : Bytes) (ws : List Bytes) → ltb (place_in w ws) (length ws) ≡ among w ws
place-among w [] = refl
place-among w (v ∷ vs) = go (same w v) (place-among w vs)
  where
    go : (t : Bool) → ltb (place_in w vs) (length vs) ≡ among w vs → ltb (pick t 0 (suc (place_in w vs))) (suc (length vs)) ≡ t || among w vs
    go true e = lt-ltb 0 (suc (length vs)) (omega arith)
    go false e = both (ltb (place_in w vs) (length vs)) refl ∙ e
      where
        both : (b : Bool) → ltb (place_in w vs) (length vs) ≡ b → ltb (suc (place_in w vs)) (suc (length vs)) ≡ b
        both true q = lt-ltb (suc (place_in w vs)) (suc (length vs)) (let h = ltb-true (place_in w vs) (length vs) q in omega arith)
        both false q = le-ltb (suc (place_in w vs)) (suc (length vs)) (let h = ltb-false (place_in w vs) (length vs) q in omega arith)

-- a word that has another place than a name is not that name
pub not-placed : (w v : Bytes) (ws : List Bytes) (n k : ℕ) → n ≡ place_in w ws → place_in v ws ≡ k → (n ≡ k → ⊥) → same v w ≡ false
not-placed w v ws n k e f h = go (same v w) refl
  where
    go : (b : Bool) → same v w ≡ b → b ≡ false
    go false q = refl
    go true q = absurd (h (e ∙ ap (λ (x : Bytes). place_in x ws) (sym (same_true v w q)) ∙ f))

-- and one that has a name's place is that name
pub placed-is : (w : Bytes) (ws : List Bytes) → place_in w ws < length ws → w ≡ get_or ws (place_in w ws) []
placed-is w [] h = absurd (omega arith)
placed-is w (v ∷ vs) h = go (same w v) refl (λ g. placed-is w vs g) h
  where
    go : (b : Bool) → same w v ≡ b → (place_in w vs < length vs → w ≡ get_or vs (place_in w vs) []) → pick b 0 (suc (place_in w vs)) < suc (length vs) → w ≡ get_or (v ∷ vs) (pick b 0 (suc (place_in w vs))) []
    go true q ih g = same_true w v q
    go false q ih g = ih (omega (arith, g))

pub is-placed : (w v : Bytes) (ws : List Bytes) (n k : ℕ) → n ≡ place_in w ws → get_or ws k [] ≡ v → k < length ws → same v v ≡ true → n ≡ k → same v w ≡ true
is-placed w v ws n k e f h s q =
    let p : place_in w ws ≡ k = sym e ∙ q in
    let g : w ≡ v = placed-is w ws (omega (arith, p)) ∙ ap (λ (j : ℕ). get_or ws j []) p ∙ f in
    ap (same v) g ∙ s

-- a name with one of these names' numbers has its place
pub placed : (w : Bytes) (r : Rule) (k : Rule) → rule_no r ≡ place_in w rule_names → r ≡ k → rule_no k ≡ place_in w rule_names
placed w r k e q = sym (ap rule_no q) ∙ e
