-- What a table of numbered words says of a word.
use Prim.Native.Nat.{ℕ, zero, suc, ◌+◌, ◌≤◌, ◌<◌}
use native.Mathlib.Omega.{arith}
use mathlib.Core.Path.{◌≡◌, refl, sym, ap, ap₂, ◌∙◌}
use mathlib.Core.Bool.{Bool, true, false, ◌&&◌, ◌||◌}
use mathlib.Core.List.{List, [], ◌∷◌}
use borrow.Author.Tests.{eq-eqb, ne_eqb, lt-ltb, le-ltb}
use lib.Dec.{ltb}
use lib.ListN.{length, get_or, take}
use Rattle.format.specs.Bytes.{Bytes, same}
use Rattle.values.proofs.Tests.{dec-lt}
use Rattle.terms.specs.Sets.{tagged, Answers}
use Rattle.terms.specs.Entries.{terms_of}
use Rattle.dictionary.specs.declared.wordsets.Words.{Words}
use Rattle.terms.proofs.Tests.{or-none}
use Rattle.dictionary.specs.Numbered.{numbered, IsWords, Places}

and_none : (t : Bool) → t && false ≡ false
and_none true = refl
and_none false = refl

and_one : (t : Bool) → t && true ≡ t
and_one true = refl
and_one false = refl

module _ (w : Bytes) where
  -- a tag below all, above all, and between
  below : (k j : ℕ) (ws : List Bytes) → k < j → tagged w k (numbered j ws) ≡ false
  below k j [] h = refl
  below k j (v ∷ ws) h = ap₂ ◌||◌ (ap (λ (t : Bool). same w v && t) (ne_eqb k j (λ e. omega arith)) ∙ and_none (same w v)) (below k (suc j) ws (omega arith))

  above : (k j : ℕ) (ws : List Bytes) → j + length ws ≤ k → tagged w k (numbered j ws) ≡ false
  above k j [] h = refl
  above k j (v ∷ ws) h = ap₂ ◌||◌ (ap (λ (t : Bool). same w v && t) (ne_eqb k j (λ e. omega arith)) ∙ and_none (same w v)) (above k (suc j) ws (omega arith))

  inside : (k j : ℕ) (ws : List Bytes) → k < length ws → tagged w (j + k) (numbered j ws) ≡ same w (get_or ws k [])
  inside k j [] h = absurd (omega arith)
  inside zero j (v ∷ ws) h =
      ap₂ ◌||◌ (ap (λ (t : Bool). same w v && t) (eq-eqb (j + 0) j (omega arith)) ∙ and_one (same w v)) (below (j + 0) (suc j) ws (omega arith)) ∙ or-none (same w v)
  inside (suc k) j (v ∷ ws) h =
      let e : j + suc k ≡ suc j + k = omega arith in
      ap₂ ◌||◌ (ap (λ (t : Bool). same w v && t) (ne_eqb (j + suc k) j (λ q. omega arith)) ∙ and_none (same w v))
      (ap (λ (i : ℕ). tagged w i (numbered (suc j) ws)) e ∙ inside k (suc j) ws (omega arith))

  tagged-place : (ws : List Bytes) (k : ℕ) → tagged w k (numbered 0 ws) ≡ (ltb k (length ws) && same w (get_or ws k []))
  tagged-place ws k =
      dec-lt k (length ws) (λ h. ap (λ (i : ℕ). tagged w i (numbered 0 ws)) (let e : k ≡ 0 + k = omega arith in e) ∙ inside k 0 ws h ∙ sym (ap (λ (t : Bool). t && same w (get_or ws k [])) (lt-ltb k (length ws) h)))
      (λ h. above k 0 ws (omega arith) ∙ sym (ap (λ (t : Bool). t && same w (get_or ws k [])) (le-ltb k (length ws) h)))

-- the tags that are found are the places
pub places-found : (d : Bytes) (ws : List Bytes) (l sets : List ℕ) (r : Words) → IsWords d ws l sets r → (w : Bytes) (x : ℕ) → Answers w (terms_of d (take r.table.count l)) x → Places ws w x
places-found d ws l sets r h w x q k = q k ∙ h.terms w k ∙ tagged-place w ws k
