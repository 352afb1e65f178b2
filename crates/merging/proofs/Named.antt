-- A test of the set of a name: by the sets one after another, and after an edit of one of them.
use Prim.Native.Nat.{ℕ, zero, suc}
use mathlib.Core.Path.{◌≡◌, refl, sym, ap, ◌∙◌}
use mathlib.Core.Bool.{Bool, true, false, false≢true}
use mathlib.Core.List.{List, [], ◌∷◌}
use mathlib.Core.Option.{Option, none, some}
use Rattle.format.specs.Bytes.{Bytes, pick, same}
use Rattle.format.specs.Lists.{onward, nth}
use Rattle.format.specs.Sets.{RecSet}
use Rattle.format.specs.Numbering.{or_else}
use Rattle.format.specs.Edits.{Edit, in_set}
use Rattle.format.specs.Plain.{set_at, index_of}
use Rattle.format.proofs.Elements.{Each}
use Rattle.merging.specs.Merging.{of_named}

pub named-cons : (f : RecSet → Bool) (n : Bytes) (s : RecSet) (ss : List RecSet) → of_named f n (s ∷ ss) ≡ pick (same n s.name) (f s) (of_named f n ss)
named-cons f n s ss = go (same n s.name) (index_of n ss)
  where
    go : (t : Bool) (o : Option ℕ) → or_else false (λ (i : ℕ). f (set_at i (s ∷ ss))) (pick t (some zero) (onward (λ (i : ℕ). some (suc i)) o)) ≡ pick t (f s) (or_else false (λ (i : ℕ). f (set_at i ss)) o)
    go true o = refl
    go false none = refl
    go false (some i) = refl

-- a set that passes a test is there
pub named-there : (f : RecSet → Bool) (n : Bytes) (ss : List RecSet) → of_named f n ss ≡ true → (i : ℕ) × (index_of n ss ≡ some i) × (f (set_at i ss) ≡ true)
named-there f n ss e = go (index_of n ss) refl e
  where
    go : (o : Option ℕ) → index_of n ss ≡ o → or_else false (λ (i : ℕ). f (set_at i ss)) o ≡ true → (i : ℕ) × (index_of n ss ≡ some i) × (f (set_at i ss) ≡ true)
    go none q h = absurd (false≢true h)
    go (some i) q h = (i, q, h)

-- tests that are alike, and a test that follows from another
pub named-alike : (f g : RecSet → Bool) (n : Bytes) (ss : List RecSet) → Each (λ (s : RecSet). f s ≡ g s) ss → of_named f n ss ≡ of_named g n ss
named-alike f g n [] h = refl
named-alike f g n (s ∷ ss) h = named-cons f n s ss ∙ (λ i. pick (same n s.name) (h.0 i) (named-alike f g n ss h.1 i)) ∙ sym (named-cons g n s ss)

pub named-imp : (f g : RecSet → Bool) → ((s : RecSet) → f s ≡ true → g s ≡ true) → (n : Bytes) (ss : List RecSet) → of_named f n ss ≡ true → of_named g n ss ≡ true
named-imp f g h n ss e = go (index_of n ss) e
  where
    go : (o : Option ℕ) → or_else false (λ (i : ℕ). f (set_at i ss)) o ≡ true → or_else false (λ (i : ℕ). g (set_at i ss)) o ≡ true
    go none k = k
    go (some i) k = h (set_at i ss) k

-- after an edit

picked-imp : (t a b c d : Bool) → (a ≡ true → c ≡ true) → (b ≡ true → d ≡ true) → pick t a b ≡ true → pick t c d ≡ true
picked-imp true a b c d h k e = h e
picked-imp false a b c d h k e = k e

module _ (f : RecSet → Bool) (n : Bytes) (e : Edit) where
  pub named-kept : ((s : RecSet) → f s ≡ true → f (in_set e s) ≡ true) → (i : ℕ) (ss : List RecSet) → of_named f n ss ≡ true → of_named f n (nth i (in_set e) ss) ≡ true
  named-kept h i [] k = k
  named-kept h zero (s ∷ ss) k = named-cons f n (in_set e s) ss ∙ picked-imp (same n s.name) (f s) (of_named f n ss) (f (in_set e s)) (of_named f n ss) (h s) (λ q. q) (sym (named-cons f n s ss) ∙ k)
  named-kept h (suc i) (s ∷ ss) k = named-cons f n s (nth i (in_set e) ss) ∙ picked-imp (same n s.name) (f s) (of_named f n ss) (f s) (of_named f n (nth i (in_set e) ss)) (λ q. q) (named-kept h i ss) (sym (named-cons f n s ss) ∙ k)

  -- of the set itself
  abbrev pub edited_by : Option ℕ → List RecSet → List RecSet
  edited_by none ss = ss
  edited_by (some i) ss = nth i (in_set e) ss

  pub named-edited : (ss : List RecSet) → of_named f n (edited_by (index_of n ss) ss) ≡ of_named (λ (s : RecSet). f (in_set e s)) n ss
  named-edited [] = refl
  named-edited (s ∷ ss) = ap (of_named f n) (cut (same n s.name) (index_of n ss)) ∙ go (same n s.name) refl (named-edited ss) ∙ sym (named-cons (λ (x : RecSet). f (in_set e x)) n s ss)
    where
      cut : (t : Bool) (o : Option ℕ) → edited_by (pick t (some zero) (onward (λ (i : ℕ). some (suc i)) o)) (s ∷ ss) ≡ pick t (in_set e s ∷ ss) (s ∷ edited_by o ss)
      cut true o = refl
      cut false none = refl
      cut false (some i) = refl

      go : (t : Bool) → same n s.name ≡ t → of_named f n (edited_by (index_of n ss) ss) ≡ of_named (λ (x : RecSet). f (in_set e x)) n ss
          → of_named f n (pick t (in_set e s ∷ ss) (s ∷ edited_by (index_of n ss) ss)) ≡ pick t (f (in_set e s)) (of_named (λ (x : RecSet). f (in_set e x)) n ss)
      go true q ih = named-cons f n (in_set e s) ss ∙ ap (λ (t : Bool). pick t (f (in_set e s)) (of_named f n ss)) q
      go false q ih = named-cons f n s (edited_by (index_of n ss) ss) ∙ ap (λ (t : Bool). pick t (f s) (of_named f n (edited_by (index_of n ss) ss))) q ∙ ih
