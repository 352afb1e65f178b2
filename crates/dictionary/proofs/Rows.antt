-- `%type` values one after the other: their names, how many, and which have a tag.
use Prim.Native.Nat.{ℕ, zero, suc, ◌+◌, ◌-◌, ◌≤◌, ◌<◌}
use native.Mathlib.Numerals.{add-one}
use native.Mathlib.Omega.{arith}
use mathlib.Core.Path.{◌≡◌, refl, sym, ap, ap₂, ◌∙◌}
use mathlib.Core.Bool.{Bool, true, false, ◌&&◌, ◌||◌, and-eq-true_iff}
use mathlib.Core.List.{List, [], ◌∷◌, map}
use borrow.Author.Tests.{eq-eqb, ne_eqb}
use lib.Dec.{eqb}
use lib.ListN.{length, drop, get_or, length-drop}
use lib.Seq.{drop-cons}
use Rattle.format.specs.Lists.{front, behind, onto}
use Rattle.format.specs.Bytes.{Bytes, pick, all, same, among}
use Rattle.format.specs.Words.{not_gap, is_gap, first_word, split}
use Rattle.format.specs.Rules.{typed_names}
use Rattle.values.proofs.Tests.{dec-lt}
use Rattle.terms.specs.Sets.{term_of, tagged}
use Rattle.terms.proofs.Tests.{or-none, tagged-append}
use Rattle.dictionary.specs.Terms.{row_terms}

-- the k-th of a list and what is behind it
module _ {A : Type 0} (l : List A) (k : ℕ) (x : A) (rest : List A) (e : drop k l ≡ x ∷ rest) where
  pub next-inside : k < length l
  next-inside = omega (arith, ap length e, length-drop k l)

  pub next-rest : drop (k + 1) l ≡ rest
  next-rest = let f : get_or l k x ∷ drop (k + 1) l ≡ x ∷ rest = ap (λ (j : ℕ). get_or l k x ∷ drop j l) (add-one k) ∙ sym (drop-cons l k x next-inside) ∙ e in cc

pub all_drop : (p : Bytes → Bool) (k : ℕ) (l : List Bytes) → all p l ≡ true → all p (drop k l) ≡ true
all_drop p zero l e = e
all_drop p (suc k) [] e = refl
all_drop p (suc k) (x ∷ l) e = all_drop p k l ((and-eq-true_iff (p x) (all p l)).0 e).1

-- words with one tag
module _ (w : Bytes) where
  and-true : (t : Bool) → t && true ≡ t
  and-true true = refl
  and-true false = refl

  and_none : (t : Bool) → t && false ≡ false
  and_none true = refl
  and_none false = refl

  pub same_tag : (k : ℕ) (ws : List Bytes) → tagged w k (map (term_of k) ws) ≡ among w ws
  same_tag k [] = refl
  same_tag k (v ∷ ws) = ap₂ ◌||◌ (ap (λ (t : Bool). same w v && t) (eq-eqb k k refl) ∙ and-true (same w v)) (same_tag k ws)

  pub other_tag : (k j : ℕ) → (k ≡ j → ⊥) → (ws : List Bytes) → tagged w k (map (term_of j) ws) ≡ false
  other_tag k j h [] = refl
  other_tag k j h (v ∷ ws) = ap₂ ◌||◌ (ap (λ (t : Bool). same w v && t) (ne_eqb k j h) ∙ and_none (same w v)) (other_tag k j h ws)

  -- the tags of rows are their numbers
  row_cut : (k row : ℕ) (v : Bytes) (vs : List Bytes) → tagged w k (row_terms row (v ∷ vs)) ≡ tagged w k (map (term_of row) (typed_names v)) || tagged w k (row_terms (suc row) vs)
  row_cut k row v vs = tagged-append w k (map (term_of row) (typed_names v)) (row_terms (suc row) vs)

  pub row-above : (k row : ℕ) (vs : List Bytes) → k < row → tagged w k (row_terms row vs) ≡ false
  row-above k row [] h = refl
  row-above k row (v ∷ vs) h = row_cut k row v vs ∙ ap₂ ◌||◌ (other_tag k row (λ e. omega arith) (typed_names v)) (row-above k (suc row) vs (omega arith))

  pub row_below : (k row : ℕ) (vs : List Bytes) → row + length vs ≤ k → tagged w k (row_terms row vs) ≡ false
  row_below k row [] h = refl
  row_below k row (v ∷ vs) h = row_cut k row v vs ∙ ap₂ ◌||◌ (other_tag k row (λ e. omega arith) (typed_names v)) (row_below k (suc row) vs (omega arith))

  pub row_at : (k row : ℕ) (vs : List Bytes) → row ≤ k → k < row + length vs → tagged w k (row_terms row vs) ≡ among w (typed_names (get_or vs (k - row) []))
  row_at k row [] h g = absurd (omega arith)
  row_at k row (v ∷ vs) h g =
      row_cut k row v vs
      ∙ dec-lt row k
      (λ l.
      let e : k - row ≡ suc (k - suc row) = omega arith in
      ap₂ ◌||◌ (other_tag k row (λ q. omega arith) (typed_names v)) (row_at k (suc row) vs l (omega arith)) ∙ ap (λ (j : ℕ). among w (typed_names (get_or (v ∷ vs) j []))) (sym e))
      (λ l.
      let e : row ≡ k = omega arith in
      let z : k - row ≡ 0 = omega arith in
      ap₂ ◌||◌ (ap (λ (j : ℕ). tagged w k (map (term_of j) (typed_names v))) e ∙ same_tag k (typed_names v)) (row-above k (suc row) vs (omega arith))
      ∙ or-none (among w (typed_names v))
      ∙ ap (λ (j : ℕ). among w (typed_names (get_or (v ∷ vs) j []))) (sym z))

-- a value of n bytes has at most n + 1 names

front_length : (p : ℕ → Bool) (s : Bytes) → length (front p s) ≤ length s
front_length p [] = omega arith
front_length p (c ∷ s) = go (p c) (front_length p s)
  where
    go : (t : Bool) → length (front p s) ≤ length s → length (pick t (c ∷ front p s) []) ≤ suc (length s)
    go true h = omega arith
    go false h = omega arith

pub behind-length : (p : ℕ → Bool) (s : Bytes) → length (behind p s) ≤ length s
behind-length p [] = omega arith
behind-length p (c ∷ s) = go (p c) (behind-length p s)
  where
    go : (t : Bool) → length (behind p s) ≤ length s → length (pick t (behind p s) (c ∷ s)) ≤ suc (length s)
    go true h = omega arith
    go false h = omega arith

onto-length : (c n : ℕ) (ws : List Bytes) → length ws ≤ suc n → length (onto c ws) ≤ suc n
onto-length c n [] h = omega arith
onto-length c n (w ∷ ws) h = h

split-length : (s : Bytes) → length (split 44 s) ≤ suc (length s)
split-length [] = omega arith
split-length (c ∷ s) = go (eqb c 44) (split-length s)
  where
    go : (t : Bool) → length (split 44 s) ≤ suc (length s) → length (pick t ([] ∷ split 44 s) (onto c (split 44 s))) ≤ suc (suc (length s))
    go true h = omega arith
    go false h = omega (arith, onto-length c (length s) (split 44 s) h)

pub names-few : (v : Bytes) → length (typed_names v) ≤ suc (length v)
names-few v = omega (arith, split-length (first_word v), front_length not_gap (behind is_gap v), behind-length is_gap v)
