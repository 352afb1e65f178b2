-- The names of typedefs with their numbers: what a set of tags says of a name.
use Prim.Native.Nat.{ℕ, zero, suc, ◌+◌, ◌-◌, ◌≤◌, ◌<◌}
use native.Mathlib.Numerals.{add-one}
use native.Mathlib.Omega.{arith}
use mathlib.Core.Path.{◌≡◌, refl, sym, ap, ◌∙◌}
use mathlib.Core.Bool.{Bool, true, false, ◌&&◌, ◌||◌, and-false}
use mathlib.Core.List.{List, [], ◌∷◌}
use borrow.Author.Tests.{eq-eqb, ne_eqb}
use lib.ListN.{length, take, drop, length-drop}
use Rattle.format.specs.Bytes.{Bytes, text, pick, same}
use Rattle.terms.specs.Sets.{Term, term_of, in_set, tagged, Answers}
use Rattle.terms.specs.Entries.{terms_of}
use Rattle.records.specs.Named.{values_from}
use Rattle.typedefs.specs.Walks.{names_from}
use Rattle.typedefs.specs.Names.{numbered, tag_from, AreNames}
use Rattle.typedefs.specs.Targets.{index_from}
use Rattle.typedefs.specs.declared.Target.{Target}
use Rattle.typedefs.specs.declared.Names.{Names}
use Rattle.typedefs.proofs.Good.{words-length}

-- the first tag, one after another
module _ (x k count : ℕ) where
  pub tag-none : count ≤ k → tag_from x k (count - k) ≡ Target.Missing
  unfolding tag_from
  tag-none h = let z : count - k ≡ 0 = omega arith in ap (tag_from x k) z

  tag-cut : k < count → tag_from x k (count - k) ≡ pick (in_set k x) (Target.Alias k) (tag_from x (k + 1) (count - (k + 1)))
  unfolding tag_from
  tag-cut h =
      let z : count - k ≡ suc (count - (k + 1)) = omega arith in
      ap (tag_from x k) z ∙ ap (λ (j : ℕ). pick (in_set k x) (Target.Alias k) (tag_from x j (count - (k + 1)))) (sym (add-one k))

  pub tag-here : k < count → in_set k x ≡ true → tag_from x k (count - k) ≡ Target.Alias k
  tag-here h e = tag-cut h ∙ ap (λ (t : Bool). pick t (Target.Alias k) (tag_from x (k + 1) (count - (k + 1)))) e

  pub tag-later : k < count → in_set k x ≡ false → tag_from x k (count - k) ≡ tag_from x (k + 1) (count - (k + 1))
  tag-later h e = tag-cut h ∙ ap (λ (t : Bool). pick t (Target.Alias k) (tag_from x (k + 1) (count - (k + 1)))) e

-- the tags of one name
module _ (w : Bytes) where
  other : (j k : ℕ) (n : Bytes) (ts : List Term) → (j ≡ k → ⊥) → tagged w j (term_of k n ∷ ts) ≡ tagged w j ts
  other j k n ts h = ap (λ (t : Bool). (same w n && t) || tagged w j ts) (ne_eqb j k h) ∙ ap (λ (t : Bool). t || tagged w j ts) (and-false (same w n))

  below : (j k : ℕ) (ns : List Bytes) → j < k → tagged w j (numbered k ns) ≡ false
  below j k [] h = refl
  below j k (n ∷ ns) h = other j k n (numbered (suc k) ns) (λ e. omega arith) ∙ below j (suc k) ns (omega arith)

  own : (k : ℕ) (n : Bytes) (ns : List Bytes) → tagged w k (numbered k (n ∷ ns)) ≡ same w n
  own k n ns =
      ap (λ (t : Bool). (same w n && t) || tagged w k (numbered (suc k) ns)) (eq-eqb k k refl)
      ∙ ap (λ (t : Bool). (same w n && true) || t) (below k (suc k) ns (omega arith)) ∙ alone (same w n)
    where
      alone : (t : Bool) → ((t && true) || false) ≡ t
      alone true = refl
      alone false = refl

  behind : (j i k m : ℕ) (ns : List Bytes) → m ≡ k + i → m ≤ j → tagged w j (numbered k ns) ≡ tagged w j (numbered m (drop i ns))
  behind j zero k m ns q h = let z : k ≡ m = omega arith in ap (λ (a : ℕ). tagged w j (numbered a ns)) z
  behind j (suc i) k m [] q h = refl
  behind j (suc i) k m (n ∷ ns) q h = other j k n (numbered (suc k) ns) (λ e. omega arith) ∙ behind j i (suc k) m ns (omega arith) h

  -- the first of its tags is the number of the first of its name
  tags-index : (x k : ℕ) (ns : List Bytes) → ((j : ℕ) → k ≤ j → in_set j x ≡ tagged w j (numbered k ns)) → tag_from x k (length ns) ≡ index_from k w ns
  unfolding tag_from index_from
  tags-index x k [] h = refl
  tags-index x k (n ∷ ns) h =
      let later = tags-index x (suc k) ns (λ j l. h j (omega arith) ∙ other j k n (numbered (suc k) ns) (λ e. omega arith)) in
      ap (λ (t : Bool). pick t (Target.Alias k) (tag_from x (suc k) (length ns))) (h k (omega arith) ∙ own k n ns)
      ∙ ap (pick (same w n) (Target.Alias k)) (later ∙ ap (λ (i : ℕ). index_from i w ns) (sym (add-one k)))

-- what a search in the table answers
pub found-index : (d : Bytes) (r : Names) → AreNames d r → (w : Bytes) (x : ℕ) → Answers w (terms_of d (take r.table.count r.entries)) x
    → (from : ℕ) → from ≤ r.count → tag_from x from (r.count - from) ≡ index_from from w (drop from (names_from d 0))
found-index d r h w x a from l =
    let ns : List Bytes = names_from d 0 in
    let z : r.count - from ≡ length (drop from ns) = omega (arith, length-drop from ns, words-length (values_from d (text "%typedef") 0), h.values.count) in
    ap (tag_from x from) z
    ∙ tags-index w x from (drop from ns) (λ j g. a j ∙ h.terms w j ∙ behind w j from 0 from ns (omega arith) g)
