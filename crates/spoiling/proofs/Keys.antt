-- A descriptor that question 6 lets pass names at most one key.
use Prim.Native.Nat.{◌≤◌}
use native.Mathlib.Omega.{arith}
use mathlib.Core.Path.{◌≡◌, refl, sym, ap, ◌∙◌}
use mathlib.Core.Bool.{Bool, true, false, ◌&&◌, and-eq-true_iff, or-false, false≢true}
use mathlib.Core.List.{List, [], ◌∷◌, ◌++◌}
use lib.Dec.{leb}
use lib.ListN.{length, length-append}
use borrow.Author.Tests.{leb-true}
use Rattle.format.specs.Bytes.{Bytes, text, pick, all, same}
use Rattle.format.specs.Lines.{is_name}
use Rattle.format.specs.Words.{words}
use Rattle.format.specs.Records.{Record}
use Rattle.format.specs.Sets.{values_of}
use Rattle.format.specs.Numbers.{Bounds}
use Rattle.format.specs.Rules.{listed, key, one, is_shaped, is_well_formed}
use Rattle.format.proofs.Listing.{listed_cons, shaped-as, well-shaped}

one_word : (p : Bytes → Bool) (ws : List Bytes) → one p ws ≡ true → length ws ≡ 1
one_word p [] e = absurd (false≢true e)
one_word p (w ∷ []) e = refl
one_word p (w ∷ v ∷ ws) e = absurd (false≢true e)

key-words : (t : Bool) (v : Bytes) (vs ws : List Bytes) → (t ≡ true → length (words v) ≡ 1) → length ws ≡ length vs → length (pick t (words v) [] ++ ws) ≡ length (pick t (v ∷ vs) vs)
key-words true v vs ws h e = omega (arith, length-append (words v) ws, h refl)
key-words false v vs ws h e = e

key-count : (b : Bounds) (r : Record) → all (is_shaped b) r ≡ true → length (key r) ≡ length (values_of (text "%key") r)
key-count b [] e = refl
key-count b (f ∷ r) e =
    let n : Bytes = text "%key" in
    let h = (and-eq-true_iff (is_shaped b f) (all (is_shaped b) r)).0 e in
    ap length (listed_cons n f r)
    ∙ key-words (same n f.name) f.value (values_of n r) (listed n r)
    (λ q. one_word is_name (words f.value) (sym (or-false (one is_name (words f.value))) ∙ shaped-as b f n q h.0))
    (key-count b r h.1)

pub one-key-name : (b : Bounds) (r : Record) → is_well_formed b r ≡ true → length (key r) ≤ 1
one-key-name b r well =
    let k : Bool = leb (length (values_of (text "%key") r)) 1 in
    let few = ((and-eq-true_iff (all (is_shaped b) r) k).0 ((and-eq-true_iff (all (is_shaped b) r && k) (leb (length (values_of (text "%size") r)) 1)).0 well).0).1 in
    omega (arith, key-count b r (well-shaped b r well), leb-true (length (values_of (text "%key") r)) 1 few)
