-- The names that rules list, what is asked of each, and how often each occurs, field by field.
use Prim.Native.Nat.{ℕ, ◌+◌}
use native.Mathlib.Omega.{arith}
use mathlib.Core.Path.{◌≡◌, refl, sym, ap, ◌∙◌}
use mathlib.Core.Bool.{Bool, true, false, ◌&&◌, not, or-false, and-eq-true_iff, false≢true}
use mathlib.Core.List.{List, [], ◌∷◌, ◌++◌, map}
use lib.Dec.{leb, eqb}
use lib.ListN.{length}
use borrow.Author.Tests.{eqb-true, eqb-false, eq-eqb, ne_eqb}
use Rattle.format.specs.Lists.{flat}
use Rattle.format.specs.Bytes.{Bytes, text, pick, all, same}
use Rattle.format.specs.Lines.{is_name, is_special}
use Rattle.format.specs.Words.{words}
use Rattle.format.specs.Records.{Field, Record}
use Rattle.format.specs.Sets.{values_of}
use Rattle.format.specs.Rules.{listed, auto, several, is_ordinary, is_shaped, is_well_formed}
use Rattle.format.specs.Numbers.{Bounds}
use Rattle.format.specs.Questions.{occurrences}
use Rattle.format.proofs.Elements.{all_both}
use Rattle.format.proofs.Lines.{all_append}

-- byte strings that are the same
pub same_true : (s t : Bytes) → same s t ≡ true → s ≡ t
same_true [] [] e = refl
same_true [] (y ∷ t) e = absurd (false≢true e)
same_true (x ∷ s) [] e = absurd (false≢true e)
same_true (x ∷ s) (y ∷ t) e =
    let h = (and-eq-true_iff (eqb x y) (same s t)).0 e in
    (λ i. eqb-true x y h.0 i ∷ same_true s t h.1 i)

eqb_swap : (x y : ℕ) → eqb x y ≡ eqb y x
eqb_swap x y = go (eqb y x) refl
  where
    go : (b : Bool) → eqb y x ≡ b → eqb x y ≡ b
    go true e = eq-eqb x y (sym (eqb-true y x e))
    go false e = ne_eqb x y (λ p. eqb-false y x e (sym p))

pub same-swap : (s t : Bytes) → same s t ≡ same t s
same-swap [] [] = refl
same-swap [] (y ∷ t) = refl
same-swap (x ∷ s) [] = refl
same-swap (x ∷ s) (y ∷ t) = (λ i. eqb_swap x y i && same-swap s t i)

-- one more field in front: the words that it lists, and its occurrence
listed_by_lem : (b : Bool) (v : Bytes) (vs : List Bytes) → flat (map words (pick b (v ∷ vs) vs)) ≡ pick b (words v) [] ++ flat (map words vs)
listed_by_lem true v vs = refl
listed_by_lem false v vs = refl

pub listed_cons : (n : Bytes) (f : Field) (r : Record) → listed n (f ∷ r) ≡ pick (same n f.name) (words f.value) [] ++ listed n r
listed_cons n f r = listed_by_lem (same n f.name) f.value (values_of n r)

occurs-by : (b : Bool) (v : Bytes) (vs : List Bytes) → length (pick b (v ∷ vs) vs) ≡ pick b 1 0 + length vs
occurs-by true v vs = omega arith
occurs-by false v vs = omega arith

pub occurrences-cons : (n : Bytes) (f : Field) (r : Record) → occurrences n (f ∷ r) ≡ pick (same n f.name) 1 0 + occurrences n r
occurrences-cons n f r = occurs-by (same n f.name) f.value (values_of n r)

-- what the shape of a list's fields asks of each word, all words of the list have
pub shaped-as : (b : Bounds) (f : Field) (n : Bytes) → same n f.name ≡ true → is_shaped b f ≡ true → is_shaped b (record { name = n; value = f.value; count = f.count }) ≡ true
shaped-as b f n q s = ap (λ (x : Bytes). is_shaped b (record { name = x; value = f.value; count = f.count })) (same_true n f.name q) ∙ s

pub several-all : (p : Bytes → Bool) (ws : List Bytes) → several p ws ≡ true → all p ws ≡ true
several-all p [] s = refl
several-all p (w ∷ ws) s = s

pub listed-all : (b : Bounds) (n : Bytes) (p : Bytes → Bool) → ((v : Bytes) (k : ℕ) → is_shaped b (record { name = n; value = v; count = k }) ≡ true → several p (words v) ≡ true) → (r : Record) → all (is_shaped b) r ≡ true → all p (listed n r) ≡ true
listed-all b n p g [] e = refl
listed-all b n p g (f ∷ r) e =
    let h = (and-eq-true_iff (is_shaped b f) (all (is_shaped b) r)).0 e in
    ap (all p) (listed_cons n f r)
    ∙ all_append p (pick (same n f.name) (words f.value) []) (listed n r)
    ∙ (λ i. here (same n f.name) refl h.0 i && listed-all b n p g r h.1 i)
  where
    here : (t : Bool) → same n f.name ≡ t → is_shaped b f ≡ true → all p (pick t (words f.value) []) ≡ true
    here true q s = several-all p (words f.value) (g f.value f.count (shaped-as b f n q s))
    here false q s = refl

module _ (b : Bounds) (r : Record) (well : is_well_formed b r ≡ true) where
  pub well-shaped : all (is_shaped b) r ≡ true
  well-shaped =
      let k : Bool = leb (length (values_of (text "%key") r)) 1 in
      ((and-eq-true_iff (all (is_shaped b) r) k).0 ((and-eq-true_iff (all (is_shaped b) r && k) (leb (length (values_of (text "%size") r)) 1)).0 well).0).0

  -- no name of an `%auto` list begins with `%`
  pub auto-ordinary : all is_ordinary (auto r) ≡ true
  auto-ordinary = listed-all b (text "%auto") is_ordinary (λ v k e. sym (or-false (several is_ordinary (words v))) ∙ e) r well-shaped

  pub auto-names : all is_name (auto r) ≡ true
  auto-names =
      let ordinary : Bytes → Bool = λ (n : Bytes). not (is_special n) in
      ((and-eq-true_iff (all is_name (auto r)) (all ordinary (auto r))).0 (sym (all_both is_name ordinary (auto r)) ∙ auto-ordinary)).0
