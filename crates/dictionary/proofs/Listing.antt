-- The terms of a descriptor's lists: those with a list's tag are the words that the rules list there, and all words are names.
use Prim.Native.Nat.{ℕ, ◌≤◌, ◌<◌}
use native.Mathlib.Omega.{arith}
use mathlib.Core.Path.{◌≡◌, refl, sym, ap, ap₂, ◌∙◌}
use mathlib.Core.Bool.{Bool, true, false, ◌||◌, and-eq-true_iff, or-false, false≢true}
use mathlib.Core.List.{List, [], ◌∷◌, ◌++◌, map}
use borrow.Author.Tests.{eqb-true, eq-eqb, ne_eqb}
use lib.Dec.{eqb}
use Rattle.format.specs.Bytes.{Bytes, text, pick, all, same, among}
use Rattle.format.specs.Words.{words}
use Rattle.format.specs.Records.{Field, Record}
use Rattle.format.specs.Lines.{is_name}
use Rattle.format.specs.Numbers.{Bounds}
use Rattle.format.specs.Rules.{listed, mandatory, prohibited, allowed, unique, key, one, name_list, is_shaped}
use Rattle.format.proofs.Listing.{same_true, listed_cons, shaped-as, several-all}
use Rattle.values.proofs.Tests.{by_bool}
use Rattle.terms.specs.Sets.{term_of, tagged}
use Rattle.terms.proofs.Tests.{tagged-append}
use Rattle.dictionary.specs.Tags.{list_tag}
use Rattle.dictionary.specs.Terms.{terms_by, field_terms, list_terms, are_names}
use Rattle.dictionary.proofs.Rows.{same_tag, other_tag}

pub list-none : list_terms [] ≡ []
unfolding list_terms
list-none = refl

pub list-cons : (f : Field) (r : Record) → list_terms (f ∷ r) ≡ field_terms f ++ list_terms r
unfolding list_terms
list-cons f r = refl

-- a tag is one of six
by-pick : (P : ℕ → Type 0) (t : Bool) (x y : ℕ) → P x → P y → P (pick t x y)
by-pick P true x y p q = p
by-pick P false x y p q = q

pub tag-any : (P : ℕ → Type 0) → P 32 → P 33 → P 34 → P 35 → P 36 → P 64 → (m : Bytes) → P (list_tag m)
unfolding list_tag
tag-any P p0 p1 p2 p3 p4 p5 m =
    by-pick P (same (text "%mandatory") m) 32 _ p0
    (by-pick P (same (text "%prohibit") m) 33 _ p1
    (by-pick P (same (text "%allowed") m) 34 _ p2
    (by-pick P (same (text "%unique") m) 35 _ p3
    (by-pick P (same (text "%key") m) 36 64 p4 p5))))

pub tag-most : (m : Bytes) → list_tag m ≤ 64
tag-most m = tag-any (λ (k : ℕ). k ≤ 64) (omega arith) (omega arith) (omega arith) (omega arith) (omega arith) (omega arith) m

tag-least : (m : Bytes) → 32 ≤ list_tag m
tag-least m = tag-any (λ (k : ℕ). 32 ≤ k) (omega arith) (omega arith) (omega arith) (omega arith) (omega arith) (omega arith) m

-- the name that has a tag: it is compared in its turn, and equals none of those before
hit : (t : Bool) (k x : ℕ) → eqb x k ≡ false → t ≡ eqb (pick t k x) k
hit true k x q = sym (eq-eqb k k refl)
hit false k x q = sym q

past : (t : Bool) (j k x : ℕ) → eqb j k ≡ false → eqb x k ≡ false → eqb (pick t j x) k ≡ false
past true j k x q e = q
past false j k x q e = e

skip : (t b : Bool) (j k x : ℕ) → eqb j k ≡ false → (t ≡ true → b ≡ false) → b ≡ eqb x k → b ≡ eqb (pick t j x) k
skip true b j k x q h e = h refl ∙ sym q
skip false b j k x q h e = e

differ : (n l m : Bytes) → same l n ≡ false → same n m ≡ true → same l m ≡ false
differ n l m q e = ap (same l) (sym (same_true n m e)) ∙ q

abbrev pub Tags : Bytes → ℕ → Type 0
Tags n k = (m : Bytes) → same n m ≡ eqb (list_tag m) k

module _ (m : Bytes) where
  abbrev a : Bool
  a = same (text "%mandatory") m

  abbrev b : Bool
  b = same (text "%prohibit") m

  abbrev c : Bool
  c = same (text "%allowed") m

  abbrev d : Bool
  d = same (text "%unique") m

  abbrev e : Bool
  e = same (text "%key") m

pub tags-mandatory : Tags (text "%mandatory") 32
unfolding list_tag
tags-mandatory m = hit (a m) 32 _ (past (b m) 33 32 _ refl (past (c m) 34 32 _ refl (past (d m) 35 32 _ refl (past (e m) 36 32 64 refl refl))))

pub tags-prohibit : Tags (text "%prohibit") 33
unfolding list_tag
tags-prohibit m =
    skip (a m) (b m) 32 33 _ refl (differ (text "%mandatory") (text "%prohibit") m refl)
    (hit (b m) 33 _ (past (c m) 34 33 _ refl (past (d m) 35 33 _ refl (past (e m) 36 33 64 refl refl))))

pub tags-allowed : Tags (text "%allowed") 34
unfolding list_tag
tags-allowed m =
    skip (a m) (c m) 32 34 _ refl (differ (text "%mandatory") (text "%allowed") m refl)
    (skip (b m) (c m) 33 34 _ refl (differ (text "%prohibit") (text "%allowed") m refl)
    (hit (c m) 34 _ (past (d m) 35 34 _ refl (past (e m) 36 34 64 refl refl))))

pub tags-unique : Tags (text "%unique") 35
unfolding list_tag
tags-unique m =
    skip (a m) (d m) 32 35 _ refl (differ (text "%mandatory") (text "%unique") m refl)
    (skip (b m) (d m) 33 35 _ refl (differ (text "%prohibit") (text "%unique") m refl)
    (skip (c m) (d m) 34 35 _ refl (differ (text "%allowed") (text "%unique") m refl)
    (hit (d m) 35 _ (past (e m) 36 35 64 refl refl))))

pub tags-key : Tags (text "%key") 36
unfolding list_tag
tags-key m =
    skip (a m) (e m) 32 36 _ refl (differ (text "%mandatory") (text "%key") m refl)
    (skip (b m) (e m) 33 36 _ refl (differ (text "%prohibit") (text "%key") m refl)
    (skip (c m) (e m) 34 36 _ refl (differ (text "%allowed") (text "%key") m refl)
    (skip (d m) (e m) 35 36 _ refl (differ (text "%unique") (text "%key") m refl)
    (hit (e m) 36 64 refl))))

-- words with the tag of their field
module _ (w : Bytes) where
  by-tag : (k j : ℕ) (ws : List Bytes) → k < 64 → tagged w k (terms_by j ws) ≡ among w (pick (eqb j k) ws [])
  by-tag k j ws h = by_bool (eqb j 64) (λ q. let z = eqb-true j 64 q in rw (q, ne_eqb j k (λ x. omega arith))) (λ q. rw q (some q))
    where
      some : eqb j 64 ≡ false → tagged w k (map (term_of j) ws) ≡ among w (pick (eqb j k) ws [])
      some q = by_bool (eqb j k) (λ z. rw z (ap (λ (i : ℕ). tagged w k (map (term_of i) ws)) (eqb-true j k z) ∙ same_tag w k ws)) (λ z. rw z (other_tag w k j (λ x. false≢true (sym z ∙ eq-eqb j k (sym x))) ws))

  among-append : (xs ys : List Bytes) → among w (xs ++ ys) ≡ among w xs || among w ys
  among-append [] ys = refl
  among-append (x ∷ xs) ys = ap (λ (t : Bool). same w x || t) (among-append xs ys) ∙ assoc (same w x) (among w xs) (among w ys)
    where
      assoc : (p q r : Bool) → p || (q || r) ≡ (p || q) || r
      assoc true q r = refl
      assoc false q r = refl

  list-tagged : (n : Bytes) (k : ℕ) → k < 64 → Tags n k → (r : Record) → tagged w k (list_terms r) ≡ among w (listed n r)
  list-tagged n k h q [] = ap (tagged w k) list-none
  list-tagged n k h q (f ∷ r) =
      let j : ℕ = list_tag f.name in
      ap (tagged w k) (list-cons f r)
      ∙ tagged-append w k (field_terms f) (list_terms r)
      ∙ ap₂ ◌||◌ (by-tag k j (words f.value) h ∙ ap (λ (t : Bool). among w (pick t (words f.value) [])) (sym (q f.name))) (list-tagged n k h q r)
      ∙ sym (among-append (pick (same n f.name) (words f.value) []) (listed n r))
      ∙ ap (among w) (sym (listed_cons n f r))

  pub tagged-mandatory : (r : Record) → tagged w 32 (list_terms r) ≡ among w (mandatory r)
  tagged-mandatory r = list-tagged (text "%mandatory") 32 (omega arith) tags-mandatory r

  pub tagged-prohibited : (r : Record) → tagged w 33 (list_terms r) ≡ among w (prohibited r)
  tagged-prohibited r = list-tagged (text "%prohibit") 33 (omega arith) tags-prohibit r

  pub tagged-allowed : (r : Record) → tagged w 34 (list_terms r) ≡ among w (allowed r)
  tagged-allowed r = list-tagged (text "%allowed") 34 (omega arith) tags-allowed r

  pub tagged-unique : (r : Record) → tagged w 35 (list_terms r) ≡ among w (unique r)
  tagged-unique r = list-tagged (text "%unique") 35 (omega arith) tags-unique r

  pub tagged-key : (r : Record) → tagged w 36 (list_terms r) ≡ among w (key r)
  tagged-key r = list-tagged (text "%key") 36 (omega arith) tags-key r

  -- no list has the tag of a `%type` field
  none-low : (k : ℕ) → k < 32 → (f : Field) → tagged w k (field_terms f) ≡ false
  none-low k h f =
      let l = tag-least f.name in
      by-tag k (list_tag f.name) (words f.value) (omega arith) ∙ ap (λ (t : Bool). among w (pick t (words f.value) [])) (ne_eqb (list_tag f.name) k (λ x. omega arith))

  pub list-low : (k : ℕ) → k < 32 → (r : Record) → tagged w k (list_terms r) ≡ false
  list-low k h [] = ap (tagged w k) list-none
  list-low k h (f ∷ r) = ap (tagged w k) (list-cons f r) ∙ tagged-append w k (field_terms f) (list_terms r) ∙ ap₂ ◌||◌ (none-low k h f) (list-low k h r)

-- the words of lists are names, since the fields have the shapes of their names
module _ (bounds : Bounds) (f : Field) where
  names-one : (ws : List Bytes) → one is_name ws ≡ true → all is_name ws ≡ true
  names-one [] s = refl
  names-one (w ∷ []) s = (and-eq-true_iff (is_name w) true).1 (s, refl)
  names-one (w ∷ v ∷ ws) s = absurd (false≢true s)

  field-names : (n : Bytes) → same n f.name ≡ true → (is_shaped bounds (record { name = n; value = f.value; count = f.count }) ≡ true → name_list f.value ≡ true) → is_shaped bounds f ≡ true → are_names f ≡ true
  field-names n q g s = or_right (eqb (list_tag f.name) 64) (all is_name (words f.value)) (several-all is_name (words f.value) (g (shaped-as bounds f n q s)))
    where
      or_right : (x y : Bool) → y ≡ true → x || y ≡ true
      or_right true y z = refl
      or_right false y z = z

  or-true : (x y : Bool) → y ≡ true → x || y ≡ true
  or-true true y z = refl
  or-true false y z = z

  shaped-names : is_shaped bounds f ≡ true → are_names f ≡ true
  unfolding list_tag
  shaped-names s =
      by_bool (a f.name) (λ q. list (text "%mandatory") q (λ z. sym (or-false (name_list f.value)) ∙ z))
      (λ q₁. by_bool (b f.name) (λ q. list (text "%prohibit") q (λ z. sym (or-false (name_list f.value)) ∙ z))
      (λ q₂. by_bool (c f.name) (λ q. list (text "%allowed") q (λ z. sym (or-false (name_list f.value)) ∙ z))
      (λ q₃. by_bool (d f.name) (λ q. list (text "%unique") q (λ z. sym (or-false (name_list f.value)) ∙ z))
      (λ q₄. by_bool (e f.name) (λ q. or-true (eqb (list_tag f.name) 64) (all is_name (words f.value)) (names-one (words f.value) (sym (or-false (one is_name (words f.value))) ∙ shaped-as bounds f (text "%key") q s)))
      (λ q₅. rw (q₁, q₂, q₃, q₄, q₅))))))
    where
      list : (n : Bytes) → same n f.name ≡ true → (is_shaped bounds (record { name = n; value = f.value; count = f.count }) ≡ true → name_list f.value ≡ true) → are_names f ≡ true
      list n q g = field-names n q g s

pub lists-names : (bounds : Bounds) (r : Record) → all (is_shaped bounds) r ≡ true → all are_names r ≡ true
lists-names bounds [] s = refl
lists-names bounds (f ∷ r) s =
    let h = (and-eq-true_iff (is_shaped bounds f) (all (is_shaped bounds) r)).0 s in
    (and-eq-true_iff (are_names f) (all are_names r)).1 (shaped-names bounds f h.0, lists-names bounds r h.1)
