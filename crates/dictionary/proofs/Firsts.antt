-- The places at which words stand for the first time, found entry by entry.
use Prim.Native.Nat.{ℕ, zero, suc, ◌+◌, ◌%◌, ◌≤◌, ◌<◌}
use native.Mathlib.Omega.{arith}
use mathlib.Core.Path.{◌≡◌, refl, sym, ap, ap₂, ◌∙◌, subst}
use mathlib.Core.Bool.{Bool, true, false, ◌&&◌, ◌||◌, false≢true}
use mathlib.Core.List.{List, [], ◌∷◌, append-nil, map}
use borrow.Author.Tests.{eq-eqb, ne_eqb, lt-ltb, le-ltb}
use lib.Dec.{eqb, ltb}
use lib.ListN.{length, get_or, take}
use Rattle.format.specs.Bytes.{Bytes, pick, same}
use Rattle.sorting.specs.Texts.{text_at}
use Rattle.sorting.specs.Order.{compared_of}
use Rattle.std.specs.declared.cmp.Ordering.{Ordering}
use Rattle.std.specs.Ordering.{is_eq}
use Rattle.values.proofs.Tests.{dec-lt, same_self, same-apart}
use Rattle.sorting.proofs.Order.{equal-same, before-apart, behind-before}
use Rattle.words.specs.RuleNames.{place_in}
use Rattle.terms.specs.Sets.{Term, in_set}
use Rattle.terms.specs.Entries.{word_at, terms_of}
use Rattle.terms.specs.Adding.{Adding}
use Rattle.terms.proofs.Sets.{in-none}
use Rattle.dictionary.specs.Numbered.{numbered, is_first, Firsts}
use Rattle.dictionary.proofs.FirstPlaces.{first-place}

-- a word that stands at a place has its first place not behind it
place-most : (w : Bytes) (ws : List Bytes) (j : ℕ) → j < length ws → same w (get_or ws j []) ≡ true → place_in w ws ≤ j
place-most w [] j h e = absurd (omega arith)
place-most w (v ∷ vs) zero h e = go (same w v) e
  where
    go : (t : Bool) → t ≡ true → pick t 0 (suc (place_in w vs)) ≤ 0
    go true q = omega arith
    go false q = absurd (false≢true q)
place-most w (v ∷ vs) (suc j) h e = go (same w v) (place-most w vs j (omega (arith, h)) e)
  where
    go : (t : Bool) → place_in w vs ≤ j → pick t 0 (suc (place_in w vs)) ≤ suc j
    go true q = omega arith
    go false q = omega (arith, q)

-- the words of entries
pub words_long : (d : Bytes) (l : List ℕ) → length (map (word_at d) l) ≡ length l
words_long d [] = refl
words_long d (x ∷ l) = ap suc (words_long d l)

word-there : (d : Bytes) (l : List ℕ) (k : ℕ) → k < length l → get_or (map (word_at d) l) k [] ≡ word_at d (get_or l k 0)
word-there d [] k h = absurd (omega arith)
word-there d (x ∷ l) zero h = refl
word-there d (x ∷ l) (suc k) h = word-there d l k (omega (arith, h))

module _ (d : Bytes) (l : List ℕ) (k : ℕ) (h : k < length l) where
  abbrev ws : List Bytes
  ws = map (word_at d) l

  abbrev likeness : ℕ → Bool
  likeness j = same (word_at d (get_or l k 0)) (word_at d (get_or l j 0))

  alike : (j : ℕ) → j < length l → same (get_or ws k []) (get_or ws j []) ≡ likeness j
  alike j g = ap₂ same (word-there d l k h) (word-there d l j g)

  pub first-none : ((j : ℕ) → j < k → likeness j ≡ false) → true ≡ is_first k ws
  first-none f =
      sym (eq-eqb (place_in (get_or ws k []) ws) k
      (sym (first-place (get_or ws k []) ws k (omega (arith, h, words_long d l)) (λ g. same_self (get_or ws k [])) (λ j g. alike j (omega (arith, g, h)) ∙ f j g))))

  pub first-not : (j : ℕ) → j < k → likeness j ≡ true → false ≡ is_first k ws
  first-not j g e =
      let m = place-most (get_or ws k []) ws j (omega (arith, g, h, words_long d l)) (alike j (omega (arith, g, h)) ∙ e) in
      sym (ne_eqb (place_in (get_or ws k []) ws) k (λ z. omega (arith, m, z, g)))

-- two entries compared by their words
module _ (d : Bytes) (x y i j : ℕ) (e : i ≡ x % 65536) (f : j ≡ y % 65536) (c : Ordering) (q : c ≡ compared_of (text_at true d i) (text_at true d j)) where
  abbrev a : Bytes
  a = word_at d x

  abbrev b : Bytes
  b = word_at d y

  told : (r : Ordering) → c ≡ r → compared_of a b ≡ r
  told r g = sym (ap₂ (λ (m n : ℕ). compared_of (text_at true d m) (text_at true d n)) e f) ∙ sym q ∙ g

  same-equal : c ≡ Ordering.Equal → true ≡ same a b
  same-equal g = sym (ap (same a) (sym (equal-same a b (told Ordering.Equal g))) ∙ same_self a)

  same-before : c ≡ Ordering.Less → false ≡ same a b
  same-before g = sym (same-apart a b (before-apart a b (told Ordering.Less g)))

  same-behind : c ≡ Ordering.Greater → false ≡ same a b
  same-behind g = sym (same-apart a b (λ z. before-apart b a (behind-before a b (told Ordering.Greater g)) (sym z)))

  pub same_by : is_eq c ≡ same a b
  same_by = go c refl
    where
      go : (r : Ordering) → c ≡ r → is_eq r ≡ same a b
      go Ordering.Equal g = same-equal g
      go Ordering.Less g = same-before g
      go Ordering.Greater g = same-behind g

-- places asked one by one
pub firsts-start : (p : ℕ → Bool) (j : ℕ) → in_set j 0 ≡ (ltb j 0 && p j)
firsts-start p j = in-none j ∙ sym (ap (λ (t : Bool). t && p j) (le-ltb j 0 (omega arith)))

pub firsts-on : (p : ℕ → Bool) (k x r : ℕ) (more : Bool) → ((j : ℕ) → in_set j x ≡ (ltb j k && p j)) → more ≡ p k → ((j : ℕ) → in_set j r ≡ (in_set j x || (more && eqb j k))) → (j : ℕ) → in_set j r ≡ (ltb j (k + 1) && p j)
firsts-on p k x r more f e g j =
    g j ∙ ap (λ (t : Bool). t || (more && eqb j k)) (f j)
    ∙ dec-lt j k
    (λ h. ap₂ (λ (a b : Bool). (a && p j) || (more && b)) (lt-ltb j k h) (ne_eqb j k (λ z. omega (arith, h, z))) ∙ last (p j) more ∙ sym (ap (λ (t : Bool). t && p j) (lt-ltb j (k + 1) (omega (arith, h)))))
    (λ h. dec-lt k j
    (λ i. ap₂ (λ (a b : Bool). (a && p j) || (more && b)) (le-ltb j k h) (ne_eqb j k (λ z. omega (arith, i, z))) ∙ none more ∙ sym (ap (λ (t : Bool). t && p j) (le-ltb j (k + 1) (omega (arith, i)))))
    (λ i.
    let q : j ≡ k = omega (arith, h, i) in
    ap₂ (λ (a b : Bool). (a && p j) || (more && b)) (le-ltb j k h) (eq-eqb j k q) ∙ one more ∙ e ∙ ap p (sym q) ∙ sym (ap (λ (t : Bool). t && p j) (lt-ltb j (k + 1) (omega (arith, i))))))
  where
    last : (a b : Bool) → (a || (b && false)) ≡ a
    last true b = refl
    last false true = refl
    last false false = refl

    none : (b : Bool) → (b && false) ≡ false
    none true = refl
    none false = refl

    one : (b : Bool) → (b && true) ≡ b
    one true = refl
    one false = refl

-- entries that stand for the numbered words of a list have its words
terms-words : (d : Bytes) (l : List ℕ) → map (λ (t : Term). t.word) (terms_of d l) ≡ map (word_at d) l
terms-words d [] = refl
terms-words d (x ∷ l) = ap {B = List Bytes} (λ v. word_at d x ∷ v) (terms-words d l)

numbered-words : (k : ℕ) (ws : List Bytes) → map (λ (t : Term). t.word) (numbered k ws) ≡ ws
numbered-words k [] = refl
numbered-words k (w ∷ ws) = ap {B = List Bytes} (λ v. w ∷ v) (numbered-words (suc k) ws)

pub added-firsts : (d : Bytes) (ws : List Bytes) (l m : List ℕ) (n x : ℕ) → Adding d l 0 (numbered 0 ws) [] m n → Firsts (map (word_at d) (take n m)) x → Firsts ws x
added-firsts d ws l m n x a f =
    subst (λ (vs : List Bytes). Firsts vs x)
    (sym (terms-words d (take n m)) ∙ ap (map (λ (t : Term). t.word)) (sym (append-nil (terms_of d (take n m))) ∙ a.terms) ∙ numbered-words 0 ws) f
