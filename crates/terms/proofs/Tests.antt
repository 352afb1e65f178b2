-- Is some term a word with a tag: of the first terms and of the others, at a hit, at a miss.
use Prim.Native.Nat.{ℕ, suc, ◌+◌, ◌<◌, suc-le-suc}
use native.Mathlib.Nat.{zero-lt-suc}
use mathlib.Core.Path.{◌≡◌, refl, sym, ap, ap₂, ◌∙◌}
use mathlib.Core.Bool.{Bool, true, false, ◌&&◌, ◌||◌, false≢true}
use mathlib.Core.List.{List, [], ◌∷◌, ◌++◌, map-append}
use lib.Dec.{eqb}
use lib.ListN.{length, get_or, take, drop, take-append-drop}
use Rattle.format.specs.Bytes.{Bytes, any, same}
use Rattle.lines.proofs.Cuts.{at-cons}
use Rattle.values.proofs.Tests.{same_self, same-apart}
use Rattle.terms.specs.Sets.{Term, says, tagged}
use Rattle.terms.specs.Entries.{word_at, term_at, terms_of}

pub or_assoc : (a b c : Bool) → (a || b) || c ≡ a || (b || c)
or_assoc true b c = refl
or_assoc false b c = refl

pub or-none : (a : Bool) → a || false ≡ a
or-none true = refl
or-none false = refl

pub same_false : (a b : Bytes) → same a b ≡ false → a ≡ b → ⊥
same_false a b e q = false≢true (sym e ∙ ap (same a) (sym q) ∙ same_self a)

module _ (w : Bytes) (k : ℕ) where
  pub tagged-append : (a b : List Term) → tagged w k (a ++ b) ≡ tagged w k a || tagged w k b
  tagged-append [] b = refl
  tagged-append (x ∷ a) b = ap (λ (t : Bool). says w k x || t) (tagged-append a b) ∙ sym (or_assoc (says w k x) (tagged w k a) (tagged w k b))

  pub says-hit : (t : Term) → t.word ≡ w → says w k t ≡ eqb k t.tag
  says-hit t e = ap (λ (v : Bytes). same w v && eqb k t.tag) e ∙ ap (λ (b : Bool). b && eqb k t.tag) (same_self w)

  pub says-miss : (t : Term) → (w ≡ t.word → ⊥) → says w k t ≡ false
  says-miss t n = ap (λ (b : Bool). b && eqb k t.tag) (same-apart w t.word n)

  module _ (s : Bytes) where
    -- some entry says so
    abbrev pub some : List ℕ → Bool
    some l = tagged w k (terms_of s l)

    pub some-any : (l : List ℕ) → some l ≡ any (λ (e : ℕ). says w k (term_at s e)) l
    some-any [] = refl
    some-any (x ∷ l) = ap (λ (t : Bool). says w k (term_at s x) || t) (some-any l)

    pub some-append : (a b : List ℕ) → some (a ++ b) ≡ some a || some b
    some-append a b = ap (tagged w k) (map-append (term_at s) a b) ∙ tagged-append (terms_of s a) (terms_of s b)

    pub some-cut : (l : List ℕ) (i : ℕ) → some l ≡ some (take i l) || some (drop i l)
    some-cut l i = ap some (sym (take-append-drop i l)) ∙ some-append (take i l) (drop i l)

    pub some_at : (l : List ℕ) (i : ℕ) → i < length l → some (drop i l) ≡ says w k (term_at s (get_or l i 0)) || some (drop (i + 1) l)
    some_at l i h = ap some (at-cons l i h)

    -- none has the word
    pub some-none : (l : List ℕ) → ((q : ℕ) → q < length l → w ≡ word_at s (get_or l q 0) → ⊥) → some l ≡ false
    some-none [] f = refl
    some-none (x ∷ l) f = ap₂ ◌||◌ (says-miss (term_at s x) (f 0 (zero-lt-suc (length l)))) (some-none l (λ q h. f (suc q) (suc-le-suc h)))
