-- A word that is a name ends at the first byte of no word, so it is the text at its place.
use Prim.Native.Nat.{ℕ, ◌≤◌, ◌<◌}
use native.Mathlib.Omega.{arith}
use mathlib.Core.Path.{◌≡◌, refl, sym, ap, ◌∙◌, subst}
use mathlib.Core.Bool.{Bool, true, false, ◌||◌, not, and-eq-true_iff, false≢true}
use mathlib.Core.List.{[], ◌∷◌}
use borrow.Author.Tests.{eqb-true, eqb-false, ltb-true, lt-leb, lt-ltb, ne_eqb}
use lib.Dec.{ltb, eqb}
use lib.ListN.{drop}
use Rattle.format.specs.Lists.{front}
use Rattle.format.specs.Bytes.{Bytes, is_letter, all}
use Rattle.format.specs.Lines.{is_first, is_later, is_name}
use Rattle.format.specs.Words.{is_gap, not_gap, is_type_name}
use Rattle.values.specs.Value.{value_from}
use Rattle.values.specs.Stretches.{is_word_byte}
use Rattle.sorting.specs.Texts.{text_at}
use Rattle.values.proofs.Tests.{by_bool, dec-lt}
use Rattle.sorting.proofs.Texts.{front-narrow}

-- bytes of words
low-later : (c : ℕ) → c ≤ 44 → is_later c ≡ false
low-later c h = rw (lt-leb 65 c (omega arith), lt-leb 97 c (omega arith), lt-leb 48 c (omega arith), ne_eqb c 95 (λ e. omega arith))

pub high_word : (c : ℕ) → 44 < c → is_word_byte c ≡ true
high_word c h = ap (λ (t : Bool). t || eqb c 37) (lt-ltb 44 c h)

later-word : (c : ℕ) → is_later c ≡ true → is_word_byte c ≡ true
later-word c e = dec-lt 44 c (high_word c) (λ h. absurd (false≢true (sym (low-later c h) ∙ e)))

low_first : (c : ℕ) → c ≤ 44 → (c ≡ 37 → ⊥) → is_first c ≡ false
low_first c h n = rw (lt-leb 65 c (omega arith), lt-leb 97 c (omega arith), ne_eqb c 37 n)

first_word : (c : ℕ) → is_first c ≡ true → is_word_byte c ≡ true
first_word c e =
    dec-lt 44 c (high_word c)
    (λ h. by_bool (eqb c 37) (λ q. subst (λ (b : ℕ). is_word_byte b ≡ true) (sym (eqb-true c 37 q)) refl) (λ q. absurd (false≢true (sym (low_first c h (eqb-false c 37 q)) ∙ e))))

laters-word : (w : Bytes) → all is_later w ≡ true → all is_word_byte w ≡ true
laters-word [] e = refl
laters-word (c ∷ w) e =
    let h = (and-eq-true_iff (is_later c) (all is_later w)).0 e in
    (and-eq-true_iff (is_word_byte c) (all is_word_byte w)).1 (later-word c h.0, laters-word w h.1)

pub name-word : (w : Bytes) → is_name w ≡ true → all is_word_byte w ≡ true
name-word [] e = absurd (false≢true e)
name-word (c ∷ w) e =
    let h = (and-eq-true_iff (is_first c) (all is_later w)).0 e in
    (and-eq-true_iff (is_word_byte c) (all is_word_byte w)).1 (first_word c h.0, laters-word w h.1)

word-no-gap : (c : ℕ) → is_word_byte c ≡ true → is_gap c ≡ false
word-no-gap c e =
    dec-lt 44 c (λ h. rw (ne_eqb c 32 (λ q. omega arith), ne_eqb c 9 (λ q. omega arith), ne_eqb c 10 (λ q. omega arith)))
    (λ h. by_bool (eqb c 37) (λ q. ap is_gap (eqb-true c 37 q)) (λ q. absurd (false≢true (sym (low c h q) ∙ e))))
  where
    low : (c : ℕ) → c ≤ 44 → eqb c 37 ≡ false → is_word_byte c ≡ false
    low c h q = by_bool (ltb 44 c) (λ t. absurd (let z = ltb-true 44 c t in omega arith)) (λ t. ap (λ (b : Bool). b || eqb c 37) t ∙ q)

pub gap-no-word : (c : ℕ) → is_gap c ≡ true → is_word_byte c ≡ false
gap-no-word c e = by_bool (is_word_byte c) (λ q. absurd (false≢true (sym (word-no-gap c q) ∙ e))) (λ q. q)

not-gap : (c : ℕ) → not_gap c ≡ false → is_word_byte c ≡ false
not-gap c e = gap-no-word c (flip (is_gap c) e)
  where
    flip : (t : Bool) → not t ≡ false → t ≡ true
    flip true q = refl
    flip false q = sym q

front-words : (v : Bytes) → all is_word_byte (front not_gap v) ≡ true → front is_word_byte v ≡ front not_gap v
front-words = front-narrow is_word_byte not_gap not-gap

-- so it is the text at its place
pub text-word : (d : Bytes) (i : ℕ) → is_name (front not_gap (value_from (drop i d))) ≡ true → text_at true d i ≡ front not_gap (value_from (drop i d))
unfolding text_at
text-word d i e = front-words (value_from (drop i d)) (name-word (front not_gap (value_from (drop i d))) e)

-- a type name is a name
pub type-name : (w : Bytes) → is_type_name w ≡ true → is_name w ≡ true
type-name [] e = e
type-name (c ∷ w) e =
    let h = (and-eq-true_iff (is_letter c) (all is_later w)).0 e in
    (and-eq-true_iff (is_first c) (all is_later w)).1 (ap (λ (t : Bool). t || eqb c 37) h.0, h.1)
