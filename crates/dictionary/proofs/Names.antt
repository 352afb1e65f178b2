-- A name between commas ends at the first byte of no word, so it is the text at its place.
use Prim.Native.Nat.{ℕ, ◌<◌}
use mathlib.Core.Path.{◌≡◌, refl, sym, ap, ◌∙◌, subst}
use mathlib.Core.Bool.{true, false, not, and-eq-true_iff, false≢true}
use mathlib.Core.List.{[], ◌∷◌}
use borrow.Author.Tests.{eqb-true}
use lib.Dec.{eqb}
use lib.ListN.{length, drop}
use Rattle.format.specs.Lists.{front}
use Rattle.format.specs.Bytes.{Bytes, all}
use Rattle.format.specs.Lines.{is_name}
use Rattle.format.specs.Words.{is_gap, not_gap}
use Rattle.values.specs.Value.{value_from}
use Rattle.values.proofs.Decoding.{nothing-at}
use Rattle.values.specs.Words.{word_from, name_of, name_from}
use Rattle.values.proofs.Parts.{parts_none, parts-comma, parts-on}
use Rattle.values.specs.Stretches.{is_word_byte}
use Rattle.sorting.specs.Texts.{text_at}
use Rattle.values.proofs.Tests.{by_bool, dec-lt}
use Rattle.sorting.proofs.Texts.{front-stop, front-on}
use Rattle.typedefs.proofs.Texts.{name-word, gap-no-word}

-- a word as far as its gap, and as far as its bytes are those of words
module _ (c : ℕ) (v : Bytes) where
  gap-front : is_gap c ≡ true → front not_gap (c ∷ v) ≡ []
  gap-front g = front-stop not_gap (c ∷ v) v c refl (ap not g)

  byte-front : is_gap c ≡ false → front not_gap (c ∷ v) ≡ c ∷ front not_gap v
  byte-front g = front-on not_gap (c ∷ v) v c refl (ap not g)

  no_word : is_word_byte c ≡ false → front is_word_byte (c ∷ v) ≡ []
  no_word g = front-stop is_word_byte (c ∷ v) v c refl g

  word_byte : is_word_byte c ≡ true → front is_word_byte (c ∷ v) ≡ c ∷ front is_word_byte v
  word_byte g = front-on is_word_byte (c ∷ v) v c refl g

-- a word's first part, as far as its bytes are those of words
abbrev part : Bytes → Bytes
part v = name_of (front not_gap v)

part-words : (v : Bytes) → all is_word_byte (part v) ≡ true → front is_word_byte v ≡ part v
part-words [] e = sym (parts_none (front not_gap []) refl).0
part-words (c ∷ v) e =
    by_bool (is_gap c) (λ g. no_word c v (gap-no-word c g) ∙ sym (parts_none (front not_gap (c ∷ v)) (gap-front c v g)).0)
    (λ g.
    let w = byte-front c v g in
    by_bool (eqb c 44)
    (λ q. no_word c v (subst (λ (b : ℕ). is_word_byte b ≡ false) (sym (eqb-true c 44 q)) refl) ∙ sym (parts-comma (front not_gap (c ∷ v)) c (front not_gap v) w q).0)
    (λ q.
    let f = (parts-on (front not_gap (c ∷ v)) c (front not_gap v) w q).0 in
    let h = (and-eq-true_iff (is_word_byte c) (all is_word_byte (part v))).0 (sym (ap (all is_word_byte) f) ∙ e) in
    word_byte c v h.0 ∙ ap {B = Bytes} (λ x. c ∷ x) (part-words v h.1) ∙ sym f))

-- so it is the text at its place
module _ (d : Bytes) (i : ℕ) where
  pub text-name : is_name (name_from d i) ≡ true → text_at true d i ≡ name_from d i
  unfolding text_at
  text-name e = part-words (value_from (drop i d)) (name-word (name_from d i) e)

  -- it stands inside
  pub name-there : is_name (name_from d i) ≡ true → i < length d
  name-there e =
      dec-lt i (length d) (λ h. h)
      (λ h. absurd (false≢true (sym (ap is_name (parts_none (word_from d i) (ap (front not_gap) (nothing-at d i h))).0) ∙ e)))
