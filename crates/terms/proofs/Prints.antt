-- A fingerprint is below 1024, so an entry can be taken apart; entries of a part of a list, and one stored.
use Prim.Native.Nat.{ℕ, ◌+◌, ◌*◌, ◌/◌, ◌%◌, ◌<◌, ◌≤◌}
use native.Mathlib.Numerals.{add-one}
use native.Mathlib.Omega.{arith}
use mathlib.Core.Path.{◌≡◌, sym, ap, ◌∙◌, subst}
use mathlib.Core.Bool.{true}
use mathlib.Core.List.{List, [], ◌∷◌, ◌++◌, map-append}
use borrow.Author.Tests.{eqb-true, eqb-false}
use borrow.Author.Count.{below_more}
use lib.Dec.{eqb}
use lib.ListN.{length, get_or, set, take}
use lib.Seq.{get_or-set_same, get_or-set_other, get_or-take, length-take-le, take-suc-set}
use Rattle.format.specs.Bytes.{Bytes}
use Rattle.sorting.specs.Texts.{text_at}
use Rattle.values.proofs.Tests.{by_bool}
use Rattle.terms.specs.Sets.{term_of}
use Rattle.terms.specs.Entries.{print_of, entry_of, word_at, term_at, terms_of, IsEntry, Entries}

-- the entry of the word at a place
module _ (s : Bytes) (at tag : ℕ) (low : at < 65536) (fits : tag < 64) where
  place_of : (p : ℕ) → (at + 65536 * tag + 4194304 * p) % 65536 ≡ at
  place_of p = omega arith

  tag_of : (p : ℕ) → (at + 65536 * tag + 4194304 * p) / 65536 % 64 ≡ tag
  tag_of p = omega arith

  print-of : (p : ℕ) → (at + 65536 * tag + 4194304 * p) / 4194304 ≡ p
  print-of p = omega arith

  entry-word : word_at s (entry_of at tag (text_at true s at)) ≡ text_at true s at
  entry-word = ap (text_at true s) (place_of (print_of (text_at true s at)))

  pub entry-is : IsEntry s (entry_of at tag (text_at true s at))
  entry-is = print-of (print_of (text_at true s at)) ∙ ap print_of (sym entry-word)

  pub entry-term : term_at s (entry_of at tag (text_at true s at)) ≡ term_of tag (text_at true s at)
  entry-term = (λ i. term_of (tag_of (print_of (text_at true s at)) i) (entry-word i))

-- entries up to a place, and one stored
pub entries-front : (s : Bytes) (l : List ℕ) (n : ℕ) → n ≤ length l → Entries s n l → Entries s (length (take n l)) (take n l)
entries-front s l n h e = rw (length-take-le n l h) (λ i g. rw get_or-take (e i g))

pub entries-set : (s : Bytes) (l : List ℕ) (n i e : ℕ) → i < length l → Entries s n l → IsEntry s e → Entries s n (set l i e)
entries-set s l n i e h k g q b =
    by_bool (eqb q i) (λ t. subst (λ (p : ℕ). IsEntry s (get_or (set l i e) p 0)) (sym (eqb-true q i t)) (subst (IsEntry s) (sym (get_or-set_same l i e 0 h)) g))
    (λ t. subst (IsEntry s) (sym (get_or-set_other l i q e 0 (eqb-false q i t))) (k q b))

-- one more behind the first n
module _ (s : Bytes) (l : List ℕ) (n e : ℕ) (room : n < length l) where
  pub entries-more : Entries s n l → IsEntry s e → Entries s (n + 1) (set l n e)
  entries-more h k =
      below_more (λ (i : ℕ). IsEntry s (get_or (set l n e) i 0)) n (λ i g. subst (IsEntry s) (sym (get_or-set_other l n i e 0 (omega arith))) (h i g))
      (subst (IsEntry s) (sym (get_or-set_same l n e 0 room)) k)

  pub terms-more : terms_of s (take (n + 1) (set l n e)) ≡ terms_of s (take n l) ++ (term_at s e ∷ [])
  terms-more = ap (λ (k : ℕ). terms_of s (take k (set l n e))) (add-one n) ∙ ap (terms_of s) (take-suc-set l n e room) ∙ map-append (term_at s) (take n l) (e ∷ [])
