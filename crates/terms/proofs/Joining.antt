-- The tags that a word has from its entry on, by those of the next; a word that is found has those of its first entry.
use Prim.Native.Nat.{ℕ, ◌+◌, ◌^◌, ◌<◌, ◌≤◌}
use native.Mathlib.Omega.{arith}
use mathlib.Core.Path.{◌≡◌, refl, sym, ap, ap₂, ◌∙◌, subst}
use mathlib.Core.Bool.{Bool, false, ◌||◌}
use mathlib.Core.List.{List}
use lib.Bits.{bit_or}
use lib.ListN.{length, get_or, set, drop, drop_of_length-le}
use lib.Seq.{get_or-set_same, get_or-set_other}
use Rattle.format.specs.Bytes.{Bytes}
use Rattle.std.specs.declared.cmp.Ordering.{Ordering}
use Rattle.values.proofs.Tests.{dec-lt}
use Rattle.terms.specs.Sets.{in_set, Answers}
use Rattle.terms.specs.Entries.{tag_of, word_at, terms_of}
use Rattle.terms.specs.Order.{ranked, Rising, Low}
use Rattle.terms.specs.Joined.{TagsFrom, Joined}
use Rattle.terms.proofs.Tests.{or-none, some, some_at}
use Rattle.terms.proofs.Sets.{in-none, in-or}
use Rattle.terms.proofs.Order.{ranked-same, le-apart}
use Rattle.terms.proofs.Search.{tag-said, left-low, rises, none-behind}

module _ (s : Bytes) (l : List ℕ) where
  abbrev W : ℕ → Bytes
  W q = word_at s (get_or l q 0)

  -- behind the last entry there is no tag
  pub tags-end : TagsFrom s l (length l) 0
  tags-end k = in-none k ∙ ap (some (W (length l)) k s) (sym (drop_of_length-le l (let h : length l ≤ length l = omega arith in h)))

  module _ (i b : ℕ) (h : i < length l) (c : b ≡ 2 ^ tag_of (get_or l i 0)) where
    -- the next entry has the same word
    pub tags-more : W i ≡ W (i + 1) → (x : ℕ) → TagsFrom s l (i + 1) x → TagsFrom s l i (bit_or b x)
    tags-more e x f k =
        in-or k b x
        ∙ ap₂ ◌||◌ (tag-said s l (W i) i k b refl c) (f k ∙ ap (λ (w : Bytes). some w k s (drop (i + 1) l)) (sym e))
        ∙ sym (some_at (W i) k s l i h)

    tags-own : ((k : ℕ) → some (W i) k s (drop (i + 1) l) ≡ false) → TagsFrom s l i b
    tags-own none k = sym (or-none (in_set k b)) ∙ ap₂ ◌||◌ (tag-said s l (W i) i k b refl c) (sym (none k)) ∙ sym (some_at (W i) k s l i h)

    -- there is none, or it has another, and so have all behind it
    pub tags-last : i + 1 ≡ length l → TagsFrom s l i b
    tags-last e = tags-own (λ k. ap (some (W i) k s) (drop_of_length-le l (let g : length l ≤ i + 1 = omega arith in g)))

    pub tags-apart : Rising s (length l) l → i + 1 < length l → (W i ≡ W (i + 1) → ⊥) → TagsFrom s l i b
    tags-apart r g n = tags-own (λ k. none-behind s l (W i) r k (i + 1) (le-apart (W i) (W (i + 1)) (rises s l (W i) r (i + 1) g i (omega arith)) n))

  -- the sets from i on are filled
  abbrev pub JoinedFrom : List ℕ → ℕ → Type 0
  JoinedFrom sets i = (q : ℕ) → i ≤ q → q < length l → TagsFrom s l q (get_or sets q 0)

  pub joined-none : (sets : List ℕ) → JoinedFrom sets (length l)
  joined-none sets q h g = absurd (omega arith)

  pub joined-more : (sets : List ℕ) (i j x : ℕ) → i ≤ j + 1 → j < length sets → JoinedFrom sets i → TagsFrom s l j x → JoinedFrom (set sets j x) j
  joined-more sets i j x e room f t q h g =
      dec-lt j q (λ d. subst (TagsFrom s l q) (sym (get_or-set_other sets j q x 0 (λ z. omega arith))) (f q (omega arith) g))
      (λ d.
      let same : j ≡ q = omega arith in
      subst (λ (p : ℕ). TagsFrom s l p (get_or (set sets j x) p 0)) same (subst (TagsFrom s l j) (sym (get_or-set_same sets j x 0 room)) t))

  -- the first entry that is not before w has it
  pub found_first : (w : Bytes) (sets : List ℕ) (i : ℕ) → i < length l → Joined s l sets → Low s l w i → ranked (W i) w ≡ Ordering.Equal → Answers w (terms_of s l) (get_or sets i 0)
  found_first w sets i h j low e k =
      j i h k
      ∙ ap (λ (v : Bytes). some v k s (drop i l)) (ranked-same (W i) w e)
      ∙ sym (ap (λ (y : Bool). y || some w k s (drop i l)) (in-none k))
      ∙ left-low s l w i (omega arith) low k
