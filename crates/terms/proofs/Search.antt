-- The tags of a word, gathered from a place of a table on; where the table rises, halving finds that place, and a later word ends the run.
use Prim.Native.Nat.{ℕ, zero, suc, ◌+◌, ◌-◌, ◌^◌, ◌<◌, ◌≤◌}
use native.Mathlib.Omega.{arith}
use mathlib.Core.Path.{◌≡◌, sym, ap, ◌∙◌, subst}
use mathlib.Core.Bool.{Bool, false, ◌||◌}
use mathlib.Core.List.{List}
use lib.Bits.{bit_or}
use lib.ListN.{length, get_or, take, drop, drop_of_length-le, length-drop}
use lib.Seq.{get_or-take, get_or-drop, length-take-le}
use Rattle.format.specs.Bytes.{Bytes}
use Rattle.std.specs.declared.cmp.Ordering.{Ordering}
use Rattle.values.proofs.Tests.{dec-lt}
use Rattle.terms.specs.Sets.{in_set, says, Answers}
use Rattle.terms.specs.Entries.{tag_of, word_at, term_at, terms_of}
use Rattle.terms.specs.Order.{ranked, NotBehind, Rising, Low}
use Rattle.terms.proofs.Tests.{or_assoc, or-none, says-hit, says-miss, some, some-cut, some_at, some-none}
use Rattle.terms.proofs.Sets.{in-none, in-or, in-single}
use Rattle.terms.proofs.Order.{ranked-apart, ranked-same, ranked-behind, le_same, le_trans, le-lt, lt-le}

module _ (s : Bytes) (l : List ℕ) (w : Bytes) where
  abbrev W : ℕ → Bytes
  W q = word_at s (get_or l q 0)

  -- the tag of an entry whose word is w
  pub tag-said : (i k b : ℕ) → W i ≡ w → b ≡ 2 ^ tag_of (get_or l i 0) → in_set k b ≡ says w k (term_at s (get_or l i 0))
  tag-said i k b e c = ap (in_set k) c ∙ in-single (tag_of (get_or l i 0)) k ∙ sym (says-hit w k (term_at s (get_or l i 0)) e)

  -- the tags of w are those in the set x and those that entries from i on have
  abbrev pub Left : ℕ → ℕ → Type 0
  Left x i = (k : ℕ) → in_set k x || some w k s (drop i l) ≡ some w k s l

  pub left-none : (x i : ℕ) → length l ≤ i → Left x i → Answers w (terms_of s l) x
  left-none x i h f k = sym (or-none (in_set k x)) ∙ ap (λ (z : List ℕ). in_set k x || some w k s z) (sym (drop_of_length-le l h)) ∙ f k

  module _ (x i : ℕ) (h : i < length l) (f : Left x i) where
    pub left-hit : ranked (W i) w ≡ Ordering.Equal → (b : ℕ) → b ≡ 2 ^ tag_of (get_or l i 0) → Left (bit_or x b) (i + 1)
    left-hit e b c k =
        let t = term_at s (get_or l i 0) in
        let z : Bool = some w k s (drop (i + 1) l) in
        ap (λ (y : Bool). y || z) (in-or k x b ∙ ap (λ (y : Bool). in_set k x || y) (tag-said i k b (ranked-same (W i) w e) c))
        ∙ or_assoc (in_set k x) (says w k t) z
        ∙ ap (λ (y : Bool). in_set k x || y) (sym (some_at w k s l i h))
        ∙ f k

    pub left-miss : (w ≡ W i → ⊥) → Left x (i + 1)
    left-miss n k =
        let z : Bool = some w k s (drop (i + 1) l) in
        ap (λ (y : Bool). in_set k x || y) (sym (some_at w k s l i h ∙ ap (λ (y : Bool). y || z) (says-miss w k (term_at s (get_or l i 0)) n))) ∙ f k

  -- a word before w, and one behind it
  pub not-before : (i : ℕ) → ranked (W i) w ≡ Ordering.Less → w ≡ W i → ⊥
  not-before i e q = ranked-apart (W i) w e (sym q)

  pub not_behind : (i : ℕ) → ranked (W i) w ≡ Ordering.Greater → w ≡ W i → ⊥
  not_behind i e q = ranked-apart w (W i) (ranked-behind (W i) w e) q

  -- words before a place that come before w are none of its own
  pub left-low : (lo : ℕ) → lo ≤ length l → Low s l w lo → Left 0 lo
  left-low lo g h k =
      let n = length-take-le lo l g in
      let none : some w k s (take lo l) ≡ false =
      some-none w k s (take lo l) (λ q b e. not-before q (h q (omega arith)) (e ∙ ap (word_at s) (get_or-take lo l q 0 (omega arith)))) in
      ap (λ (y : Bool). y || some w k s (drop lo l)) (in-none k ∙ sym none) ∙ sym (some-cut w k s l lo)

  pub left-all : Left 0 0
  left-all = left-low 0 (omega arith) (λ q h. absurd (omega arith))

  module _ (r : Rising s (length l) l) where
    pub rises : (j : ℕ) → j < length l → (i : ℕ) → i ≤ j → NotBehind (W i) (W j)
    rises zero g i k = let e : 0 ≡ i = omega arith in subst (λ (p : ℕ). NotBehind (W p) (W 0)) e (le_same (W 0))
    rises (suc j) g i k =
        let one : suc j - 1 ≡ j = omega arith in
        let step : NotBehind (W j) (W (suc j)) = subst (λ (p : ℕ). NotBehind (W p) (W (suc j))) one (r (suc j) g (omega arith)) in
        dec-lt i (suc j) (λ d. le_trans (W i) (W j) (W (suc j)) (rises j (omega arith) i (omega arith)) step)
        (λ d. let e : suc j ≡ i = omega arith in subst (λ (p : ℕ). NotBehind (W p) (W (suc j))) e (le_same (W (suc j))))

    -- where the middle comes before w, so does all before it
    pub low_up : (mid : ℕ) → mid < length l → ranked (W mid) w ≡ Ordering.Less → Low s l w (mid + 1)
    low_up mid g e q k = le-lt (W q) (W mid) w (rises mid g q (omega arith)) e

    -- where one comes behind w, so does all behind it
    pub none-behind : (k i : ℕ) → ranked w (W i) ≡ Ordering.Less → some w k s (drop i l) ≡ false
    none-behind k i e =
        let n = length-drop i l in
        some-none w k s (drop i l)
        (λ q b z.
        ranked-apart w (W (i + q)) (lt-le w (W i) (W (i + q)) e (rises (i + q) (omega arith) i (omega arith))) (z ∙ ap (word_at s) (get_or-drop i l q 0)))

    pub left-stop : (x i : ℕ) → Left x i → ranked (W i) w ≡ Ordering.Greater → Answers w (terms_of s l) x
    left-stop x i f e k = sym (or-none (in_set k x)) ∙ ap (λ (y : Bool). in_set k x || y) (sym (none-behind k i (ranked-behind (W i) w e))) ∙ f k

-- of no entries no tag is found
pub none_found : (s w : Bytes) (l : List ℕ) (n : ℕ) → n ≡ 0 → Answers w (terms_of s (take n l)) 0
none_found s w l n e k = rw e (in-none k)

-- the first entries by themselves
pub rising-front : (s : Bytes) (l : List ℕ) (n : ℕ) → n ≤ length l → Rising s n l → Rising s (length (take n l)) (take n l)
rising-front s l n h r = rw (length-take-le n l h) (λ q g z e. r q g z (rw (get_or-take n l (q - 1) 0 (omega arith), get_or-take n l q 0 g) at e))

pub rising-back : (s : Bytes) (l : List ℕ) (n : ℕ) → n ≤ length l → Rising s (length (take n l)) (take n l) → Rising s n l
rising-back s l n h r q g z e =
    let k = length-take-le n l h in
    r q (omega arith) z (rw (get_or-take n l (q - 1) 0 (omega arith), get_or-take n l q 0 g) e)
