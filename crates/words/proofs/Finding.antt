-- The words of a text, told by the first of them: where it stands and what stands behind it.
use Rattle.std.specs.Prelude.{Option, Some, None}
use Rattle.words.specs.declared.Span.{Span}
use Prim.Native.Nat.{ℕ, zero, suc, ◌+◌, ◌≤◌, ◌<◌}
use native.Mathlib.Nat.{add-sub_cancel_left}
use native.Mathlib.Omega.{arith}
use mathlib.Core.Path.{◌≡◌, refl, sym, ap, ◌∙◌, subst}
use mathlib.Core.Bool.{Bool, true, false}
use mathlib.Core.List.{List, [], ◌∷◌}
use borrow.Author.Tests.{ltb-true, ltb-false}
use lib.Dec.{ltb}
use lib.ListN.{length, take, drop, get_or, drop_of_length-le, length-drop}
use lib.Seq.{drop-drop}
use Rattle.format.specs.Bytes.{Bytes, pick, all}
use Rattle.format.specs.Lists.{front, behind}
use Rattle.format.specs.Words.{is_gap, not_gap, first_word, after_word, words}
use Rattle.format.proofs.Parts.{words-skip, words-cut}
use Rattle.lines.specs.Line.{run}
use Rattle.lines.proofs.Cuts.{at-cons, rest}
use Rattle.lines.proofs.Heads.{run_more}
use Rattle.words.specs.Spans.{span, next_word}

-- a run is within its text
pub run-le : (p : ℕ → Bool) (s : Bytes) → run p s ≤ length s
unfolding run
run-le p [] = omega arith
run-le p (c ∷ s) = go (p c) (run-le p s)
  where
    go : (t : Bool) → run p s ≤ length s → pick t (suc (run p s)) 0 ≤ suc (length s)
    go true h = omega arith
    go false h = omega arith

-- the front that passes a test is the run, and what is behind is the rest
pub front-run : (p : ℕ → Bool) (s : Bytes) → front p s ≡ take (run p s) s
unfolding run
front-run p [] = refl
front-run p (c ∷ s) = go (p c) (front-run p s)
  where
    go : (t : Bool) → front p s ≡ take (run p s) s → pick t (c ∷ front p s) [] ≡ take (pick t (suc (run p s)) 0) (c ∷ s)
    go true e = ap (λ (l : Bytes). c ∷ l) e
    go false e = refl

pub behind-run : (p : ℕ → Bool) (s : Bytes) → behind p s ≡ drop (run p s) s
unfolding run
behind-run p [] = refl
behind-run p (c ∷ s) = go (p c) (behind-run p s)
  where
    go : (t : Bool) → behind p s ≡ drop (run p s) s → pick t (behind p s) (c ∷ s) ≡ drop (pick t (suc (run p s)) 0) (c ∷ s)
    go true e = e
    go false e = refl

-- every byte of a run passes the test
pub run-passes : (p : ℕ → Bool) (s : Bytes) → all p (take (run p s) s) ≡ true
unfolding run
run-passes p [] = refl
run-passes p (c ∷ s) = go (p c) refl (run-passes p s)
  where
    go : (t : Bool) → p c ≡ t → all p (take (run p s) s) ≡ true → all p (take (pick t (suc (run p s)) 0) (c ∷ s)) ≡ true
    go true q e = rw q e
    go false q e = refl

-- the byte behind a run does not
behind-fails : (p : ℕ → Bool) (s : Bytes) (c : ℕ) (r : Bytes) → drop (run p s) s ≡ c ∷ r → p c ≡ false
unfolding run
behind-fails p [] c r e = absurd (let z : ◌≡◌ {A = ℕ} 0 1 = cc in omega arith)
behind-fails p (d ∷ s) c r e = go (p d) refl e (λ q. behind-fails p s c r q)
  where
    go : (t : Bool) → p d ≡ t → drop (pick t (suc (run p s)) 0) (d ∷ s) ≡ c ∷ r → (drop (run p s) s ≡ c ∷ r → p c ≡ false) → p c ≡ false
    go true q e ih = ih e
    go false q e ih = cc

pub run_ends : (p : ℕ → Bool) (s : Bytes) → run p s < length s → p (get_or s (run p s) 0) ≡ false
run_ends p s h = behind-fails p s (get_or s (run p s) 0) (drop (run p s + 1) s) (at-cons s (run p s) h)

-- gaps at the front do not matter, and a word at the front
words-from-run : (s : Bytes) → words s ≡ words (drop (run is_gap s) s)
words-from-run s = words-skip s ∙ ap words (behind-run is_gap s)

words-run : (c : ℕ) (s : Bytes) → is_gap c ≡ false → words (c ∷ s) ≡ take (run not_gap (c ∷ s)) (c ∷ s) ∷ words (drop (run not_gap (c ∷ s)) (c ∷ s))
unfolding run
words-run c s e = words-cut c s e ∙ rw (e, front-run, behind-run)

-- what the word that is found tells: the words, the first word, the text behind it, and where it stands
abbrev pub words_by : Bytes → Option Span → List Bytes
words_by s (Some p) = span p.start p.end s ∷ words (span p.end (length s) s)
words_by s None = []

abbrev pub first_by : Bytes → Option Span → Bytes
first_by s (Some p) = span p.start p.end s
first_by s None = []

abbrev pub after_by : Bytes → Option Span → Bytes
after_by s (Some p) = span p.end (length s) s
after_by s None = []

abbrev pub Within : Bytes → Option Span → Type 0
Within s (Some p) = (p.start < p.end) × (p.end ≤ length s)
Within s None = Unit {0}

-- All four by one lemma: a property of every word that begins at a byte that is no gap, or of the end.
module _ (s : Bytes) where
  abbrev first : ℕ
  first = run is_gap s

  abbrev past : ℕ
  past = first + run not_gap (drop first s)

  by_word : (P : Option Span → Type 0) → (first < length s → is_gap (get_or s first 0) ≡ false → P (Some (record { start = first; end = past }))) → (length s ≤ first → P None) → P (next_word s)
  unfolding next_word
  by_word P f g = go (ltb first (length s)) refl
    where
      go : (t : Bool) → ltb first (length s) ≡ t → P (pick t (Some (record { start = first; end = past })) None)
      go true e =
          let h : first < length s = ltb-true first (length s) e in
          f h (run_ends is_gap s h)
      go false e = g (ltb-false first (length s) e)

  -- the word, and what is behind it
  word-here : take (run not_gap (drop first s)) (drop first s) ≡ span first past s
  word-here = rw add-sub_cancel_left

  text-behind : drop (run not_gap (drop first s)) (drop first s) ≡ span past (length s) s
  text-behind = rw (drop-drop, rest)

  cut_at : first < length s → is_gap (get_or s first 0) ≡ false → words (drop first s) ≡ span first past s ∷ words (span past (length s) s)
  cut_at h q = rw (← word-here, ← text-behind) (rw (at-cons s first h) (words-run (get_or s first 0) (drop (first + 1) s) q))

  pub words-at : words s ≡ words_by s (next_word s)
  words-at =
      by_word (λ (w : Option Span). words s ≡ words_by s w)
      (λ h q. words-from-run s ∙ cut_at h q)
      (λ h. words-from-run s ∙ rw (drop_of_length-le s h))

  pub first-at : first_word s ≡ first_by s (next_word s)
  first-at =
      by_word (λ (w : Option Span). first_word s ≡ first_by s w)
      (λ h q. ap (front not_gap) (behind-run is_gap s) ∙ front-run not_gap (drop first s) ∙ word-here)
      (λ h. rw (behind-run, drop_of_length-le s h))

  pub after-at : after_word s ≡ after_by s (next_word s)
  after-at =
      by_word (λ (w : Option Span). after_word s ≡ after_by s w)
      (λ h q. ap (behind not_gap) (behind-run is_gap s) ∙ behind-run not_gap (drop first s) ∙ text-behind)
      (λ h. ap (behind not_gap) (behind-run is_gap s ∙ drop_of_length-le s h))

  pub word-within : Within s (next_word s)
  word-within =
      by_word (Within s)
      (λ h q. (omega (arith, run_more not_gap s first h (rw q)), omega (arith, run-le not_gap (drop first s), length-drop first s)))
      (λ h. tt)

-- the same of a word r that the code found
pub found : (s : Bytes) {r : Option Span} {a e : ℕ} → r ≡ next_word s → r ≡ Some (record { start = a; end = e }) → (a < e) × (e ≤ length s) × (words s ≡ span a e s ∷ words (span e (length s) s))
found s {a = a} {e = e} p q =
    let w : next_word s ≡ Some (record { start = a; end = e }) = sym p ∙ q in
    let l : Within s (Some (record { start = a; end = e })) = subst (Within s) w (word-within s) in
    (l.0, l.1, words-at s ∙ ap (words_by s) w)

pub not_found : (s : Bytes) {r : Option Span} → r ≡ next_word s → r ≡ None → words s ≡ []
not_found s p q = words-at s ∙ ap (words_by s) (sym p ∙ q)

-- a byte that is not 0 stands in its text
pub byte_inside : (s : Bytes) (i : ℕ) → 0 < get_or s i 0 → i < length s
byte_inside [] i h = absurd (omega arith)
byte_inside (c ∷ s) zero h = omega arith
byte_inside (c ∷ s) (suc i) h = omega (arith, byte_inside s i h)

-- the first word of a text, by its ends: the text from a on begins with it
pub first-span : (s : Bytes) (a e : ℕ) → a ≡ run is_gap s → e ≡ run not_gap (span a (length s) s) → take e (span a (length s) s) ≡ first_word s
first-span s a e p q = ap (λ (k : ℕ). take k (span a (length s) s)) q ∙ sym (front-run not_gap (span a (length s) s)) ∙ ap (front not_gap) (rest s a ∙ ap (λ (k : ℕ). drop k s) p ∙ sym (behind-run is_gap s))
