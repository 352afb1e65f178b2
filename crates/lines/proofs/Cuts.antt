-- Lines one after the other: the first line of a text, the lines behind it, and the same from an index on.
use Prim.Native.Nat.{ℕ, zero, suc, ◌+◌, ◌-◌, ◌≤◌, ◌<◌}
use native.Mathlib.Nat.{not-suc-le-zero}
use native.Mathlib.Numerals.{add-one}
use native.Mathlib.Omega.{arith}
use mathlib.Core.Path.{◌≡◌, refl, sym, ap, ◌∙◌}
use mathlib.Core.Bool.{Bool, true, false, and-false}
use mathlib.Core.List.{[], ◌∷◌}
use borrow.Author.Tests.{eq-eqb, ne_eqb}
use lib.Dec.{eqb}
use lib.ListN.{length, take, drop, get_or, drop_of_length-le, length-drop}
use lib.Seq.{drop-cons, length-take-le, take_all, get_or-take, get_or-drop}
use Rattle.format.specs.Bytes.{Bytes, pick, is_newline, same}
use Rattle.format.specs.Lines.{lines, is_ended, joins}
use Rattle.format.proofs.Lines.{put}
use Rattle.lines.specs.Line.{line_len, first_line}

-- the rest from i on is the byte at i and the rest from i + 1 on
pub at-cons : (s : Bytes) (i : ℕ) → i < length s → drop i s ≡ get_or s i 0 ∷ drop (i + 1) s
at-cons s i h = rw (add-one, drop-cons s i 0)

-- what a part `&s[i..]` holds
pub rest : (s : Bytes) (i : ℕ) → take (length s - i) (drop i s) ≡ drop i s
rest s i = take_all (length s - i) (drop i s) (simp length-drop (omega arith))

-- the first line, byte by byte
module _ (s : Bytes) (i : ℕ) where
  pub line-more : i < length s → (get_or s i 0 ≡ 10 → ⊥) → line_len (drop i s) ≡ suc (line_len (drop (i + 1) s))
  unfolding line_len
  line-more h e = rw (at-cons s i h, ne_eqb _ _ e)

  pub line-stop : i < length s → get_or s i 0 ≡ 10 → line_len (drop i s) ≡ 0
  unfolding line_len
  line-stop h e = rw (at-cons s i h, eq-eqb _ _ e)

  pub line-end : length s ≤ i → line_len (drop i s) ≡ 0
  unfolding line_len
  line-end h = rw (drop_of_length-le s)

-- where no newline stands before it, it is the bytes before a place and the line that goes on there
pub line-from : (s : Bytes) (i : ℕ) → i ≤ line_len s → line_len s ≡ i + line_len (drop i s)
unfolding line_len
line-from s zero h = omega arith
line-from [] (suc i) h = absurd (omega arith)
line-from (c ∷ s) (suc i) h = go (is_newline c) h (line-from s i)
  where
    go : (t : Bool) → suc i ≤ pick t 0 (suc (line_len s)) → (i ≤ line_len s → line_len s ≡ i + line_len (drop i s)) → pick t 0 (suc (line_len s)) ≡ suc i + line_len (drop i s)
    go true k f = absurd (omega arith)
    go false k f = omega (arith, f (omega arith))

-- it is within its text
pub line-le : (s : Bytes) → line_len s ≤ length s
unfolding line_len
line-le [] = omega arith
line-le (c ∷ s) = go (is_newline c) (line-le s)
  where
    go : (t : Bool) → line_len s ≤ length s → pick t 0 (suc (line_len s)) ≤ suc (length s)
    go true h = omega arith
    go false h = omega arith

pub first-length : (s : Bytes) → length (first_line s) ≡ line_len s
first-length s = length-take-le (line_len s) s (line-le s)

-- the lines of a text are its first line and the lines behind that line's newline
pub lines_cut : (s : Bytes) → 0 < length s → lines s ≡ first_line s ∷ lines (drop (suc (line_len s)) s)
unfolding line_len
lines_cut [] h = absurd (not-suc-le-zero h)
lines_cut (c ∷ []) h = go (is_newline c)
  where
    go : (t : Bool) → put t c [] ≡ take (pick t 0 1) (c ∷ []) ∷ lines (drop (suc (pick t 0 1)) (c ∷ []))
    go true = refl
    go false = refl
lines_cut (c ∷ d ∷ s) h = go (is_newline c) (lines_cut (d ∷ s) (omega arith))
  where
    z : Bytes
    z = d ∷ s

    go : (t : Bool) → lines z ≡ first_line z ∷ lines (drop (suc (line_len z)) z) → put t c (lines z) ≡ take (pick t 0 (suc (line_len z))) (c ∷ z) ∷ lines (drop (suc (pick t 0 (suc (line_len z)))) (c ∷ z))
    go true e = refl
    go false e = ap (put false c) e

-- an ended text: so are its rests, and its first line has a newline
pub ended-tail : (c : ℕ) (s : Bytes) → is_ended (c ∷ s) ≡ true → is_ended s ≡ true
ended-tail c [] e = refl
ended-tail c (d ∷ s) e = e

pub ended-drop : (s : Bytes) (k : ℕ) → is_ended s ≡ true → is_ended (drop k s) ≡ true
ended-drop s zero e = e
ended-drop [] (suc k) e = refl
ended-drop (c ∷ s) (suc k) e = ended-drop s k (ended-tail c s e)

pub line-inside : (s : Bytes) → is_ended s ≡ true → 0 < length s → line_len s < length s
unfolding line_len
line-inside [] e h = h
line-inside (c ∷ []) e h = rw e (omega arith)
line-inside (c ∷ d ∷ s) e h = go (is_newline c) (line-inside (d ∷ s) e (omega arith))
  where
    go : (t : Bool) → line_len (d ∷ s) < length (d ∷ s) → pick t 0 (suc (line_len (d ∷ s))) < length (c ∷ d ∷ s)
    go true h = omega arith
    go false h = omega arith

-- texts that are not as long are not the same
pub lengths_differ : (a b : Bytes) → (length a ≡ length b → ⊥) → same a b ≡ false
lengths_differ [] [] h = absurd (h refl)
lengths_differ [] (y ∷ b) h = refl
lengths_differ (x ∷ a) [] h = refl
lengths_differ (x ∷ a) (y ∷ b) h = rw (lengths_differ a b (λ e. h (ap suc e)), and-false)

-- the last byte of a line tells whether it takes the next one on
joins-last : (l : Bytes) (k : ℕ) → length l ≡ suc k → joins l ≡ eqb (get_or l k 0) 92
joins-last [] k e = absurd (omega arith)
joins-last (c ∷ []) zero e = refl
joins-last (c ∷ []) (suc k) e = absurd (omega arith)
joins-last (c ∷ d ∷ l) zero e = absurd (omega arith)
joins-last (c ∷ d ∷ l) (suc k) e = joins-last (d ∷ l) k (omega arith)

pub first-joins : (s : Bytes) → 0 < line_len s → joins (first_line s) ≡ eqb (get_or s (line_len s - 1) 0) 92
first-joins s h =
    let k = line_len s - 1 in
    joins-last (first_line s) k (omega (arith, first-length s)) ∙ ap (λ (c : ℕ). eqb c 92) (get_or-take (line_len s) s k 0 (omega arith))

pub line-at-inside : (s : Bytes) (i : ℕ) → is_ended s ≡ true → i < length s → i + line_len (drop i s) < length s
line-at-inside s i e h = omega (arith, line-inside (drop i s) (ended-drop s i e) (simp length-drop (omega arith)), length-drop i s)

-- the same by the byte before a line's newline, whose rest from a place on is looked at
pub joins_at : (s : Bytes) (i : ℕ) → 0 < i → (get_or s (i - 1) 0 ≡ 92 → ⊥) → joins (first_line (drop i s)) ≡ eqb (get_or s (i + line_len (drop i s) - 1) 0) 92
joins_at s i h b = go (line_len (drop i s)) refl
  where
    go : (n : ℕ) → line_len (drop i s) ≡ n → joins (take n (drop i s)) ≡ eqb (get_or s (i + n - 1) 0) 92
    go zero e = sym (ne_eqb _ _ (λ q. b (ap (λ (k : ℕ). get_or s k 0) (let z : i - 1 ≡ i + 0 - 1 = omega arith in z) ∙ q)))
    go (suc k) e =
        joins-last (take (suc k) (drop i s)) k (length-take-le (suc k) (drop i s) (omega (arith, line-le (drop i s))))
        ∙ ap (λ (c : ℕ). eqb c 92) (get_or-take (suc k) (drop i s) k 0 (omega arith) ∙ get_or-drop i s k 0 ∙ ap (λ (j : ℕ). get_or s j 0) (let z : i + k ≡ i + suc k - 1 = omega arith in z))
