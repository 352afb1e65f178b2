-- How far a field goes, line by line from an index on.
use Rattle.std.specs.Prelude.{Some, None}
use Prim.Native.Nat.{ℕ, suc, ◌+◌, ◌-◌, ◌≤◌, ◌<◌}
use native.Mathlib.Nat.{not-suc-le-zero, add-suc}
use native.Mathlib.Numerals.{add-one}
use native.Mathlib.Omega.{arith}
use mathlib.Core.Path.{◌≡◌, refl, sym, ap, ◌∙◌}
use mathlib.Core.Bool.{Bool, true, false, ◌||◌}
use mathlib.Core.List.{[], ◌∷◌}
use borrow.Author.Tests.{eqb-true, eq-eqb}
use lib.Dec.{eqb}
use lib.ListN.{length, take, drop, get_or, drop_of_length-le, length-drop}
use lib.Seq.{drop-drop, get_or-drop}
use Rattle.format.specs.Bytes.{Bytes, pick, is_newline}
use Rattle.format.specs.Lines.{lines, joins}
use Rattle.lines.specs.Line.{line_len, first_line, GoesOn}
use Rattle.lines.specs.Piece.{is_plus, extent_of}
use Rattle.lines.proofs.Cuts.{lines_cut, first-length, line-from, first-joins, joins_at}

-- a line begins with a plus if its text does
pub first-plus : (s : Bytes) → 0 < length s → is_plus (first_line s) ≡ eqb (get_or s 0 0) 43
unfolding line_len
first-plus [] h = absurd (not-suc-le-zero h)
first-plus (c ∷ s) h = go (is_newline c) refl
  where
    go : (t : Bool) → is_newline c ≡ t → is_plus (take (pick t 0 (suc (line_len s))) (c ∷ s)) ≡ eqb c 43
    go true q = ap (λ (x : ℕ). eqb x 43) (sym (eqb-true c 10 q))
    go false q = refl

-- the lines of the rest from i on
pub lines_at : (s : Bytes) (i : ℕ) → i < length s → lines (drop i s) ≡ first_line (drop i s) ∷ lines (drop (i + suc (line_len (drop i s))) s)
lines_at s i h = lines_cut (drop i s) (simp length-drop (omega arith)) ∙ rw drop-drop

plus-at : (s : Bytes) (i : ℕ) → i < length s → is_plus (first_line (drop i s)) ≡ eqb (get_or s i 0) 43
plus-at s i h = first-plus (drop i s) (simp length-drop (omega arith)) ∙ ap (λ (c : ℕ). eqb c 43) (get_or-drop i s 0 0 ∙ ap (λ (k : ℕ). get_or s k 0) (omega arith))

module _ (s : Bytes) (taken : Bool) (i : ℕ) where
  pub extent-step : i < length s → extent_of taken i (lines (drop i s)) ≡ pick (taken || eqb (get_or s i 0) 43) (extent_of (joins (first_line (drop i s))) (i + suc (line_len (drop i s))) (lines (drop (i + suc (line_len (drop i s))) s))) (Some i)
  unfolding extent_of
  extent-step h = rw (lines_at s i h, first-length (drop i s), plus-at s i h)

pub extent-end : (s : Bytes) (taken : Bool) (i : ℕ) → length s ≤ i → extent_of taken i (lines (drop i s)) ≡ pick taken None (Some i)
unfolding extent_of
extent-end s true i h = rw (drop_of_length-le s)
extent-end s false i h = rw (drop_of_length-le s)

-- a plus line is taken as a line that the one before takes on
pub extent-plus : (s : Bytes) (i : ℕ) → i < length s → get_or s i 0 ≡ 43 → extent_of false i (lines (drop i s)) ≡ extent_of true i (lines (drop i s))
extent-plus s i h e = rw (extent-step s false i h, extent-step s true i h, eq-eqb _ _ e)

-- past a line that is taken, which ends at e
pub extent-past : (s : Bytes) (i e : ℕ) → i < length s → 0 < i → (get_or s (i - 1) 0 ≡ 92 → ⊥) → e ≡ i + line_len (drop i s)
    → extent_of true i (lines (drop i s)) ≡ extent_of (eqb (get_or s (e - 1) 0) 92) (e + 1) (lines (drop (e + 1) s))
extent-past s i e h z b q = rw (extent-step s true i h, joins_at s i z b, q, add-one, add-suc)

-- the same lines from a place within the first on
pub extent-from : (s : Bytes) (i : ℕ) → i < length s → GoesOn s i → extent_of true 0 (lines s) ≡ extent_of true i (lines (drop i s))
extent-from s i h g =
    let n = line-from s i g.1 in
    let m : 0 + suc (line_len s) ≡ i + suc (line_len (drop i s)) = omega (arith, n) in
    let j : joins (first_line s) ≡ joins (first_line (drop i s)) = first-joins s (omega (arith, g.0, g.1)) ∙ ap (λ (k : ℕ). eqb (get_or s (k - 1) 0) 92) n ∙ sym (joins_at s i g.0 g.2) in
    extent-step s true 0 (omega arith) ∙ (λ d. extent_of (j d) (m d) (lines (drop (m d) s))) ∙ sym (extent-step s true i h)

-- no backslash stands directly before the byte behind a newline
pub newline-before : (s : Bytes) (e : ℕ) → get_or s e 0 ≡ 10 → get_or s (e + 1 - 1) 0 ≡ 92 → ⊥
newline-before s e h q = omega (arith, h, ap (λ (k : ℕ). get_or s k 0) (let z : e ≡ e + 1 - 1 = omega arith in z) ∙ q)
