-- What entries stand for from a place on, one at a time: is one among them, are they distinct.
use Prim.Native.Nat.{ℕ, ◌+◌, ◌<◌}
use mathlib.Core.Path.{◌≡◌}
use mathlib.Core.Bool.{true, false}
use mathlib.Core.List.{List}
use lib.ListN.{length, get_or, drop}
use Rattle.format.specs.Bytes.{Bytes, same, among}
use Rattle.format.specs.Rules.{distinct}
use Rattle.lines.proofs.Cuts.{at-cons}
use Rattle.keys.specs.Marks.{mark_at, marks_of}

module _ (s : Bytes) (l : List ℕ) (i : ℕ) (h : i < length l) where
  pub among-hit : (k : Bytes) → same k (mark_at s (get_or l i 0)) ≡ true → among k (marks_of s (drop i l)) ≡ true
  among-hit k e = rw (at-cons l i h, e)

  pub among-miss : (k : Bytes) → same k (mark_at s (get_or l i 0)) ≡ false → among k (marks_of s (drop i l)) ≡ among k (marks_of s (drop (i + 1) l))
  among-miss k e = rw (at-cons l i h, e)

  pub distinct-hit : among (mark_at s (get_or l i 0)) (marks_of s (drop (i + 1) l)) ≡ true → distinct (marks_of s (drop i l)) ≡ false
  distinct-hit e = rw (at-cons l i h, e)

  pub distinct-miss : among (mark_at s (get_or l i 0)) (marks_of s (drop (i + 1) l)) ≡ false → distinct (marks_of s (drop i l)) ≡ distinct (marks_of s (drop (i + 1) l))
  distinct-miss e = rw (at-cons l i h, e)
