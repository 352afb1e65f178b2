-- Whether a part is readable: it is empty or ends in a newline, and what it goes on with is a piece, again and again.
use Prim.Native.Nat.{ℕ, zero, suc, ◌+◌, ◌-◌, ◌≤◌, ◌<◌}
use native.Mathlib.Omega.{arith}
use mathlib.Core.Path.{◌≡◌, refl, sym, ap, ◌∙◌, subst}
use mathlib.Core.Bool.{Bool, true, false, ◌&&◌}
use mathlib.Core.List.{List, [], ◌∷◌}
use mathlib.Core.Option.{Option, none, some}
use lib.Dec.{eqb}
use lib.ListN.{length, take, drop, get_or, length-drop}
use lib.Seq.{drop-drop}
use Rattle.format.specs.Bytes.{Bytes, is_some}
use Rattle.format.specs.Lines.{lines, is_ended}
use Rattle.format.specs.Pieces.{Piece, pieces}
use Rattle.lines.specs.Line.{first_line}
use Rattle.lines.specs.Piece.{next_of, size_of}
use Rattle.values.specs.Pieces.{piece_of, on_piece}
use Rattle.values.specs.Value.{value_from}
use Rattle.lines.specs.declared.Next.{Next}
use Rattle.lines.proofs.Cuts.{rest, ended-drop}
use Rattle.values.proofs.Pieces.{next-cut, no_pieces}
use Rattle.lines.proofs.Inside.{Inside, next-inside}
use Rattle.records.specs.Places.{is_readable}

-- the last byte tells whether a text is ended
pub last-ended : (s : Bytes) (k : ℕ) → length s ≡ suc k → is_ended s ≡ eqb (get_or s k 0) 10
last-ended [] k e = absurd (omega arith)
last-ended (c ∷ []) zero e = refl
last-ended (c ∷ []) (suc k) e = absurd (omega arith)
last-ended (c ∷ d ∷ s) zero e = absurd (omega arith)
last-ended (c ∷ d ∷ s) (suc k) e = last-ended (d ∷ s) k (omega arith)

pub empty-readable : (s : Bytes) → length s ≡ 0 → is_readable s ≡ true
unfolding is_readable
empty-readable [] e = ap is_some no_pieces
empty-readable (c ∷ s) e = absurd (omega arith)

pub open-unreadable : (s : Bytes) → is_ended s ≡ false → is_readable s ≡ false
unfolding is_readable
open-unreadable s e = ap (λ (b : Bool). b && is_some (pieces s)) e

-- from byte i on, by what the part goes on with
abbrev pub Onward : Bytes → ℕ → ℕ → Type 0
Onward s i k = (is_readable (drop i s) ≡ is_readable (drop (i + k) s)) × (0 < k) × (i + k ≤ length s)

abbrev pub Looks : Bytes → ℕ → Next → Type 0
Looks s i Next.End = is_readable (drop i s) ≡ true
Looks s i Next.Fault = is_readable (drop i s) ≡ false
Looks s i (Next.Blank k) = Onward s i k
Looks s i (Next.Comment k) = Onward s i k
Looks s i (Next.Field n v k) = Onward s i k

some-on : (p : Piece) (x : Option (List Piece)) → is_some (on_piece (some p) x) ≡ is_some x
some-on p none = refl
some-on p (some ps) = refl

module _ (s : Bytes) (i : ℕ) (e : is_ended (drop i s) ≡ true) where
  onward : (p : Piece) (k : ℕ) → 0 < k → k ≤ length (drop i s) → pieces (drop i s) ≡ on_piece (some p) (pieces (drop k (drop i s))) → Onward s i k
  unfolding is_readable
  onward p k h f q =
      (rw (e, q, some-on p (pieces (drop k (drop i s))), ← drop-drop k i s, ended-drop (drop i s) k e), h, omega (arith, length-drop i s))

  looks-by : (x : Next) → Inside (length (drop i s)) x → pieces (drop i s) ≡ on_piece (piece_of x (drop i s)) (pieces (drop (size_of x) (drop i s))) → Looks s i x
  unfolding is_readable
  looks-by Next.End f q = absurd f
  looks-by Next.Fault f q = rw (e, q)
  looks-by (Next.Blank k) f q = onward (Piece.blank (first_line (drop i s))) k f.0 f.1 q
  looks-by (Next.Comment k) f q = onward (Piece.comment (first_line (drop i s))) k f.0 f.1 q
  looks-by (Next.Field n v k) f q =
      onward (Piece.field (take n (drop i s)) (value_from (drop v (take k (drop i s)))) (lines (take k (drop i s)))) k (omega arith) f.3 q

  look_at : (t : Bytes) → drop i s ≡ t → Looks s i (next_of (drop i s))
  unfolding next_of
  look_at [] q = subst (Looks s i) (ap next_of (sym q)) (empty-readable (drop i s) (ap length q))
  look_at (c ∷ t) q =
      let h : 0 < length (drop i s) = omega (arith, ap length q) in
      looks-by (next_of (drop i s)) (next-inside (drop i s) e h) (next-cut (drop i s) e h)

pub looks : (s : Bytes) (i : ℕ) (x : Next) {y : Next} → is_ended s ≡ true → x ≡ next_of (take (length s - i) (drop i s)) → x ≡ y → Looks s i y
looks s i x {y} e f g = subst (Looks s i) (ap next_of (sym (rest s i)) ∙ sym f ∙ g) (look_at s i (ended-drop s i e) (drop i s) refl)
