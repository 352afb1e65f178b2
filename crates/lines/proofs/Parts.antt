-- A text of lines in two parts: its bytes, its lines and the pieces of the second.
use Prim.Native.Nat.{ℕ, suc, ◌≤◌, ◌<◌}
use native.Mathlib.Omega.{arith}
use mathlib.Core.Path.{◌≡◌, sym, ap, ◌∙◌, subst}
use mathlib.Core.Bool.{true}
use mathlib.Core.List.{List, ◌∷◌, ◌++◌}
use lib.ListN.{length, take, drop, length-append}
use lib.Seq.{take_at, drop_at}
use Rattle.format.specs.Bytes.{Bytes}
use Rattle.format.specs.Lines.{Line, lines, bytes, is_ended}
use Rattle.format.specs.Pieces.{Mode, read_from, pieces_in, pieces}
use Rattle.format.proofs.Elements.{Each, each-parts}
use Rattle.format.proofs.Lines.{Clean, lines-bytes, bytes-lines, lines-clean, bytes-append}
use Rattle.lines.specs.Line.{line_len, first_line}
use Rattle.lines.proofs.Cuts.{lines_cut}

-- a text of lines in two parts, the first one of k bytes
module _ (s : Bytes) (a b : List Line) (k : ℕ) (clean : Each Clean (a ++ b)) (are : bytes (a ++ b) ≡ s) (size : k ≡ length (bytes a)) where
  halves : s ≡ bytes a ++ bytes b
  halves = sym are ∙ bytes-append a b

  pub part-le : k ≤ length s
  part-le = omega (arith, ap length halves, length-append (bytes a) (bytes b))

  pub part_bytes : take k s ≡ bytes a
  part_bytes = ap (take k) halves ∙ take_at (bytes a) (bytes b) k (sym size)

  pub part-lines : lines (take k s) ≡ a
  part-lines = ap lines part_bytes ∙ lines-bytes a (each-parts Clean a b clean).0

  pub part-rest : pieces (drop k s) ≡ pieces_in (read_from Mode.closed b)
  unfolding pieces
  part-rest = ap (λ (x : Bytes). pieces_in (read_from Mode.closed (lines x))) (ap (drop k) halves ∙ drop_at (bytes a) (bytes b) k (sym size)) ∙ ap (λ (x : List Line). pieces_in (read_from Mode.closed x)) (lines-bytes b (each-parts Clean a b clean).1)

-- the lines of an ended text
pub first-clean : (s : Bytes) → 0 < length s → Each Clean (first_line s ∷ lines (drop (suc (line_len s)) s))
first-clean s h = subst (Each Clean) (lines_cut s h) (lines-clean s)

pub first-bytes : (s : Bytes) → is_ended s ≡ true → 0 < length s → bytes (first_line s ∷ lines (drop (suc (line_len s)) s)) ≡ s
first-bytes s e h = ap bytes (sym (lines_cut s h)) ∙ bytes-lines s e
