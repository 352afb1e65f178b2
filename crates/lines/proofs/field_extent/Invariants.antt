-- `lines::field_extent` meets its contract. The invariant: the line from i on is taken, with i bytes before it, and gives the answer; no backslash stands directly before i.
use Prim.Native.Nat.{◌<◌, ◌-◌}
use mathlib.Core.Path.{◌≡◌}
use mathlib.Core.Bool.{true}
use lib.ListN.{length, drop, get_or}
use Rattle.format.specs.Lines.{lines}
use Rattle.lines.specs.Piece.{extent_of}
use Rattle.lines.proofs.field_extent.Given as goal

abbrev pub invariant-loop-i : goal.invariant-loop-i
invariant-loop-i l = (l.i < length l.s) × (0 < l.i) × (get_or l.s (l.i - 1) 0 ≡ 92 → ⊥) × (extent_of true 0 (lines l.s) ≡ extent_of true l.i (lines (drop l.i l.s)))

abbrev pub decreases-loop-i : goal.decreases-loop-i
decreases-loop-i l = length l.s - l.i
