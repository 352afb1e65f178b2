-- `lines::line_end` meets its contract. The invariant: no newline stands from i up to the byte reached, so the line's end is ahead.
use Prim.Native.Nat.{◌<◌, ◌+◌, ◌-◌}
use mathlib.Core.Path.{◌≡◌}
use lib.ListN.{length, drop}
use Rattle.lines.specs.Line.{line_len}
use Rattle.lines.proofs.line_end.Given as goal

abbrev pub invariant-loop-at : goal.invariant-loop-at
invariant-loop-at l = (l.at < length l.s) × (l.i + line_len (drop l.i l.s) ≡ l.at + line_len (drop l.at l.s))

abbrev pub decreases-loop-at : goal.decreases-loop-at
decreases-loop-at l = length l.s - l.at
