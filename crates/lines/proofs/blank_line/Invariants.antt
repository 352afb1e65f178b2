-- `lines::blank_line` meets its contract. The invariant: the line is blank if what is left of it is.
use mathlib.Core.Path.{◌≡◌}
use Prim.Native.Nat.{◌≤◌}
use lib.ListN.{length, drop}
use Rattle.format.specs.Bytes.{is_blank, all}
use Rattle.lines.specs.Line.{first_line}
use Rattle.lines.proofs.blank_line.Given as goal

abbrev pub invariant-loop-b : goal.invariant-loop-b
invariant-loop-b l = (l.b-index ≤ length l.s) × (all is_blank (first_line l.s) ≡ all is_blank (first_line (drop l.b-index l.s)))
