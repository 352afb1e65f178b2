-- What was found before i, with what is found from there on behind the byte before it, is what is found in the whole text.
use Prim.Native.Nat.{◌-◌}
use mathlib.Core.Path.{◌≡◌}
use mathlib.Core.Bool.{◌||◌}
use lib.ListN.{drop, get_or}
use Rattle.totals.specs.Parts.{special_line}
use Rattle.totals.proofs.parts.has_special_line.Given as goal

abbrev pub invariant-loop-i : goal.invariant-loop-i
invariant-loop-i l = special_line 10 l.s ≡ (l.found || special_line (get_or l.s (l.i - 1) 0) (drop l.i l.s))
