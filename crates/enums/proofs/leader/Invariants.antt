-- `enums::leader` meets its contract. The invariant: the first row with the text is looked for from i on.
use Prim.Native.Nat.{◌+◌}
use mathlib.Core.Path.{◌≡◌}
use lib.ListN.{get_or, drop}
use Rattle.enums.specs.Rows.{place_of, leader_of}
use Rattle.enums.proofs.leader.Given as goal

abbrev pub invariant-loop-i : goal.invariant-loop-i
invariant-loop-i l = leader_of l.texts l.from l.row ≡ l.i + place_of (get_or l.texts l.row 0) (drop l.i l.texts)
