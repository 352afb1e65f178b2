-- `selection::runs::joined` meets its contract.
use Prim.Native.Nat.{◌%◌}
use mathlib.Core.Path.{sym}
use lib.Dec.{eqb}
use borrow.Author.Tests.{eq-eqb, ne_eqb}
use Rattle.selection.proofs.Ints.{pick_true, pick-false}
use Rattle.selection.proofs.runs.joined.Goals as goal

pub returns-then-x-eq0 : goal.returns-then-x-eq0
returns-then-x-eq0 c =
    sym (pick_true (eqb (c.args.x % 4) 0) 2 3 (eq-eqb (c.args.x % 4) 0 c.if-x-eq0.true))

pub returns-else-x-eq0 : goal.returns-else-x-eq0
returns-else-x-eq0 c =
    sym (pick-false (eqb (c.args.x % 4) 0) 2 3 (ne_eqb (c.args.x % 4) 0 c.if-x-eq0.false))
