-- `selection::walks::put` meets its contract.
use mathlib.Core.Path.{sym}
use lib.Dec.{ltb}
use lib.ListN.{length}
use borrow.Author.Tests.{lt-ltb, le-ltb}
use Rattle.selection.proofs.Ints.{pick_true, pick-false}
use Rattle.selection.proofs.walks.put.Goals as goal

pub returns-then-at-list : goal.returns-then-at-list
returns-then-at-list c =
    sym (pick_true (ltb c.args.at (length c.args.list.now)) _ _ (lt-ltb c.args.at (length c.args.list.now) c.if-at-list.true))

pub returns-else-at-list : goal.returns-else-at-list
returns-else-at-list c =
    sym (pick-false (ltb c.args.at (length c.args.list.now)) _ _ (le-ltb c.args.at (length c.args.list.now) c.if-at-list.false))
