-- `splices::space::open_space` meets its contract: the tail moves up, or it moves down and zeros follow it.
use native.Mathlib.Omega.{arith}
use Rattle.splices.proofs.Opening.{opened_up, opened-down}
use Rattle.splices.proofs.space.open_space.Goals as goal

pub returns-then-from-to : goal.returns-then-from-to
returns-then-from-to c =
    let a = c.args in
    rw c.move_up.ensures (opened_up a.buf.now a.used a.at a.old a.new (omega arith) (omega arith) (omega arith) (omega arith))

pub returns-else-from-to : goal.returns-else-from-to
returns-else-from-to c =
    let a = c.args in
    rw c.move_down.ensures (opened-down a.buf.now a.used a.at a.old a.new (omega arith) (omega arith) (omega arith) (omega arith) _ (rw c.move_down.ensures at c.clear.ensures))
