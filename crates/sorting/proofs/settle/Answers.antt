-- `sorting::settle` meets its contract: the entries stay, or two of them change places.
use native.Mathlib.Omega.{arith}
use Rattle.sorting.specs.Moves.{none}
use Rattle.sorting.proofs.Moves.{moved-swapped}
use Rattle.sorting.proofs.settle.Goals as goal

pub returns-then-entries-i : goal.returns-then-entries-i
returns-then-entries-i c = none

pub returns-then-entries-j : goal.returns-then-entries-j
returns-then-entries-j c = none

pub swap-requires : goal.swap-requires
swap-requires c = (omega arith, omega arith)

pub returns : goal.returns
returns c =
    moved-swapped c.args.entries.now _ c.args.i c.broad-j.result (omega arith) (omega arith) c.swap.ensures
