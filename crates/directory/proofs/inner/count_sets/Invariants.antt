-- `directory::inner::count_sets` meets its contract. The invariant: n entries stand before byte i, and those from there on are left. The measure is what is left of the length.
use Rattle.std.specs.Prelude.{◌-◌, length}
use Rattle.directory.proofs.Entries.{Counted}
use Rattle.directory.proofs.inner.count_sets.Given as goal

abbrev pub invariant-loop-q : goal.invariant-loop-q
invariant-loop-q l = Counted l.s l.n l.i

abbrev pub decreases-loop-q : goal.decreases-loop-q
decreases-loop-q l = length l.s - l.i
