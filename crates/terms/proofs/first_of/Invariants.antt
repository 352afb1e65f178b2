-- `terms::first_of` meets its contract. The invariant: the words before lo come before w, and the one at hi does not. The measure is what lies between.
use Prim.Native.Nat.{◌-◌, ◌<◌, ◌≤◌}
use lib.ListN.{length, get_or}
use Rattle.terms.specs.Entries.{word_at}
use Rattle.terms.specs.Order.{NotBehind, Low}
use Rattle.terms.proofs.first_of.Given as goal

abbrev pub invariant-loop-lo : goal.invariant-loop-lo
invariant-loop-lo l = (l.lo ≤ l.hi) × (l.hi ≤ length l.entries) × Low l.s l.entries l.w l.lo × (l.hi < length l.entries → NotBehind l.w (word_at l.s (get_or l.entries l.hi 0)))

abbrev pub decreases-loop-lo : goal.decreases-loop-lo
decreases-loop-lo l = l.hi - l.lo
