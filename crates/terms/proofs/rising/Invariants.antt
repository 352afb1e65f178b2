-- `terms::rising` meets its contract. The invariant: no word before i is behind the next.
use Prim.Native.Nat.{◌<◌}
use Rattle.terms.specs.Order.{Rising}
use Rattle.terms.proofs.rising.Given as goal

abbrev pub invariant-loop-i : goal.invariant-loop-i
invariant-loop-i l = (0 < l.i) × Rising l.s l.i l.entries
