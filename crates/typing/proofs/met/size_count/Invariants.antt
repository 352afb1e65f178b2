-- `typing::met::size_count` meets its contract. The invariant: n of the bytes before i are counted, and the others in the value from i on.
use Prim.Native.Nat.{◌+◌, ◌≤◌}
use mathlib.Core.Path.{◌≡◌}
use lib.ListN.{length, drop}
use Rattle.format.specs.Types.{size_count}
use Rattle.typing.proofs.met.size_count.Given as goal

abbrev pub invariant-loop-c : goal.invariant-loop-c
invariant-loop-c l = (l.n ≤ l.c-index) × (l.c-index ≤ length l.v) × (size_count l.v ≡ l.n + size_count (drop l.c-index l.v))
