-- `writing::put_value` meets its contract. The invariant: n and the text of the bytes not passed end where the whole text ends, and writing that text at n gives
-- what writing the whole one gives.
use Prim.Native.Nat.{◌+◌}
use mathlib.Core.Path.{◌≡◌}
use lib.ListN.{length, drop}
use lib.Seq.{sets}
use Rattle.format.specs.Written.{indent}
use Rattle.writing.proofs.put_value.Given as goal

abbrev pub invariant-loop-b : goal.invariant-loop-b
invariant-loop-b l = (length l.out ≡ length l.initial.out) × (l.n + length (indent (drop l.b-index l.value)) ≡ l.at + length (indent l.value)) × (sets l.out l.n (indent (drop l.b-index l.value)) ≡ sets l.initial.out l.at (indent l.value))
