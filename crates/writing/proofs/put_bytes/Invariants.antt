-- `writing::put_bytes` meets its contract. The invariant: storing the rest of s at i gives what storing all of it gives.
use mathlib.Core.Path.{◌≡◌}
use lib.ListN.{length, drop}
use lib.Seq.{sets}
use Rattle.writing.proofs.put_bytes.Given as goal

abbrev pub invariant-loop-i : goal.invariant-loop-i
invariant-loop-i l = (length l.out ≡ length l.initial.out) × (sets l.out l.i (drop l.i l.s) ≡ sets l.initial.out 0 l.s)
