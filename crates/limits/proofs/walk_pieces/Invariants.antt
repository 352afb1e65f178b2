-- `limits::walk_pieces` meets its contract. The invariant: the file is readable where the part from i on is; where it is, `Walked` tells what is known at i of the record that
-- goes on, of the records before it, and of their descriptors. The measure is what is left of the file.
use Prim.Native.Nat.{◌-◌, ◌≤◌}
use mathlib.Core.Path.{◌≡◌}
use mathlib.Core.Bool.{true}
use lib.ListN.{length, drop}
use Rattle.format.specs.Limits.{record_fields}
use Rattle.records.specs.Places.{is_readable}
use Rattle.limits.proofs.Walked.{Walked}
use Rattle.limits.proofs.walk_pieces.Given as goal

abbrev pub invariant-loop-size : goal.invariant-loop-size
invariant-loop-size l = (l.i ≤ length l.s) × (is_readable l.s ≡ is_readable (drop l.i l.s)) × (l.o.fields ≤ record_fields) × (l.o.recs ≤ l.o.fields) × (l.count ≤ l.i) × (length l.starts ≡ length l.initial.starts) × (length l.ends ≡ length l.initial.ends) × (length l.afters ≡ length l.initial.afters) × (is_readable l.s ≡ true → Walked l.s l.i l.o l.count l.once l.starts l.ends l.afters)

abbrev pub decreases-loop-size : goal.decreases-loop-size
decreases-loop-size l = length l.s - l.i
