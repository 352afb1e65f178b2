-- `keys::mark_among` meets its contract. The invariant: what x stands for is among what the entries from i on do if it is among all, and only then.
use Prim.Native.Nat.{◌≤◌}
use mathlib.Core.Path.{◌≡◌}
use lib.ListN.{length, drop}
use Rattle.format.specs.Bytes.{among}
use Rattle.keys.specs.Marks.{mark_at, marks_of}
use Rattle.keys.proofs.mark_among.Given as goal

abbrev pub invariant-loop-y : goal.invariant-loop-y
invariant-loop-y l = (l.y-index ≤ length l.entries) × (among (mark_at l.s l.x) (marks_of l.s (drop l.y-index l.entries)) ≡ among (mark_at l.s l.x) (marks_of l.s l.entries))
