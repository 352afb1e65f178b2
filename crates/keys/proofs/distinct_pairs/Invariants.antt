-- `keys::distinct_pairs` meets its contract. The invariant: what the entries from i on stand for is distinct if all is, and only then.
use Prim.Native.Nat.{◌≤◌}
use mathlib.Core.Path.{◌≡◌}
use lib.ListN.{length, drop}
use Rattle.format.specs.Rules.{distinct}
use Rattle.keys.specs.Marks.{marks_of}
use Rattle.keys.proofs.distinct_pairs.Given as goal

abbrev pub invariant-loop-i : goal.invariant-loop-i
invariant-loop-i l = (l.i ≤ length l.entries) × (distinct (marks_of l.s (drop l.i l.entries)) ≡ distinct (marks_of l.s l.entries))
