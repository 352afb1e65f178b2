-- `descriptors::shapes::is_named` meets its contract. The invariant: the places from k on stand in s, and the word is among all names if it is among those from k on, and only then.
use Prim.Native.Nat.{◌≤◌}
use mathlib.Core.Path.{◌≡◌}
use lib.ListN.{length, drop}
use Rattle.format.specs.Bytes.{among}
use Rattle.descriptors.specs.Names.{names_at, Inside}
use Rattle.descriptors.proofs.shapes.is_named.Given as goal

abbrev pub invariant-loop-k : goal.invariant-loop-k
invariant-loop-k l = (l.k ≤ length l.starts) × Inside l.s (drop l.k l.starts) (drop l.k l.ends) × (among l.word (names_at l.s l.starts l.ends) ≡ among l.word (names_at l.s (drop l.k l.starts) (drop l.k l.ends)))
