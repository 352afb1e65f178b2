-- `terms::compare_word` meets its contract. The invariant: what is left of both words compares as the whole ones do. The measure is what is left of the file.
use Prim.Native.Nat.{◌-◌, ◌≤◌}
use mathlib.Core.Path.{◌≡◌}
use mathlib.Core.Bool.{true}
use lib.ListN.{length, drop}
use Rattle.sorting.specs.Texts.{text_at}
use Rattle.sorting.specs.Order.{compared_of}
use Rattle.terms.proofs.compare_word.Given as goal

abbrev pub invariant-loop-byte : goal.invariant-loop-byte
invariant-loop-byte l = (l.n ≤ length l.w) × (compared_of (text_at true l.s l.i) (drop l.n l.w) ≡ compared_of (text_at true l.s l.at) l.w)

abbrev pub decreases-loop-byte : goal.decreases-loop-byte
decreases-loop-byte l = length l.s - l.i
