-- `sorting::compare_words` meets its contract. The invariant: the words from a and from b on compare as the whole ones do. The measure is what is left of the file.
use Prim.Native.Nat.{◌-◌}
use mathlib.Core.Path.{◌≡◌}
use mathlib.Core.Bool.{true}
use lib.ListN.{length}
use Rattle.sorting.specs.Texts.{text_at}
use Rattle.sorting.specs.Order.{compared_of}
use Rattle.sorting.proofs.compare_words.Given as goal

abbrev pub invariant-loop-c : goal.invariant-loop-c
invariant-loop-c l = compared_of (text_at true l.s l.a) (text_at true l.s l.b) ≡ compared_of (text_at true l.s l.i) (text_at true l.s l.j)

abbrev pub decreases-loop-c : goal.decreases-loop-c
decreases-loop-c l = length l.s - l.a
