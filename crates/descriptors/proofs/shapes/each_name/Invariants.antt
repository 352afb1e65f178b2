-- `descriptors::shapes::each_name` meets its contract. The invariant: all words may stand in the list if all of the rest may, and only then. The measure is the rest.
use mathlib.Core.Path.{◌≡◌}
use lib.ListN.{length}
use Rattle.format.specs.Bytes.{all}
use Rattle.format.specs.Words.{words}
use Rattle.descriptors.specs.Contents.{listable}
use Rattle.descriptors.proofs.shapes.each_name.Given as goal

abbrev pub invariant-loop-start : goal.invariant-loop-start
invariant-loop-start l = all (listable l.special) (words l.s) ≡ all (listable l.special) (words l.rest)

abbrev pub decreases-loop-start : goal.decreases-loop-start
decreases-loop-start l = length l.rest
