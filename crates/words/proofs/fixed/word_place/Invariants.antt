-- `words::fixed::word_place` meets its contract. The invariant: n words are passed, and the place is that among the words of the rest, n further. The measure is the rest.
use Prim.Native.Nat.{◌≤◌, ◌+◌}
use mathlib.Core.Path.{◌≡◌}
use lib.ListN.{length}
use Rattle.format.specs.Words.{words}
use Rattle.words.specs.RuleNames.{place_in}
use Rattle.words.proofs.fixed.word_place.Given as goal

abbrev pub invariant-loop-start : goal.invariant-loop-start
invariant-loop-start l = (l.n + length l.rest ≤ length l.list) × (place_in l.w (words l.list) ≡ l.n + place_in l.w (words l.rest))

abbrev pub decreases-loop-start : goal.decreases-loop-start
decreases-loop-start l = length l.rest
