-- `dictionary::wordsets::first_place` meets its contract. The invariant: no place before k is in the set.
use Prim.Native.Nat.{ℕ, ◌<◌}
use mathlib.Core.Path.{◌≡◌}
use mathlib.Core.Bool.{false}
use Rattle.terms.specs.Sets.{in_set}
use Rattle.dictionary.proofs.wordsets.first_place.Given as goal

abbrev pub invariant-loop-k : goal.invariant-loop-k
invariant-loop-k l = (j : ℕ) → j < l.k → in_set j l.fn.set ≡ false
