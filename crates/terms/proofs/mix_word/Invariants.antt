-- `terms::mix_word` meets its contract. The invariant: the bytes from the index on, mixed into h, make the number of the whole word.
use Prim.Native.Nat.{◌<◌}
use mathlib.Core.Path.{◌≡◌}
use lib.ListN.{drop}
use Rattle.sorting.specs.Texts.{mixed}
use Rattle.terms.proofs.mix_word.Given as goal

abbrev pub invariant-loop-b : goal.invariant-loop-b
invariant-loop-b l = (mixed l.h (drop l.b-index l.w) ≡ mixed 2166136261 l.w) × (l.h < 4294967296)
