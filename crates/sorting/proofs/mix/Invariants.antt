-- `sorting::mix` meets its contract. The invariant: the bytes from at on, mixed into h, make the number of the whole text. The measure is what is left of the file.
use Prim.Native.Nat.{◌-◌, ◌<◌}
use mathlib.Core.Path.{◌≡◌}
use lib.ListN.{length}
use Rattle.sorting.specs.Texts.{text_at, mixed}
use Rattle.sorting.proofs.mix.Given as goal

abbrev pub invariant-loop-byte : goal.invariant-loop-byte
invariant-loop-byte l = (mixed l.h (text_at l.words l.s l.at) ≡ mixed 2166136261 (text_at l.words l.s l.i)) × (l.h < 4294967296)

abbrev pub decreases-loop-byte : goal.decreases-loop-byte
decreases-loop-byte l = length l.s - l.at
