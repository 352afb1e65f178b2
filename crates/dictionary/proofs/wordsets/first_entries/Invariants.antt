-- `dictionary::wordsets::first_entries` meets its contract. The invariant: the set has those of the places before k.
use Prim.Native.Nat.{ℕ}
use mathlib.Core.Path.{◌≡◌}
use mathlib.Core.Bool.{◌&&◌}
use mathlib.Core.List.{map}
use lib.Dec.{ltb}
use Rattle.terms.specs.Sets.{in_set}
use Rattle.terms.specs.Entries.{word_at}
use Rattle.dictionary.specs.Numbered.{is_first}
use Rattle.dictionary.proofs.wordsets.first_entries.Given as goal

abbrev pub invariant-loop-k : goal.invariant-loop-k
invariant-loop-k l = (j : ℕ) → in_set j l.set ≡ (ltb j l.k && is_first j (map (word_at l.d) l.entries))
