-- `dictionary::wordsets::is_first` meets its contract. The invariant: no entry before the one that is met has the word of entry k.
use Prim.Native.Nat.{ℕ, ◌<◌}
use mathlib.Core.Path.{◌≡◌}
use mathlib.Core.Bool.{false}
use lib.ListN.{get_or}
use Rattle.format.specs.Bytes.{same}
use Rattle.terms.specs.Entries.{word_at}
use Rattle.dictionary.proofs.wordsets.is_first.Given as goal

abbrev pub invariant-loop-before : goal.invariant-loop-before
invariant-loop-before l = (i : ℕ) → i < l.before-index → same (word_at l.fn.d (get_or l.fn.entries l.fn.k 0)) (word_at l.fn.d (get_or l.fn.entries i 0)) ≡ false
