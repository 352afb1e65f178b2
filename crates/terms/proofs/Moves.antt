-- Entries that were moved are entries still, and their words have the same tags.
use Prim.Native.Nat.{ℕ}
use mathlib.Core.Path.{sym, ◌∙◌}
use mathlib.Core.List.{List}
use lib.ListN.{length}
use Rattle.format.specs.Bytes.{Bytes}
use Rattle.sorting.specs.Moves.{Moved}
use Rattle.sorting.proofs.Moves.{moved-each, moved-any}
use Rattle.terms.specs.Sets.{says}
use Rattle.terms.specs.Entries.{term_at, IsEntry, Entries, Kept}
use Rattle.terms.proofs.Tests.{some-any}

module _ (s : Bytes) (l m : List ℕ) (v : Moved l m) where
  pub moved-entries : Entries s (length l) l → Entries s (length m) m
  moved-entries e = moved-each (IsEntry s) v e

  pub moved-kept : Kept s l m
  moved-kept w k = some-any w k s m ∙ moved-any (λ (e : ℕ). says w k (term_at s e)) v ∙ sym (some-any w k s l)
