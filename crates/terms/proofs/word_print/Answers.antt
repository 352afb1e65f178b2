-- `terms::word_print` meets its contract.
use mathlib.Core.Path.{ap, ◌∙◌}
use Prim.Native.Nat.{ℕ, ◌/◌}
use Rattle.terms.specs.Entries.{print_unit, print_of}
use Rattle.terms.proofs.word_print.Goals as goal

pub returns : goal.returns
unfolding print_of
returns c =
    ap (λ (z : ℕ). z / print_unit) (c.narrow.ensures ∙ c.mix_word.ensures.0)
