-- `words::part_end` meets its contract.
use mathlib.Core.Path.{refl, ◌∙◌}
use Rattle.std.proofs.Common.{rules, tests}
use Rattle.std.proofs.lemmas.Iterator.{YieldsList-from_slice}
use Rattle.std.proofs.lemmas.Iterator.Search.{position_from_yields_List}
use Prim.Native.Nat.{ℕ}
use lib.Dec.{eqb}
use Rattle.words.specs.Spans.{not_byte}
use Rattle.lines.proofs.Scans.{run_found}
use Rattle.words.proofs.part_end.Goals as goal

pub returns : goal.returns
returns c =
    c.unwrap_or.ensures ∙ run_found (not_byte c.args.d) (λ (b : ℕ). eqb b c.args.d) (λ b. refl) c.args.s.now c.position.result
    (position_from_yields_List (λ (b : ℕ). eqb b c.args.d) _ _ _ c.position.ensures.ran (YieldsList-from_slice c.args.s.now c.iter.ensures.rest) (λ x b q k. search (rules, tests)))
