-- `words::gap_end` meets its contract.
use mathlib.Core.Path.{◌∙◌}
use Rattle.std.proofs.Common.{rules, tests}
use Rattle.std.proofs.lemmas.Iterator.{YieldsList-from_slice}
use Rattle.std.proofs.lemmas.Iterator.Search.{position_from_yields_List}
use Rattle.format.specs.Words.{is_gap, not_gap}
use Rattle.lines.proofs.Scans.{run_found, not-not}
use Rattle.words.proofs.gap_end.Goals as goal

pub returns : goal.returns
returns c =
    c.unwrap_or.ensures ∙ run_found is_gap not_gap (λ b. not-not (is_gap b)) c.args.s.now c.position.result
    (position_from_yields_List not_gap _ _ _ c.position.ensures.ran (YieldsList-from_slice c.args.s.now c.iter.ensures.rest) (λ x b q k. search (rules, tests)))
