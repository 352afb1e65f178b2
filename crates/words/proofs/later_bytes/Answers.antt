-- `words::later_bytes` meets its contract.
use mathlib.Core.Path.{◌∙◌}
use Rattle.std.proofs.Common.{rules, tests}
use Rattle.std.proofs.lemmas.Iterator.{YieldsList-from_slice}
use Rattle.std.proofs.lemmas.Iterator.Search.{all_from_yields_List}
use Rattle.format.specs.Lines.{is_later}
use Rattle.lines.proofs.Scans.{all_pass}
use Rattle.words.proofs.later_bytes.Goals as goal

pub returns : goal.returns
returns c =
    all_from_yields_List is_later _ _ _ c.all.ensures.ran (YieldsList-from_slice c.args.s.now c.iter.ensures.rest) (λ x b q k. search (rules, tests)) ∙ all_pass is_later c.args.s.now
