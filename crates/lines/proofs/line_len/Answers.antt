-- `lines::line_len` meets its contract.
use mathlib.Core.Path.{◌∙◌}
use Rattle.std.proofs.Common.{rules, tests}
use Rattle.std.proofs.lemmas.Iterator.{YieldsList-from_slice}
use Rattle.std.proofs.lemmas.Iterator.Search.{position_from_yields_List}
use Rattle.format.specs.Bytes.{is_newline}
use Rattle.lines.proofs.Scans.{line_found}
use Rattle.lines.proofs.line_len.Goals as goal

pub returns : goal.returns
returns c =
    c.unwrap_or.ensures ∙ line_found c.args.s.now c.position.result (position_from_yields_List is_newline _ _ _ c.position.ensures.ran (YieldsList-from_slice c.args.s.now c.iter.ensures.rest) (λ x b q k. search (rules, tests)))
