-- `selection::parts::name_len` meets its contract.
use mathlib.Core.Path.{◌∙◌}
use mathlib.Core.Bool.{not}
use Rattle.std.proofs.Common.{rules, tests}
use Rattle.std.proofs.lemmas.Iterator.{YieldsList-from_slice}
use Rattle.std.proofs.lemmas.Iterator.Search.{position_from_yields_List}
use Rattle.format.specs.Lines.{is_later}
use Rattle.lines.proofs.Scans.{run_found, not-not}
use Rattle.selection.proofs.parts.name_len.Goals as goal

pub returns : goal.returns
returns c =
    let s = c.args.s.now in
    c.unwrap_or.ensures ∙ run_found is_later (λ b. not (is_later b)) (λ b. not-not (is_later b)) s c.position.result
    (position_from_yields_List (λ b. not (is_later b)) _ _ _ c.position.ensures.ran (YieldsList-from_slice s c.iter.ensures.rest) (λ x b q k. search (rules, tests)))
