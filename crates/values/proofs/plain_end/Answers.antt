-- `values::plain_end` meets its contract: a byte that is found to be neither a backslash nor a newline stands for itself.
use mathlib.Core.Path.{◌≡◌, ap, ◌∙◌}
use lib.ListN.{drop}
use Rattle.std.proofs.Common.{rules, tests}
use Rattle.std.proofs.lemmas.Iterator.{YieldsList-from_slice}
use Rattle.std.proofs.lemmas.Iterator.Search.{position_from_yields_List}
use Rattle.std.specs.List.{position_or_len}
use Rattle.lines.proofs.Cuts.{rest as cut}
use Rattle.lines.proofs.Scans.{found}
use Rattle.values.proofs.Decoding.{plain_here, plain_run, ends_run}
use Rattle.values.proofs.plain_end.Goals as goal

pub returns-in_default : goal.returns-in_default
returns-in_default c =
    plain_here c.args.s.now c.args.i

pub returns : goal.returns
returns c =
    let s = c.args.s.now in
    let i = c.args.i in
    let held : c.in-Some.rest.now ≡ drop i s = c.in-Some.ensures.lookup.0.2 ∙ cut s i in
    let n : c.unwrap_or.result ≡ position_or_len ends_run c.in-Some.rest.now =
    c.unwrap_or.ensures ∙ found ends_run c.in-Some.rest.now c.position.result
    (position_from_yields_List ends_run _ _ _ c.position.ensures.ran (YieldsList-from_slice c.in-Some.rest.now c.iter.ensures.rest) (λ x b q k. search (rules, tests)))
    in plain_run s i c.unwrap_or.result (n ∙ ap (position_or_len ends_run) held)
