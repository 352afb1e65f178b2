-- `words::trimmed` meets its contract.
use mathlib.Core.Path.{◌≡◌, sym, ap, ◌∙◌}
use Rattle.std.proofs.Common.{rules, tests}
use Rattle.std.proofs.lemmas.Iterator.Search.{position_from_yields_List}
use Prim.Native.Nat.{◌-◌}
use native.Mathlib.Omega.{arith}
use mathlib.Core.List.{reverse}
use lib.ListN.{length, take, drop, length-reverse}
use Rattle.std.proofs.lemmas.Iterator.Adapters.{YieldsList-from_rev_slice}
use Rattle.std.specs.Option.{unwrap_or}
use Rattle.format.specs.Bytes.{Bytes}
use Rattle.format.specs.Words.{is_gap, not_gap}
use Rattle.lines.specs.Line.{run}
use Rattle.lines.proofs.Scans.{run_found, not-not}
use Rattle.lines.proofs.Cuts.{rest}
use Rattle.words.proofs.Finding.{run-le}
use Rattle.words.proofs.Trimming.{trimmed_to}
use Rattle.words.proofs.trimmed.Goals as goal

pub slice_bounds-rest-start : goal.slice_bounds-rest-start
slice_bounds-rest-start c =
    omega (arith, c.gap_end-start.ensures, run-le is_gap c.args.s.now)

pub slice_bounds-rest-count : goal.slice_bounds-rest-count
slice_bounds-rest-count c =
    omega (arith, c.gap_end-start.ensures, run-le is_gap c.args.s.now)

pub returns : goal.returns
returns c =
    let s = c.args.s.now in
    let a = c.gap_end-start.result in
    let r : Bytes = take (length s - a) (drop a s) in
    let n : c.unwrap_or-gap.result ≡ run is_gap (reverse r) =
    c.unwrap_or-gap.ensures ∙ ap (unwrap_or c.position.result) (sym (length-reverse r)) ∙ run_found is_gap not_gap (λ b. not-not (is_gap b)) (reverse r) c.position.result
    (position_from_yields_List not_gap _ _ _ c.position.ensures.ran (YieldsList-from_rev_slice r cc) (λ x b q k. search (rules, tests)))
    in trimmed_to s a c.unwrap_or-gap.result c.gap_end-start.ensures (n ∙ ap (λ (t : Bytes). run is_gap (reverse t)) (rest s a))
