-- `numbering::bounds::narrow_names` meets its contract: the names stand in the first word.
use Prim.Native.Nat.{min, max}
use native.Mathlib.Omega.{arith}
use mathlib.Core.Path.{sym, ap, ◌∙◌}
use lib.ListN.{length, get_or}
use lib.Seq.{length-take-le}
use Rattle.format.specs.Bytes.{Bytes, pick, among}
use Rattle.format.specs.Words.{is_gap, not_gap, split}
use Rattle.format.specs.Numbering.{above, from}
use Rattle.format.specs.Rules.{auto}
use Rattle.numbers.specs.Meaning.{int_in}
use Rattle.words.specs.RuleNames.{place_in}
use Rattle.words.specs.Spans.{span}
use Rattle.words.proofs.Finding.{run-le, first-span}
use Rattle.records.specs.Walk.{record_in}
use Rattle.numbering.specs.Bounds.{numbers}
use Rattle.numbering.proofs.bounds.narrow_names.Goals as goal

pub slice_bounds-t-count : goal.slice_bounds-t-count
slice_bounds-t-count c =
    omega (arith, c.gap_end.ensures, run-le is_gap c.args.s.now)

pub slice_bounds-t-start : goal.slice_bounds-t-start
slice_bounds-t-start c =
    omega (arith, c.gap_end.ensures, run-le is_gap c.args.s.now)

pub slice_bounds-narrow_parts-end : goal.slice_bounds-narrow_parts-end
slice_bounds-narrow_parts-end c =
    let t = span c.gap_end.result (length c.args.s.now) c.args.s.now in
    sym (length-take-le c.word_end-e.result t (omega (arith, c.word_end-e.ensures, run-le not_gap t)))

pub returns : goal.returns
returns c =
    let e = first-span c.args.s.now c.gap_end.result c.word_end-e.result c.gap_end.ensures c.word_end-e.ensures in
    let ws = auto (record_in c.args.d.now) in
    (λ n h. c.narrow_parts.ensures.0 n h ∙ ap (λ (x : Bytes). max (get_or c.args.floors.now (place_in n ws) 0) (pick (among n (split 44 x)) (from (int_in c.args.range.low)) 0)) e, λ n h. c.narrow_parts.ensures.1 n h ∙ ap (λ (x : Bytes). min (get_or c.args.limits.now (place_in n ws) 0) (pick (among n (split 44 x)) (above (int_in c.args.range.high)) numbers)) e)
