-- `numbering::types::name_listed` meets its contract: the names stand in the first word.
use native.Mathlib.Omega.{arith}
use mathlib.Core.Path.{sym, ap, ◌∙◌}
use lib.ListN.{length}
use lib.Seq.{length-take-le}
use Rattle.format.specs.Bytes.{Bytes, any, among}
use Rattle.format.specs.Words.{is_gap, not_gap, split}
use Rattle.format.specs.Rules.{auto}
use Rattle.words.specs.Spans.{span}
use Rattle.words.proofs.Finding.{run-le, first-span}
use Rattle.records.specs.Walk.{record_in}
use Rattle.numbering.proofs.types.name_listed.Goals as goal

pub slice_bounds-t-count : goal.slice_bounds-t-count
slice_bounds-t-count c =
    omega (arith, c.gap_end.ensures, run-le is_gap c.args.s.now)

pub slice_bounds-t-start : goal.slice_bounds-t-start
slice_bounds-t-start c =
    omega (arith, c.gap_end.ensures, run-le is_gap c.args.s.now)

pub slice_bounds-part_listed-end : goal.slice_bounds-part_listed-end
slice_bounds-part_listed-end c =
    let t = span c.gap_end.result (length c.args.s.now) c.args.s.now in
    sym (length-take-le c.word_end-e.result t (omega (arith, c.word_end-e.ensures, run-le not_gap t)))

pub returns : goal.returns
returns c =
    c.part_listed.ensures ∙ ap (λ (x : Bytes). any (λ (n : Bytes). among n (auto (record_in c.args.d.now))) (split 44 x)) (first-span c.args.s.now c.gap_end.result c.word_end-e.result c.gap_end.ensures c.word_end-e.ensures)
