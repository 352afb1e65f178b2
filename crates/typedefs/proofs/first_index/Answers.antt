-- `typedefs::first_index` meets its contract: the first word of the text is looked for.
use native.Mathlib.Omega.{arith}
use mathlib.Core.Path.{sym, ap, ◌∙◌}
use lib.ListN.{length, drop}
use lib.Seq.{length-take-le}
use Rattle.format.specs.Bytes.{Bytes}
use Rattle.format.specs.Words.{is_gap, not_gap}
use Rattle.words.specs.Spans.{span}
use Rattle.typedefs.specs.Walks.{names_from}
use Rattle.typedefs.specs.Targets.{index_from}
use Rattle.words.proofs.Finding.{run-le, first-span}
use Rattle.typedefs.proofs.first_index.Goals as goal

pub slice_bounds-w-count : goal.slice_bounds-w-count
slice_bounds-w-count c =
    omega (arith, c.gap_end.ensures, run-le is_gap c.args.s.now)

pub slice_bounds-w-start : goal.slice_bounds-w-start
slice_bounds-w-start c =
    omega (arith, c.gap_end.ensures, run-le is_gap c.args.s.now)

pub slice_bounds-index_from-end : goal.slice_bounds-index_from-end
slice_bounds-index_from-end c =
    let w = span c.gap_end.result (length c.args.s.now) c.args.s.now in
    sym (length-take-le c.word_end-e.result w (omega (arith, c.word_end-e.ensures, run-le not_gap w)))

pub index_from-requires : goal.index_from-requires
index_from-requires c =
    c.requires

pub returns : goal.returns
returns c =
    c.index_from.ensures ∙ ap (λ (w : Bytes). index_from c.args.from w (drop c.args.from (names_from c.args.d.now 0))) (first-span c.args.s.now c.gap_end.result c.word_end-e.result c.gap_end.ensures c.word_end-e.ensures)
