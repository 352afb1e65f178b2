-- `descriptors::shapes::is_taken` meets its contract: the first word of the text is looked for.
use native.Mathlib.Omega.{arith}
use mathlib.Core.Path.{sym, ap, ◌∙◌}
use lib.ListN.{length, take}
use lib.Seq.{length-take-le}
use Rattle.format.specs.Bytes.{Bytes, among}
use Rattle.format.specs.Words.{is_gap, not_gap}
use Rattle.words.specs.Spans.{span}
use Rattle.descriptors.specs.Names.{names_at}
use Rattle.words.proofs.Finding.{run-le, first-span}
use Rattle.descriptors.proofs.shapes.is_taken.Goals as goal

pub slice_bounds-w-count : goal.slice_bounds-w-count
slice_bounds-w-count c =
    omega (arith, c.gap_end.ensures, run-le is_gap c.args.t.now)

pub slice_bounds-w-start : goal.slice_bounds-w-start
slice_bounds-w-start c =
    omega (arith, c.gap_end.ensures, run-le is_gap c.args.t.now)

pub slice_bounds-is_named-end : goal.slice_bounds-is_named-end
slice_bounds-is_named-end c =
    let w = span c.gap_end.result (length c.args.t.now) c.args.t.now in
    sym (length-take-le c.word_end-e.result w (omega (arith, c.word_end-e.ensures, run-le not_gap w)))

pub returns : goal.returns
returns c =
    let t = c.args.t.now in
    let a = c.gap_end.result in
    let e = c.word_end-e.result in
    let names = names_at c.args.s.now c.args.starts.now c.args.ends.now in
    ◌∙◌ {b = among (take e (span a (length t) t)) names} c.is_named.ensures (ap (λ (w : Bytes). among w names) (first-span t a e c.gap_end.ensures c.word_end-e.ensures))
