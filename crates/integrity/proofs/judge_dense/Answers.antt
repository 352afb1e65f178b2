-- `integrity::judge_dense` meets its contract: a text that reads has the number of the dense one.
use native.Mathlib.Omega.{arith}
use mathlib.Core.Path.{◌≡◌, sym, ap, subst, ◌∙◌}
use mathlib.Core.Bool.{true, ◌&&◌}
use borrow.Author.Tests.{not-true, not-false}
use lib.ListN.{length, take}
use lib.Seq.{length-take-le}
use Rattle.format.specs.Bytes.{Bytes, is_allowed, all}
use Rattle.format.specs.Lines.{is_ended}
use Rattle.format.proofs.Dense.{dense-text}
use Rattle.format.proofs.Judging.{text_no}
use Rattle.integrity.proofs.Staging.{text-no, text-ended, lines-no}
use Rattle.integrity.proofs.Densing.{number-dense}
use mathlib.Core.Bool.{not}
use Rattle.integrity.proofs.judge_dense.Goals as goal

pub slice_bounds-is_text-end-2 : goal.slice_bounds-is_text-end-2
slice_bounds-is_text-end-2 c =
    sym (length-take-le c.args.used c.args.text.now c.requires.0)

pub returns-then-not-is_text : goal.returns-then-not-is_text
returns-then-not-is_text c =
    text-no (take c.args.used c.args.text.now) (sym c.is_text.ensures ∙ not-true _ (ap not c.if-not-is_text.true))

pub slice_bounds-is_readable-end-2 : goal.slice_bounds-is_readable-end-2
slice_bounds-is_readable-end-2 c =
    sym (length-take-le c.args.used c.args.text.now c.requires.0)

pub returns-then-not-is_readable : goal.returns-then-not-is_readable
returns-then-not-is_readable c =
    lines-no (take c.args.used c.args.text.now) (sym c.is_text.ensures ∙ not-false _ (ap not c.if-not-is_text.false)) (sym c.is_readable.ensures ∙ not-true _ (ap not c.if-not-is_readable.true))

pub make_dense-n-requires : goal.make_dense-n-requires
make_dense-n-requires c =
    (c.requires.0, text-ended (take c.args.used c.args.text.now) (sym c.is_text.ensures ∙ not-false _ (ap not c.if-not-is_text.false)))

pub slice_bounds-judge_lines-end-2 : goal.slice_bounds-judge_lines-end-2
slice_bounds-judge_lines-end-2 c =
    c.make_dense-n.ensures.1 ∙ sym (ap length c.make_dense-n.ensures.2)

pub judge_lines-requires : goal.judge_lines-requires
judge_lines-requires c =
    record { s_value = subst (λ (s : Bytes). (all is_allowed s && is_ended s) ≡ true) (sym c.make_dense-n.ensures.2) (dense-text (take c.args.used c.args.text.now) (sym c.is_text.ensures ∙ not-false _ (ap not c.if-not-is_text.false))); s_len_bound = omega (arith, c.make_dense-n.ensures.0, c.make_dense-n.ensures.1 ∙ sym (ap length c.make_dense-n.ensures.2), c.requires.1) }

pub returns : goal.returns
returns c =
    c.judge_lines.ensures ∙ ap text_no c.make_dense-n.ensures.2 ∙ number-dense (take c.args.used c.args.text.now) (sym c.is_text.ensures ∙ not-false _ (ap not c.if-not-is_text.false)) (sym c.is_readable.ensures ∙ not-false _ (ap not c.if-not-is_readable.false))
