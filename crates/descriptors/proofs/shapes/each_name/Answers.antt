use borrow.Author.Tests.{not-true, not-false}
use native.Mathlib.Omega.{arith}
use mathlib.Core.Path.{refl, sym, ap, ◌∙◌}
use lib.ListN.{length}
use Rattle.format.specs.Bytes.{all}
use Rattle.format.specs.Words.{words}
use Rattle.words.specs.Spans.{span}
use Rattle.words.proofs.Finding.{found, not_found}
use Rattle.descriptors.specs.Contents.{listable}
use Rattle.descriptors.proofs.Folds.{all_more, all-stop}
use mathlib.Core.Bool.{not}
use Rattle.descriptors.proofs.shapes.each_name.Goals as goal

pub loop-start-init : goal.loop-start-init
loop-start-init c = refl

pub returns-in_default : goal.returns-in_default
returns-in_default c =
    sym (c.loop-start.invariant ∙ ap (all (listable c.args.special)) (not_found c.loop-start.rest.now c.next_word.ensures c.in_default.is))

pub slice_bounds-is_listable-count : goal.slice_bounds-is_listable-count
slice_bounds-is_listable-count c =
    let f = found c.loop-start.rest.now c.next_word.ensures c.in-Some.is in omega (arith, f.0)

pub slice_bounds-is_listable-start : goal.slice_bounds-is_listable-start
slice_bounds-is_listable-start c =
    let f = found c.loop-start.rest.now c.next_word.ensures c.in-Some.is in omega (arith, f.0)

pub slice_bounds-is_listable-end : goal.slice_bounds-is_listable-end
slice_bounds-is_listable-end c =
    let f = found c.loop-start.rest.now c.next_word.ensures c.in-Some.is in f.1

pub returns-then-not-is_listable : goal.returns-then-not-is_listable
returns-then-not-is_listable c =
    let s = c.loop-start.rest.now in
    let f = found s c.next_word.ensures c.in-Some.is in
    sym (c.loop-start.invariant ∙ all-stop (listable c.args.special) (words s) (span c.in-Some.field-0.start c.in-Some.field-0.end s) (words (span c.in-Some.field-0.end (length s) s)) f.2 (sym c.is_listable.ensures ∙ not-true c.is_listable.result (ap not c.if-not-is_listable.true)))

pub slice_bounds-rest-count : goal.slice_bounds-rest-count
slice_bounds-rest-count c =
    let f = found c.loop-start.rest.now c.next_word.ensures c.in-Some.is in f.1

pub slice_bounds-rest-start : goal.slice_bounds-rest-start
slice_bounds-rest-start c =
    let f = found c.loop-start.rest.now c.next_word.ensures c.in-Some.is in f.1

pub loop-start-smaller : goal.loop-start-smaller
loop-start-smaller c =
    let f = found c.loop-start.rest.now c.next_word.ensures c.in-Some.is in omega (arith, f.0, f.1)

pub loop-start-preserved : goal.loop-start-preserved
loop-start-preserved c =
    let s = c.loop-start.rest.now in
    let f = found s c.next_word.ensures c.in-Some.is in
    c.loop-start.invariant ∙ all_more (listable c.args.special) (words s) (span c.in-Some.field-0.start c.in-Some.field-0.end s) (words (span c.in-Some.field-0.end (length s) s)) f.2 (sym c.is_listable.ensures ∙ not-false c.is_listable.result (ap not c.if-not-is_listable.false))
