use native.Mathlib.Omega.{arith}
use mathlib.Core.Path.{refl, sym, ◌∙◌}
use borrow.Author.Tests.{not-true, not-false}
use lib.Seq.{length-take-le}
use Rattle.words.specs.Spans.{not_byte}
use Rattle.words.proofs.Finding.{run-le}
use Rattle.typedefs.proofs.Deciding.{part-bad, part-last, part-more}
use mathlib.Core.Bool.{not}
use mathlib.Core.Path.{ap}
use Rattle.typedefs.proofs.parts_named.Goals as goal

pub loop-rest-init : goal.loop-rest-init
loop-rest-init c = (omega arith, refl)

pub slice_bounds-is_name-end : goal.slice_bounds-is_name-end
slice_bounds-is_name-end c =
    sym (length-take-le c.part_end-e.result c.loop-rest.rest.now (omega (arith, c.part_end-e.ensures, run-le (not_byte 44) c.loop-rest.rest.now)))

pub is_name-requires : goal.is_name-requires
is_name-requires c =
    c.requires

pub returns-then-not-is_name : goal.returns-then-not-is_name
returns-then-not-is_name c =
    sym (c.loop-rest.invariant.1 ∙ part-bad c.loop-rest.rest.now c.part_end-e.result c.part_end-e.ensures (sym c.is_name.ensures ∙ not-true c.is_name.result (ap not c.if-not-is_name.true)))

pub returns-then-e-rest : goal.returns-then-e-rest
returns-then-e-rest c =
    sym (c.loop-rest.invariant.1 ∙ part-last c.loop-rest.rest.now c.part_end-e.result c.part_end-e.ensures (sym c.is_name.ensures ∙ not-false c.is_name.result (ap not c.if-not-is_name.false)) c.if-e-rest.true)

pub overflow_add-rest : goal.overflow_add-rest
overflow_add-rest c =
    omega (arith, c.part_end-e.ensures, c.if-e-rest.false, run-le (not_byte 44) c.loop-rest.rest.now)

pub slice_bounds-rest-count : goal.slice_bounds-rest-count
slice_bounds-rest-count c =
    omega (arith, c.part_end-e.ensures, c.if-e-rest.false, run-le (not_byte 44) c.loop-rest.rest.now)

pub slice_bounds-rest-start : goal.slice_bounds-rest-start
slice_bounds-rest-start c =
    omega (arith, c.part_end-e.ensures, c.if-e-rest.false, run-le (not_byte 44) c.loop-rest.rest.now)

pub loop-rest-smaller : goal.loop-rest-smaller
loop-rest-smaller c =
    omega (arith, c.part_end-e.ensures, c.if-e-rest.false, run-le (not_byte 44) c.loop-rest.rest.now)

pub loop-rest-preserved : goal.loop-rest-preserved
loop-rest-preserved c =
    (omega arith, c.loop-rest.invariant.1 ∙ part-more c.loop-rest.rest.now c.part_end-e.result c.part_end-e.ensures (sym c.is_name.ensures ∙ not-false c.is_name.result (ap not c.if-not-is_name.false)) (omega (arith, c.part_end-e.ensures, c.if-e-rest.false, run-le (not_byte 44) c.loop-rest.rest.now)))
