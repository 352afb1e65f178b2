use native.Mathlib.Omega.{arith}
use mathlib.Core.Path.{refl, sym, ◌∙◌}
use lib.Seq.{length-take-le}
use Rattle.format.specs.Bytes.{Bytes, among}
use Rattle.format.specs.Rules.{auto}
use Rattle.words.specs.Spans.{not_byte}
use Rattle.words.proofs.Finding.{run-le}
use Rattle.records.specs.Walk.{record_in}
use Rattle.numbering.proofs.Counted.{any_here, any_last, any-more}
use Rattle.numbering.proofs.Naming.{placed-listed, unplaced}
use Rattle.numbering.proofs.types.part_listed.Goals as goal

pub loop-rest-init : goal.loop-rest-init
loop-rest-init c = (omega arith, refl)

pub slice_bounds-place_in-end-in-loop-rest-2 : goal.slice_bounds-place_in-end-in-loop-rest-2
slice_bounds-place_in-end-in-loop-rest-2 c =
    sym (length-take-le c.part_end-e.result c.loop-rest.rest.now (omega (arith, c.part_end-e.ensures, run-le (not_byte 44) c.loop-rest.rest.now)))

pub place_in-requires : goal.place_in-requires
place_in-requires c =
    (auto (record_in c.args.d.now), c.requires)

pub returns-then-place_in-l : goal.returns-then-place_in-l
returns-then-place_in-l c =
    sym (c.loop-rest.invariant.1 ∙ any_here (λ (n : Bytes). among n (auto (record_in c.args.d.now))) c.loop-rest.rest.now c.part_end-e.result c.part_end-e.ensures (placed-listed _ (auto (record_in c.args.d.now)) c.place_in.result (c.place_in.ensures (auto (record_in c.args.d.now)) c.requires) (omega (arith, c.if-place_in-l.true, c.requires.count))))

pub returns-then-e-rest : goal.returns-then-e-rest
returns-then-e-rest c =
    sym (c.loop-rest.invariant.1 ∙ any_last (λ (n : Bytes). among n (auto (record_in c.args.d.now))) c.loop-rest.rest.now c.part_end-e.result c.part_end-e.ensures (unplaced _ (auto (record_in c.args.d.now)) c.place_in.result (c.place_in.ensures (auto (record_in c.args.d.now)) c.requires) (omega (arith, c.if-place_in-l.false, c.requires.count))) c.if-e-rest.true)

pub overflow_add-rest : goal.overflow_add-rest
overflow_add-rest c =
    omega (arith, c.part_end-e.ensures, c.if-e-rest.false, run-le (not_byte 44) c.loop-rest.rest.now)

pub slice_bounds-rest-count : goal.slice_bounds-rest-count
slice_bounds-rest-count c =
    omega (arith, c.part_end-e.ensures, c.if-e-rest.false, run-le (not_byte 44) c.loop-rest.rest.now)

pub slice_bounds-rest-start : goal.slice_bounds-rest-start
slice_bounds-rest-start c =
    omega (arith, c.part_end-e.ensures, c.if-e-rest.false, run-le (not_byte 44) c.loop-rest.rest.now)

pub loop-rest-smaller : goal.loop-rest-smaller
loop-rest-smaller c =
    omega (arith, c.part_end-e.ensures, c.if-e-rest.false, run-le (not_byte 44) c.loop-rest.rest.now)

pub loop-rest-preserved : goal.loop-rest-preserved
loop-rest-preserved c =
    (omega arith, c.loop-rest.invariant.1 ∙ any-more (λ (n : Bytes). among n (auto (record_in c.args.d.now))) c.loop-rest.rest.now c.part_end-e.result c.part_end-e.ensures (unplaced _ (auto (record_in c.args.d.now)) c.place_in.result (c.place_in.ensures (auto (record_in c.args.d.now)) c.requires) (omega (arith, c.if-place_in-l.false, c.requires.count))) (omega (arith, c.part_end-e.ensures, c.if-e-rest.false, run-le (not_byte 44) c.loop-rest.rest.now)))
