use native.Mathlib.Omega.{arith}
use mathlib.Core.Path.{refl, sym, ◌∙◌}
use lib.ListN.{take}
use lib.Seq.{length-take-le}
use Rattle.format.specs.Numbering.{above, from}
use Rattle.format.specs.Rules.{auto}
use Rattle.numbers.specs.Meaning.{int_in}
use Rattle.words.specs.Spans.{not_byte}
use Rattle.words.proofs.Finding.{run-le}
use Rattle.records.specs.Walk.{record_in}
use Rattle.numbering.proofs.Counted.{parts_last, parts_more}
use Rattle.numbering.proofs.Bounding.{parts-start, parts-on, parts-end}
use Rattle.numbering.proofs.bounds.narrow_parts.Goals as goal

pub loop-rest-init : goal.loop-rest-init
loop-rest-init c =
    (omega arith, refl, refl, parts-start (auto (record_in c.args.d.now)) (from (int_in c.args.range.low)) (above (int_in c.args.range.high)) c.args.s.now c.args.floors.now c.args.limits.now c.requires.list_words_in_bounds.2)

pub slice_bounds-place_in-end-in-loop-rest-2 : goal.slice_bounds-place_in-end-in-loop-rest-2
slice_bounds-place_in-end-in-loop-rest-2 c =
    sym (length-take-le c.part_end-e.result c.loop-rest.rest.now (omega (arith, c.part_end-e.ensures, run-le (not_byte 44) c.loop-rest.rest.now)))

pub place_in-k-requires : goal.place_in-k-requires
place_in-k-requires c =
    (auto (record_in c.args.d.now), c.requires.listed)

pub narrow_place-requires : goal.narrow_place-requires
narrow_place-requires c =
    (omega (arith, c.loop-rest.invariant.1, c.requires.listed.count, c.requires.listed.few, c.requires.list_words_in_bounds.0), omega (arith, c.loop-rest.invariant.2, c.requires.listed.count, c.requires.listed.few, c.requires.list_words_in_bounds.1))

pub shape_of-floors-then-e-rest : goal.shape_of-floors-then-e-rest
shape_of-floors-then-e-rest c =
    c.narrow_place.auto.floors ∙ c.loop-rest.invariant.1

pub shape_of-limits-then-e-rest : goal.shape_of-limits-then-e-rest
shape_of-limits-then-e-rest c =
    c.narrow_place.auto.limits ∙ c.loop-rest.invariant.2

pub returns-then-e-rest : goal.returns-then-e-rest
returns-then-e-rest c =
    parts-end (auto (record_in c.args.d.now)) (from (int_in c.args.range.low)) (above (int_in c.args.range.high)) c.args.s.now c.args.floors.now c.args.limits.now c.loop-rest.rest.now c.loop-rest.floors c.loop-rest.limits c.loop-rest.invariant.3 (take c.part_end-e.result c.loop-rest.rest.now) c.args.l.words.count c.place_in-k.result (omega (arith, c.loop-rest.invariant.1, c.requires.listed.few, c.requires.list_words_in_bounds.0)) (omega (arith, c.loop-rest.invariant.2, c.requires.listed.few, c.requires.list_words_in_bounds.1)) c.requires.listed.count (c.place_in-k.ensures (auto (record_in c.args.d.now)) c.requires.listed) _ _ c.narrow_place.ensures.0 c.narrow_place.ensures.1 (parts_last c.loop-rest.rest.now c.part_end-e.result c.part_end-e.ensures c.if-e-rest.true)

pub overflow_add-rest : goal.overflow_add-rest
overflow_add-rest c =
    omega (arith, c.part_end-e.ensures, c.if-e-rest.false, run-le (not_byte 44) c.loop-rest.rest.now)

pub slice_bounds-rest-count : goal.slice_bounds-rest-count
slice_bounds-rest-count c =
    omega (arith, c.part_end-e.ensures, c.if-e-rest.false, run-le (not_byte 44) c.loop-rest.rest.now)

pub slice_bounds-rest-start : goal.slice_bounds-rest-start
slice_bounds-rest-start c =
    omega (arith, c.part_end-e.ensures, c.if-e-rest.false, run-le (not_byte 44) c.loop-rest.rest.now)

pub loop-rest-smaller : goal.loop-rest-smaller
loop-rest-smaller c =
    omega (arith, c.part_end-e.ensures, c.if-e-rest.false, run-le (not_byte 44) c.loop-rest.rest.now)

pub loop-rest-preserved : goal.loop-rest-preserved
loop-rest-preserved c =
    (omega arith, c.narrow_place.auto.floors ∙ c.loop-rest.invariant.1, c.narrow_place.auto.limits ∙ c.loop-rest.invariant.2, parts-on (auto (record_in c.args.d.now)) (from (int_in c.args.range.low)) (above (int_in c.args.range.high)) c.args.s.now c.args.floors.now c.args.limits.now c.loop-rest.rest.now c.loop-rest.floors c.loop-rest.limits c.loop-rest.invariant.3 (take c.part_end-e.result c.loop-rest.rest.now) c.args.l.words.count c.place_in-k.result (omega (arith, c.loop-rest.invariant.1, c.requires.listed.few, c.requires.list_words_in_bounds.0)) (omega (arith, c.loop-rest.invariant.2, c.requires.listed.few, c.requires.list_words_in_bounds.1)) c.requires.listed.count (c.place_in-k.ensures (auto (record_in c.args.d.now)) c.requires.listed) _ _ c.narrow_place.ensures.0 c.narrow_place.ensures.1 _ (parts_more c.loop-rest.rest.now c.part_end-e.result c.part_end-e.ensures (omega (arith, c.part_end-e.ensures, c.if-e-rest.false, run-le (not_byte 44) c.loop-rest.rest.now))))
