use native.Mathlib.Omega.{arith}
use mathlib.Core.Path.{refl, sym, ap, ◌∙◌}
use lib.ListN.{length}
use Rattle.format.specs.Bytes.{all}
use Rattle.records.proofs.Readings.{part-ended}
use Rattle.records.proofs.Steps.{steps, part-formed, record-blank, record-comment, record-field}
use Rattle.rules.specs.Members.{fits_in}
use Rattle.rules.proofs.Walking.{fits-here}
use Rattle.selection.proofs.Walking.{walk_start, walk-comment, walk-blank, walk_field, walk_end, walked_as}
use Rattle.selection.proofs.walks.list_found.Goals as goal

pub loop-bytes-init : goal.loop-bytes-init
loop-bytes-init c =
    (refl, refl, walk_start c.args.e.now c.args.p c.args.s.now c.args.list.now c.requires.1, c.requires.3)

pub slice_bounds-read_piece-count : goal.slice_bounds-read_piece-count
slice_bounds-read_piece-count c =
    c.loop-bytes.invariant.2.inside

pub slice_bounds-read_piece-start : goal.slice_bounds-read_piece-start
slice_bounds-read_piece-start c =
    c.loop-bytes.invariant.2.inside

pub read_piece-requires : goal.read_piece-requires
read_piece-requires c =
    record { s_value = part-ended c.args.s.now c.loop-bytes.i c.loop-bytes.invariant.2.readable; s_value_2 = part-formed c.args.s.now c.loop-bytes.i c.loop-bytes.invariant.2.readable }

pub overflow_add-i : goal.overflow_add-i
overflow_add-i c =
    let h = steps c.args.s.now c.loop-bytes.i c.read_piece.result c.loop-bytes.invariant.2.readable c.read_piece.ensures c.in-Comment.is in omega (arith, h.1.inside, c.requires.2)

pub loop-bytes-smaller-in-Comment : goal.loop-bytes-smaller-in-Comment
loop-bytes-smaller-in-Comment c =
    let h = steps c.args.s.now c.loop-bytes.i c.read_piece.result c.loop-bytes.invariant.2.readable c.read_piece.ensures c.in-Comment.is in omega (arith, h.1.inside, h.1.moves)

pub loop-bytes-preserved-in-Comment : goal.loop-bytes-preserved-in-Comment
loop-bytes-preserved-in-Comment c =
    let h = steps c.args.s.now c.loop-bytes.i c.read_piece.result c.loop-bytes.invariant.2.readable c.read_piece.ensures c.in-Comment.is in (c.loop-bytes.invariant.0, c.loop-bytes.invariant.1, walk-comment c.args.e.now c.args.p c.args.s.now c.args.list.now c.loop-bytes.set c.loop-bytes.fields c.loop-bytes.t.met c.loop-bytes.t.found c.loop-bytes.list c.loop-bytes.i c.loop-bytes.invariant.2 h.0 _ h.1, sym (ap (all (fits_in (length c.args.scratch.now))) (record-comment c.args.s.now c.loop-bytes.i h.0 _ h.1)) ∙ c.loop-bytes.invariant.3)

pub closed-t-requires : goal.closed-t-requires
closed-t-requires c =
    (omega (arith, c.requires.0.codes-long, c.requires.0.short), omega (arith, c.loop-bytes.invariant.2.few, c.loop-bytes.invariant.2.inside, c.requires.2), omega (arith, c.loop-bytes.invariant.2.fewer, c.loop-bytes.invariant.2.few, c.loop-bytes.invariant.2.inside, c.requires.2))

pub overflow_add-i-in-Blank : goal.overflow_add-i-in-Blank
overflow_add-i-in-Blank c =
    let h = steps c.args.s.now c.loop-bytes.i c.read_piece.result c.loop-bytes.invariant.2.readable c.read_piece.ensures c.in-Blank.is in omega (arith, h.1.inside, c.requires.2)

pub loop-bytes-smaller-in-Blank : goal.loop-bytes-smaller-in-Blank
loop-bytes-smaller-in-Blank c =
    let h = steps c.args.s.now c.loop-bytes.i c.read_piece.result c.loop-bytes.invariant.2.readable c.read_piece.ensures c.in-Blank.is in omega (arith, h.1.inside, h.1.moves)

pub loop-bytes-preserved-in-Blank : goal.loop-bytes-preserved-in-Blank
loop-bytes-preserved-in-Blank c =
    let h = steps c.args.s.now c.loop-bytes.i c.read_piece.result c.loop-bytes.invariant.2.readable c.read_piece.ensures c.in-Blank.is in (c.loop-bytes.invariant.0, c.closed-t.auto.list ∙ c.loop-bytes.invariant.1, walked_as c.args.e.now c.args.p c.args.s.now c.args.list.now 0 0 _ _ _ _ c.closed-t.result.met c.closed-t.result.found _ c.closed-t.ensures.0 c.closed-t.ensures.1 c.closed-t.ensures.2 (walk-blank c.args.e.now c.args.p c.args.s.now c.args.list.now c.loop-bytes.set c.loop-bytes.fields c.loop-bytes.t.met c.loop-bytes.t.found c.loop-bytes.list c.loop-bytes.i c.loop-bytes.invariant.2 c.requires.0 h.0 c.in-Blank.bytes h.1), sym (ap (all (fits_in (length c.args.scratch.now))) (record-blank c.args.s.now c.loop-bytes.i h.0 c.in-Blank.bytes h.1)) ∙ c.loop-bytes.invariant.3)

pub overflow_add-n : goal.overflow_add-n
overflow_add-n c =
    let h = steps c.args.s.now c.loop-bytes.i c.read_piece.result c.loop-bytes.invariant.2.readable c.read_piece.ensures c.in-Field.is in omega (arith, h.passed.inside, h.name-inside, c.requires.2)

pub overflow_add-v : goal.overflow_add-v
overflow_add-v c =
    let h = steps c.args.s.now c.loop-bytes.i c.read_piece.result c.loop-bytes.invariant.2.readable c.read_piece.ensures c.in-Field.is in omega (arith, h.passed.inside, h.value-inside, c.requires.2)

pub overflow_add-end : goal.overflow_add-end
overflow_add-end c =
    let h = steps c.args.s.now c.loop-bytes.i c.read_piece.result c.loop-bytes.invariant.2.readable c.read_piece.ensures c.in-Field.is in omega (arith, h.passed.inside, c.requires.2)

pub slice_bounds-with_field-end : goal.slice_bounds-with_field-end
slice_bounds-with_field-end c =
    let h = steps c.args.s.now c.loop-bytes.i c.read_piece.result c.loop-bytes.invariant.2.readable c.read_piece.ensures c.in-Field.is in omega (arith, h.passed.inside, h.name-inside)

pub slice_bounds-with_field-count-in-Field : goal.slice_bounds-with_field-count-in-Field
slice_bounds-with_field-count-in-Field c =
    let h = steps c.args.s.now c.loop-bytes.i c.read_piece.result c.loop-bytes.invariant.2.readable c.read_piece.ensures c.in-Field.is in omega (arith, h.value-inside)

pub slice_bounds-with_field-start-in-Field : goal.slice_bounds-with_field-start-in-Field
slice_bounds-with_field-start-in-Field c =
    let h = steps c.args.s.now c.loop-bytes.i c.read_piece.result c.loop-bytes.invariant.2.readable c.read_piece.ensures c.in-Field.is in omega (arith, h.value-inside)

pub slice_bounds-with_field-end-in-Field : goal.slice_bounds-with_field-end-in-Field
slice_bounds-with_field-end-in-Field c =
    let h = steps c.args.s.now c.loop-bytes.i c.read_piece.result c.loop-bytes.invariant.2.readable c.read_piece.ensures c.in-Field.is in omega (arith, h.passed.inside)

pub with_field-set-requires : goal.with_field-set-requires
with_field-set-requires c =
    let h = steps c.args.s.now c.loop-bytes.i c.read_piece.result c.loop-bytes.invariant.2.readable c.read_piece.ensures c.in-Field.is in let f = fits-here (length c.args.scratch.now) _ _ _ (record-field c.args.s.now c.loop-bytes.i c.in-Field.name c.in-Field.value c.in-Field.bytes h) c.loop-bytes.invariant.3 in (c.requires.0, omega (arith, f.0, c.loop-bytes.invariant.0))

pub overflow_add-fields : goal.overflow_add-fields
overflow_add-fields c =
    omega (arith, c.loop-bytes.invariant.2.few, c.loop-bytes.invariant.2.inside, c.requires.2)

pub loop-bytes-smaller : goal.loop-bytes-smaller
loop-bytes-smaller c =
    let h = steps c.args.s.now c.loop-bytes.i c.read_piece.result c.loop-bytes.invariant.2.readable c.read_piece.ensures c.in-Field.is in omega (arith, h.passed.inside, h.passed.moves)

pub loop-bytes-preserved : goal.loop-bytes-preserved
loop-bytes-preserved c =
    let h = steps c.args.s.now c.loop-bytes.i c.read_piece.result c.loop-bytes.invariant.2.readable c.read_piece.ensures c.in-Field.is in let f = fits-here (length c.args.scratch.now) _ _ _ (record-field c.args.s.now c.loop-bytes.i c.in-Field.name c.in-Field.value c.in-Field.bytes h) c.loop-bytes.invariant.3 in (c.with_field-set.auto.scratch ∙ c.loop-bytes.invariant.0, c.loop-bytes.invariant.1, walk_field c.args.e.now c.args.p c.args.s.now c.args.list.now c.loop-bytes.set c.loop-bytes.fields c.loop-bytes.t.met c.loop-bytes.t.found c.loop-bytes.list c.loop-bytes.i c.loop-bytes.invariant.2 c.in-Field.name c.in-Field.value c.in-Field.bytes h c.with_field-set.result c.with_field-set.ensures, f.1)

pub closed-r-requires : goal.closed-r-requires
closed-r-requires c =
    (omega (arith, c.requires.0.codes-long, c.requires.0.short), omega (arith, c.loop-bytes.invariant.2.few, c.loop-bytes.invariant.2.inside, c.requires.2), omega (arith, c.loop-bytes.invariant.2.fewer, c.loop-bytes.invariant.2.few, c.loop-bytes.invariant.2.inside, c.requires.2))

pub shape_of-scratch-in-End : goal.shape_of-scratch-in-End
shape_of-scratch-in-End c =
    c.loop-bytes.invariant.0

pub shape_of-list-in-End : goal.shape_of-list-in-End
shape_of-list-in-End c =
    c.closed-r.auto.list ∙ c.loop-bytes.invariant.1

pub returns-in-End : goal.returns-in-End
returns-in-End c =
    λ x k. let z = steps c.args.s.now c.loop-bytes.i c.read_piece.result c.loop-bytes.invariant.2.readable c.read_piece.ensures c.in-End.is in let w = walk_end c.args.e.now c.args.p c.args.s.now c.args.list.now c.loop-bytes.set c.loop-bytes.fields c.loop-bytes.t.met c.loop-bytes.t.found c.loop-bytes.list c.loop-bytes.i c.loop-bytes.invariant.2 c.requires.0 z x k in (c.closed-r.ensures.1 ∙ w.0, c.closed-r.ensures.2 ∙ w.1)

pub shape_of-scratch-in-Fault : goal.shape_of-scratch-in-Fault
shape_of-scratch-in-Fault c =
    c.loop-bytes.invariant.0

pub shape_of-list-in-Fault : goal.shape_of-list-in-Fault
shape_of-list-in-Fault c =
    c.loop-bytes.invariant.1

pub returns-in-Fault : goal.returns-in-Fault
returns-in-Fault c =
    absurd (steps c.args.s.now c.loop-bytes.i c.read_piece.result c.loop-bytes.invariant.2.readable c.read_piece.ensures c.in-Fault.is)
