use Rattle.format.specs.Refusals.{no_of}
use borrow.Author.Rules.{rules}
use Prim.Native.Nat.{◌-◌}
use native.Mathlib.Omega.{arith}
use mathlib.Core.Path.{refl, sym, ap, ◌∙◌}
use lib.ListN.{length, length-set}
use Rattle.format.specs.Bytes.{all}
use Rattle.records.specs.Walk.{record_in}
use Rattle.records.proofs.Readings.{part-ended}
use Rattle.records.proofs.Steps.{steps, part-formed, record-blank, record-comment, record-field}
use Rattle.rules.specs.Members.{fits_in}
use Rattle.rules.proofs.Walking.{walk_start, walk-comment, walk-blank, walk-count, walk_end, walk_field, few-mandatory, open_no, seen_start, seen-set, fits-here, field-met}
use Rattle.rules.proofs.members.judge_part.Goals as goal

pub look_up-empty-requires : goal.look_up-empty-requires
look_up-empty-requires c =
    c.requires.rulebook.tables-are

pub loop-size-init : goal.loop-size-init
loop-size-init c =
    (refl, refl, seen_start (record_in c.args.d.now) c.args.r.tables.names.from c.args.r.tables.names.next c.args.s.now _ (record { ordered = omega arith; inside = omega arith; stands = c.look_up-empty.ensures }), walk_start c.args.d.now c.args.r.tables.names.from (c.args.r.typed.symbols.next - c.args.r.tables.names.from) c.args.s.now c.start-t.result c.start-t.ensures c.requires.s_value.0, c.requires.s_value.2)

pub slice_bounds-read_piece-count : goal.slice_bounds-read_piece-count
slice_bounds-read_piece-count c =
    c.loop-size.invariant.3.inside

pub slice_bounds-read_piece-start : goal.slice_bounds-read_piece-start
slice_bounds-read_piece-start c =
    c.loop-size.invariant.3.inside

pub read_piece-requires : goal.read_piece-requires
read_piece-requires c =
    record { s_value = part-ended c.args.s.now c.loop-size.i c.loop-size.invariant.3.readable; s_value_2 = part-formed c.args.s.now c.loop-size.i c.loop-size.invariant.3.readable }

pub overflow_add-i : goal.overflow_add-i
overflow_add-i c =
    let h = steps c.args.s.now c.loop-size.i c.read_piece.result c.loop-size.invariant.3.readable c.read_piece.ensures c.in-Comment.is in omega (arith, h.1.inside, c.requires.s_value.1)

pub loop-size-smaller-in-Comment : goal.loop-size-smaller-in-Comment
loop-size-smaller-in-Comment c =
    let h = steps c.args.s.now c.loop-size.i c.read_piece.result c.loop-size.invariant.3.readable c.read_piece.ensures c.in-Comment.is in omega (arith, h.1.inside, h.1.moves)

pub loop-size-preserved-in-Comment : goal.loop-size-preserved-in-Comment
loop-size-preserved-in-Comment c =
    let h = steps c.args.s.now c.loop-size.i c.read_piece.result c.loop-size.invariant.3.readable c.read_piece.ensures c.in-Comment.is in
    (c.loop-size.invariant.0, c.loop-size.invariant.1, c.loop-size.invariant.2, walk-comment c.args.d.now c.args.r.tables.names.from (c.args.r.typed.symbols.next - c.args.r.tables.names.from) c.args.s.now c.loop-size.t c.loop-size.fields c.loop-size.typed (no_of c.loop-size.a.answer) c.loop-size.a.count c.loop-size.i c.loop-size.invariant.3 h.0 c.in-Comment.size h.1, sym (ap (all (fits_in (length c.args.scratch.now))) (record-comment c.args.s.now c.loop-size.i h.0 c.in-Comment.size h.1)) ∙ c.loop-size.invariant.4)

pub closed-a-requires : goal.closed-a-requires
closed-a-requires c =
    (few-mandatory c.args.d.now c.args.entries.now c.args.sets.now c.args.r c.requires.rulebook, omega (arith, c.loop-size.invariant.3.fewer, c.loop-size.invariant.3.inside, c.requires.s_value.1))

pub overflow_add-i-in-Blank : goal.overflow_add-i-in-Blank
overflow_add-i-in-Blank c =
    let h = steps c.args.s.now c.loop-size.i c.read_piece.result c.loop-size.invariant.3.readable c.read_piece.ensures c.in-Blank.is in omega (arith, h.1.inside, c.requires.s_value.1)

pub loop-size-smaller-in-Blank : goal.loop-size-smaller-in-Blank
loop-size-smaller-in-Blank c =
    let h = steps c.args.s.now c.loop-size.i c.read_piece.result c.loop-size.invariant.3.readable c.read_piece.ensures c.in-Blank.is in omega (arith, h.1.inside, h.1.moves)

pub loop-size-preserved-in-Blank : goal.loop-size-preserved-in-Blank
loop-size-preserved-in-Blank c =
    let h = steps c.args.s.now c.loop-size.i c.read_piece.result c.loop-size.invariant.3.readable c.read_piece.ensures c.in-Blank.is in
    (c.loop-size.invariant.0, c.loop-size.invariant.1, c.loop-size.invariant.2, walk-blank c.args.d.now c.args.r.tables.names.from (c.args.r.typed.symbols.next - c.args.r.tables.names.from) c.args.s.now c.loop-size.t c.loop-size.fields c.loop-size.typed (no_of c.loop-size.a.answer) c.loop-size.a.count c.loop-size.i c.loop-size.invariant.3 (no_of c.closed-a.result.answer) _ c.closed-a.result.count (open_no c.args.d.now c.args.entries.now c.args.sets.now c.args.r c.requires.rulebook c.loop-size.invariant.3.opened c.loop-size.t c.loop-size.invariant.3.tallied) c.closed-a.ensures.0 c.closed-a.ensures.1 h.0 c.in-Blank.size c.start-t-in-Blank.result c.start-t-in-Blank.ensures h.1, sym (ap (all (fits_in (length c.args.scratch.now))) (record-blank c.args.s.now c.loop-size.i h.0 c.in-Blank.size h.1)) ∙ c.loop-size.invariant.4)

pub bounds-seen-slot : goal.bounds-seen-slot
bounds-seen-slot c =
    omega (arith, c.loop-size.invariant.1)

pub overflow_add-end : goal.overflow_add-end
overflow_add-end c =
    let h = steps c.args.s.now c.loop-size.i c.read_piece.result c.loop-size.invariant.3.readable c.read_piece.ensures c.in-Field.is in omega (arith, h.passed.inside, h.name-inside, c.requires.s_value.1)

pub recall-x-requires : goal.recall-x-requires
recall-x-requires c =
    let h = steps c.args.s.now c.loop-size.i c.read_piece.result c.loop-size.invariant.3.readable c.read_piece.ensures c.in-Field.is in record { tables = c.requires.rulebook.tables-are; at_le_end = (omega arith, omega (arith, h.passed.inside, h.name-inside)); seen_at = c.loop-size.invariant.2 _ _ (omega arith) }

pub bounds-seen-slot-in-Field : goal.bounds-seen-slot-in-Field
bounds-seen-slot-in-Field c =
    omega (arith, c.loop-size.invariant.1)

pub overflow_add-v : goal.overflow_add-v
overflow_add-v c =
    let h = steps c.args.s.now c.loop-size.i c.read_piece.result c.loop-size.invariant.3.readable c.read_piece.ensures c.in-Field.is in omega (arith, h.passed.inside, h.value-inside, c.requires.s_value.1)

pub overflow_add-e : goal.overflow_add-e
overflow_add-e c =
    let h = steps c.args.s.now c.loop-size.i c.read_piece.result c.loop-size.invariant.3.readable c.read_piece.ensures c.in-Field.is in omega (arith, h.passed.inside, c.requires.s_value.1)

pub slice_bounds-value_met-end : goal.slice_bounds-value_met-end
slice_bounds-value_met-end c =
    c.requires.rulebook.tables-are.entries-long

pub slice_bounds-value_met-count-in-Field : goal.slice_bounds-value_met-count-in-Field
slice_bounds-value_met-count-in-Field c =
    let h = steps c.args.s.now c.loop-size.i c.read_piece.result c.loop-size.invariant.3.readable c.read_piece.ensures c.in-Field.is in omega (arith, h.value-inside)

pub slice_bounds-value_met-start-in-Field : goal.slice_bounds-value_met-start-in-Field
slice_bounds-value_met-start-in-Field c =
    let h = steps c.args.s.now c.loop-size.i c.read_piece.result c.loop-size.invariant.3.readable c.read_piece.ensures c.in-Field.is in omega (arith, h.value-inside)

pub slice_bounds-value_met-end-in-Field : goal.slice_bounds-value_met-end-in-Field
slice_bounds-value_met-end-in-Field c =
    let h = steps c.args.s.now c.loop-size.i c.read_piece.result c.loop-size.invariant.3.readable c.read_piece.ensures c.in-Field.is in omega (arith, h.passed.inside)

pub value_met-met-requires : goal.value_met-met-requires
value_met-met-requires c =
    let h = steps c.args.s.now c.loop-size.i c.read_piece.result c.loop-size.invariant.3.readable c.read_piece.ensures c.in-Field.is in
    let f = fits-here (length c.args.scratch.now) _ _ _ (record-field c.args.s.now c.loop-size.i c.in-Field.name c.in-Field.value c.in-Field.size h) c.loop-size.invariant.4 in
    record { typed = c.requires.rulebook.typed-are; s_in_bounds = omega (arith, f.0, c.loop-size.invariant.0) }

pub overflow_add-fields : goal.overflow_add-fields
overflow_add-fields c =
    omega (arith, c.loop-size.invariant.3.fewer, c.loop-size.invariant.3.inside, c.requires.s_value.1)

pub loop-size-smaller : goal.loop-size-smaller
loop-size-smaller c =
    let h = steps c.args.s.now c.loop-size.i c.read_piece.result c.loop-size.invariant.3.readable c.read_piece.ensures c.in-Field.is in omega (arith, h.passed.inside, h.passed.moves)

pub loop-size-preserved : goal.loop-size-preserved
loop-size-preserved c =
    let h = steps c.args.s.now c.loop-size.i c.read_piece.result c.loop-size.invariant.3.readable c.read_piece.ensures c.in-Field.is in
    let from = c.args.r.tables.names.from in
    let next = c.args.r.tables.names.next in
    let rules = record_in c.args.d.now in
    let f = fits-here (length c.args.scratch.now) _ _ _ (record-field c.args.s.now c.loop-size.i c.in-Field.name c.in-Field.value c.in-Field.size h) c.loop-size.invariant.4 in
    let ok = field-met c.args.d.now from next c.args.r.typed.symbols.from c.args.r.typed.symbols.next _ c.recall-x.result c.value_met-met.result c.recall-x.ensures c.requires.rulebook.from_is c.requires.rulebook.typed-are.symbols-are.begins c.requires.rulebook.within c.value_met-met.ensures in (
      c.value_met-met.auto.scratch ∙ c.loop-size.invariant.0,
      length-set c.loop-size.seen _ _ ∙ c.loop-size.invariant.1,
      seen-set rules from next c.args.s.now c.loop-size.seen _ _ c.loop-size.invariant.1 (omega arith) (record { ordered = omega arith; inside = omega (arith, h.passed.inside, h.name-inside); stands = c.recall-x.ensures }) c.loop-size.invariant.2,
      walk_field c.args.d.now from (c.args.r.typed.symbols.next - from) c.args.s.now c.loop-size.t c.loop-size.fields c.loop-size.typed (no_of c.loop-size.a.answer) c.loop-size.a.count c.loop-size.i c.loop-size.invariant.3 c.in-Field.name c.in-Field.value c.in-Field.size h next c.recall-x.result c.count-t.result c.value_met-met.result _ c.recall-x.ensures c.count-t.ensures ok refl,
      f.1,
    )

pub closed-b-requires : goal.closed-b-requires
closed-b-requires c =
    (few-mandatory c.args.d.now c.args.entries.now c.args.sets.now c.args.r c.requires.rulebook, omega (arith, c.loop-size.invariant.3.fewer, c.loop-size.invariant.3.inside, c.requires.s_value.1))

pub shape_of-scratch-in-End : goal.shape_of-scratch-in-End
shape_of-scratch-in-End c =
    c.loop-size.invariant.0

pub returns-in-End : goal.returns-in-End
returns-in-End c =
    let e = steps c.args.s.now c.loop-size.i c.read_piece.result c.loop-size.invariant.3.readable c.read_piece.ensures c.in-End.is in
    let from = c.args.r.tables.names.from in
    let m = c.args.r.typed.symbols.next - from in
    let q = open_no c.args.d.now c.args.entries.now c.args.sets.now c.args.r c.requires.rulebook c.loop-size.invariant.3.opened c.loop-size.t c.loop-size.invariant.3.tallied in (
      walk_end c.args.d.now from m c.args.s.now c.loop-size.t c.loop-size.fields c.loop-size.typed (no_of c.loop-size.a.answer) c.loop-size.a.count c.loop-size.i c.loop-size.invariant.3 (no_of c.closed-b.result.answer) _ c.closed-b.result.count q c.closed-b.ensures.0 c.closed-b.ensures.1 e (no_of c.with_types.result) c.with_types.ensures,
      walk-count c.args.d.now from m c.args.s.now c.loop-size.t c.loop-size.fields c.loop-size.typed (no_of c.loop-size.a.answer) c.loop-size.a.count c.loop-size.i c.loop-size.invariant.3 (no_of c.closed-b.result.answer) _ c.closed-b.result.count q c.closed-b.ensures.0 c.closed-b.ensures.1 e,
    )

pub shape_of-scratch-in-Fault : goal.shape_of-scratch-in-Fault
shape_of-scratch-in-Fault c =
    c.loop-size.invariant.0

pub returns-in-Fault : goal.returns-in-Fault
returns-in-Fault c =
    absurd (steps c.args.s.now c.loop-size.i c.read_piece.result c.loop-size.invariant.3.readable c.read_piece.ensures c.in-Fault.is)
