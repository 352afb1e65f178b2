-- `descriptors::shapes::head_of` meets its contract: the descriptor is well formed, and its name, decoded into the scratch, is none of those before it.
use Prim.Native.Nat.{◌+◌}
use native.Mathlib.Omega.{arith}
use mathlib.Core.Path.{ap, ◌∙◌}
use lib.ListN.{take}
use Rattle.format.specs.Pieces.{read_of}
use Rattle.format.specs.Records.{fields_of}
use Rattle.format.specs.Words.{first_word}
use Rattle.values.specs.Value.{value_from}
use Rattle.words.specs.Spans.{span}
use Rattle.descriptors.specs.Names.{names_at}
use Rattle.words.proofs.Decoded.{decoded-all, decoded-length, decoded-inside, scratch-length}
use Rattle.descriptors.proofs.Names.{name-inside, name-part, value-part}
use Rattle.descriptors.proofs.Judging.{fault-told, taken-told, new_told}
use borrow.Author.Tests.{not-true, not-false}
use mathlib.Core.Bool.{not}
use Rattle.descriptors.proofs.shapes.head_of.Goals as goal

pub slice_bounds-well_formed-count : goal.slice_bounds-well_formed-count
slice_bounds-well_formed-count c =
    c.requires.a_le_e.0

pub slice_bounds-well_formed-start : goal.slice_bounds-well_formed-start
slice_bounds-well_formed-start c =
    c.requires.a_le_e.0

pub slice_bounds-well_formed-end : goal.slice_bounds-well_formed-end
slice_bounds-well_formed-end c =
    c.requires.a_le_e.1

pub well_formed-requires : goal.well_formed-requires
well_formed-requires c =
    record { d_value = c.requires.s_value; d_value_2 = c.requires.s_value_2; value_bytes_in_bounds = c.requires.value_bytes_in_bounds }

pub returns-then-not-well_formed : goal.returns-then-not-well_formed
returns-then-not-well_formed c =
    (fault-told (fields_of (read_of (span c.args.a c.args.e c.args.s.now))) (names_at c.args.s.now c.args.starts.now c.args.ends.now) c.well_formed-2.result c.well_formed-2.ensures.0 (not-true c.well_formed-2.result (ap not c.if-not-well_formed.true)), c.well_formed-2.ensures.1)

pub slice_bounds-rec_value-count : goal.slice_bounds-rec_value-count
slice_bounds-rec_value-count c =
    c.requires.a_le_e.0

pub slice_bounds-rec_value-start : goal.slice_bounds-rec_value-start
slice_bounds-rec_value-start c =
    c.requires.a_le_e.0

pub slice_bounds-rec_value-end : goal.slice_bounds-rec_value-end
slice_bounds-rec_value-end c =
    c.requires.a_le_e.1

pub rec_value-v-requires : goal.rec_value-v-requires
rec_value-v-requires c =
    c.requires.s_value

pub overflow_add-start : goal.overflow_add-start
overflow_add-start c =
    omega (arith, name-inside c.args.s.now c.args.a c.args.e c.rec_value-v.result c.requires.a_le_e.0 c.requires.a_le_e.1 c.rec_value-v.ensures, c.rec_value-v.ensures.0)

pub overflow_add-end : goal.overflow_add-end
overflow_add-end c =
    omega (arith, name-inside c.args.s.now c.args.a c.args.e c.rec_value-v.result c.requires.a_le_e.0 c.requires.a_le_e.1 c.rec_value-v.ensures)

pub slice_bounds-copy_value-count : goal.slice_bounds-copy_value-count
slice_bounds-copy_value-count c =
    omega (arith, c.rec_value-v.ensures.0)

pub slice_bounds-copy_value-start : goal.slice_bounds-copy_value-start
slice_bounds-copy_value-start c =
    omega (arith, c.rec_value-v.ensures.0)

pub slice_bounds-copy_value-end : goal.slice_bounds-copy_value-end
slice_bounds-copy_value-end c =
    name-inside c.args.s.now c.args.a c.args.e c.rec_value-v.result c.requires.a_le_e.0 c.requires.a_le_e.1 c.rec_value-v.ensures

pub copy_value-n-requires : goal.copy_value-n-requires
copy_value-n-requires c =
    omega (arith, value-part c.args.s.now c.args.a c.args.e c.rec_value-v.result c.requires.a_le_e.0 c.requires.a_le_e.1 c.rec_value-v.ensures c.requires.s_value_2, c.requires.value_bytes_in_bounds, c.well_formed-2.ensures.1)

pub slice_bounds-is_taken-end : goal.slice_bounds-is_taken-end
slice_bounds-is_taken-end c =
    decoded-inside (value_from (span (c.args.a + c.rec_value-v.result.start) (c.args.a + c.rec_value-v.result.end) c.args.s.now)) c.well_formed-2.new.scratch c.copy_value-n.new.out c.copy_value-n.result c.copy_value-n.ensures.0 c.copy_value-n.ensures.1 (omega (arith, value-part c.args.s.now c.args.a c.args.e c.rec_value-v.result c.requires.a_le_e.0 c.requires.a_le_e.1 c.rec_value-v.ensures c.requires.s_value_2, c.requires.value_bytes_in_bounds, c.well_formed-2.ensures.1))

pub slice_bounds-is_taken-end-2 : goal.slice_bounds-is_taken-end-2
slice_bounds-is_taken-end-2 c =
    decoded-length (value_from (span (c.args.a + c.rec_value-v.result.start) (c.args.a + c.rec_value-v.result.end) c.args.s.now)) c.well_formed-2.new.scratch c.copy_value-n.new.out c.copy_value-n.result c.copy_value-n.ensures.0 c.copy_value-n.ensures.1

pub is_taken-requires : goal.is_taken-requires
is_taken-requires c =
    c.requires.inside

pub shape_of-scratch-then-is_taken : goal.shape_of-scratch-then-is_taken
shape_of-scratch-then-is_taken c =
    scratch-length (value_from (span (c.args.a + c.rec_value-v.result.start) (c.args.a + c.rec_value-v.result.end) c.args.s.now)) c.well_formed-2.new.scratch c.copy_value-n.new.out c.copy_value-n.result c.copy_value-n.ensures.0 c.copy_value-n.ensures.1 (omega (arith, value-part c.args.s.now c.args.a c.args.e c.rec_value-v.result c.requires.a_le_e.0 c.requires.a_le_e.1 c.rec_value-v.ensures c.requires.s_value_2, c.requires.value_bytes_in_bounds, c.well_formed-2.ensures.1)) ∙ c.well_formed-2.ensures.1

pub returns-then-is_taken : goal.returns-then-is_taken
returns-then-is_taken c =
    (taken-told (fields_of (read_of (span c.args.a c.args.e c.args.s.now))) (names_at c.args.s.now c.args.starts.now c.args.ends.now) c.well_formed-2.result c.well_formed-2.ensures.0 c.is_taken.result (first_word (take c.copy_value-n.result c.copy_value-n.new.out)) c.is_taken.ensures (ap first_word (decoded-all (value_from (span (c.args.a + c.rec_value-v.result.start) (c.args.a + c.rec_value-v.result.end) c.args.s.now)) c.well_formed-2.new.scratch c.copy_value-n.new.out c.copy_value-n.result c.copy_value-n.ensures.0 c.copy_value-n.ensures.1) ∙ name-part c.args.s.now c.args.a c.args.e c.rec_value-v.result c.requires.a_le_e.0 c.requires.a_le_e.1 c.rec_value-v.ensures) (not-false c.well_formed-2.result (ap not c.if-not-well_formed.false)) c.if-is_taken.true, scratch-length (value_from (span (c.args.a + c.rec_value-v.result.start) (c.args.a + c.rec_value-v.result.end) c.args.s.now)) c.well_formed-2.new.scratch c.copy_value-n.new.out c.copy_value-n.result c.copy_value-n.ensures.0 c.copy_value-n.ensures.1 (omega (arith, value-part c.args.s.now c.args.a c.args.e c.rec_value-v.result c.requires.a_le_e.0 c.requires.a_le_e.1 c.rec_value-v.ensures c.requires.s_value_2, c.requires.value_bytes_in_bounds, c.well_formed-2.ensures.1)) ∙ c.well_formed-2.ensures.1)

pub shape_of-scratch : goal.shape_of-scratch
shape_of-scratch c =
    scratch-length (value_from (span (c.args.a + c.rec_value-v.result.start) (c.args.a + c.rec_value-v.result.end) c.args.s.now)) c.well_formed-2.new.scratch c.copy_value-n.new.out c.copy_value-n.result c.copy_value-n.ensures.0 c.copy_value-n.ensures.1 (omega (arith, value-part c.args.s.now c.args.a c.args.e c.rec_value-v.result c.requires.a_le_e.0 c.requires.a_le_e.1 c.rec_value-v.ensures c.requires.s_value_2, c.requires.value_bytes_in_bounds, c.well_formed-2.ensures.1)) ∙ c.well_formed-2.ensures.1

pub returns : goal.returns
returns c =
    ((new_told (fields_of (read_of (span c.args.a c.args.e c.args.s.now))) (names_at c.args.s.now c.args.starts.now c.args.ends.now) c.well_formed-2.result c.well_formed-2.ensures.0 c.is_taken.result (first_word (take c.copy_value-n.result c.copy_value-n.new.out)) c.is_taken.ensures (ap first_word (decoded-all (value_from (span (c.args.a + c.rec_value-v.result.start) (c.args.a + c.rec_value-v.result.end) c.args.s.now)) c.well_formed-2.new.scratch c.copy_value-n.new.out c.copy_value-n.result c.copy_value-n.ensures.0 c.copy_value-n.ensures.1) ∙ name-part c.args.s.now c.args.a c.args.e c.rec_value-v.result c.requires.a_le_e.0 c.requires.a_le_e.1 c.rec_value-v.ensures) (not-false c.well_formed-2.result (ap not c.if-not-well_formed.false)) c.if-is_taken.false, omega (arith, c.rec_value-v.ensures.0), name-inside c.args.s.now c.args.a c.args.e c.rec_value-v.result c.requires.a_le_e.0 c.requires.a_le_e.1 c.rec_value-v.ensures, name-part c.args.s.now c.args.a c.args.e c.rec_value-v.result c.requires.a_le_e.0 c.requires.a_le_e.1 c.rec_value-v.ensures), scratch-length (value_from (span (c.args.a + c.rec_value-v.result.start) (c.args.a + c.rec_value-v.result.end) c.args.s.now)) c.well_formed-2.new.scratch c.copy_value-n.new.out c.copy_value-n.result c.copy_value-n.ensures.0 c.copy_value-n.ensures.1 (omega (arith, value-part c.args.s.now c.args.a c.args.e c.rec_value-v.result c.requires.a_le_e.0 c.requires.a_le_e.1 c.rec_value-v.ensures c.requires.s_value_2, c.requires.value_bytes_in_bounds, c.well_formed-2.ensures.1)) ∙ c.well_formed-2.ensures.1)
