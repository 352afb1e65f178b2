-- `typing::kinds::type_of` meets its contract.
use mathlib.Core.Path.{sym, ◌∙◌}
use native.Mathlib.Omega.{arith}
use Rattle.format.specs.Words.{is_gap}
use Rattle.words.proofs.Finding.{run-le}
use Rattle.typing.proofs.TypeHeads.{head-le, told-enum-type, told-plain-type}
use Rattle.typing.proofs.kinds.type_of.Goals as goal

pub slice_bounds-head_end-count : goal.slice_bounds-head_end-count
slice_bounds-head_end-count c =
    omega (arith, run-le is_gap c.args.s.now, c.gap_end-start.ensures)

pub slice_bounds-head_end-start : goal.slice_bounds-head_end-start
slice_bounds-head_end-start c =
    omega (arith, run-le is_gap c.args.s.now, c.gap_end-start.ensures)

pub overflow_add-end : goal.overflow_add-end
overflow_add-end c =
    omega (arith, head-le c.args.s.now c.gap_end-start.result c.head_end.result c.gap_end-start.ensures c.head_end.ensures)

pub slice_bounds-same_bytes-count : goal.slice_bounds-same_bytes-count
slice_bounds-same_bytes-count c =
    omega (arith, head-le c.args.s.now c.gap_end-start.result c.head_end.result c.gap_end-start.ensures c.head_end.ensures)

pub slice_bounds-same_bytes-start : goal.slice_bounds-same_bytes-start
slice_bounds-same_bytes-start c =
    omega (arith, head-le c.args.s.now c.gap_end-start.result c.head_end.result c.gap_end-start.ensures c.head_end.ensures)

pub slice_bounds-same_bytes-end : goal.slice_bounds-same_bytes-end
slice_bounds-same_bytes-end c =
    omega (arith, head-le c.args.s.now c.gap_end-start.result c.head_end.result c.gap_end-start.ensures c.head_end.ensures)

pub enum_type-requires : goal.enum_type-requires
enum_type-requires c =
    (omega (arith, head-le c.args.s.now c.gap_end-start.result c.head_end.result c.gap_end-start.ensures c.head_end.ensures))

pub returns-then-same_bytes : goal.returns-then-same_bytes
returns-then-same_bytes c =
    told-enum-type c.args.s.now c.gap_end-start.result c.head_end.result c.gap_end-start.ensures c.head_end.ensures (sym c.same_bytes.ensures ∙ c.if-same_bytes.true) c.enum_type.ensures

pub returns-else-same_bytes : goal.returns-else-same_bytes
returns-else-same_bytes c =
    told-plain-type c.args.s.now c.gap_end-start.result c.head_end.result c.gap_end-start.ensures c.head_end.ensures (sym c.same_bytes.ensures ∙ c.if-same_bytes.false) c.plain_type.ensures
