use Prim.Native.Nat.{◌+◌}
use native.Mathlib.Omega.{arith}
use mir.Syntax.{w64}
use mir.Val.{to_z}
use mathlib.Core.Path.{refl}
use Rattle.std.specs.Prelude.{Some, None}
use Rattle.records.proofs.Readings.{part-readable}
use Rattle.records.proofs.Named.{value-told}
use Rattle.totals.proofs.Walking.{adds-start, adds_fit, adds-end, adds-not, more-fits, adds-more, value-counted}
use Rattle.totals.proofs.adding.add_values.Goals as goal

pub loop-value-init : goal.loop-value-init
loop-value-init c =
    adds-start c.args.name.now c.args.s.now c.requires.0

pub next_named-requires : goal.next_named-requires
next_named-requires c =
    part-readable c.args.s.now c.loop-value.i c.loop-value.invariant.readable

pub returns-in_default : goal.returns-in_default
returns-in_default c =
    (adds-end c.args.name.now c.args.s.now (to_z w64 c.loop-value.sum-bits) c.loop-value.n c.loop-value.i c.loop-value.invariant (value-told c.args.s.now c.args.name.now c.loop-value.i c.next_named.result c.next_named.ensures c.in_default.is), adds_fit c.args.name.now c.args.s.now (to_z w64 c.loop-value.sum-bits) c.loop-value.n c.loop-value.i c.loop-value.invariant c.requires.1)

pub overflow_add-i : goal.overflow_add-i
overflow_add-i c =
    let h = value-told c.args.s.now c.args.name.now c.loop-value.i c.next_named.result c.next_named.ensures c.in-Some.is in
    omega (arith, h.value_there)

pub slice_bounds-read_value-count : goal.slice_bounds-read_value-count
slice_bounds-read_value-count c =
    let h = value-told c.args.s.now c.args.name.now c.loop-value.i c.next_named.result c.next_named.ensures c.in-Some.is in
    omega (arith, h.value_there)

pub slice_bounds-read_value-start : goal.slice_bounds-read_value-start
slice_bounds-read_value-start c =
    let h = value-told c.args.s.now c.args.name.now c.loop-value.i c.next_named.result c.next_named.ensures c.in-Some.is in
    omega (arith, h.value_there)

pub slice_bounds-read_value-end : goal.slice_bounds-read_value-end
slice_bounds-read_value-end c =
    let h = value-told c.args.s.now c.args.name.now c.loop-value.i c.next_named.result c.next_named.ensures c.in-Some.is in
    omega (arith, h.value_there)

pub returns-in_err-z : goal.returns-in_err-z
returns-in_err-z c =
    let h = value-told c.args.s.now c.args.name.now c.loop-value.i c.next_named.result c.next_named.ensures c.in-Some.is in
    rw c.from_residual.ensures (adds-not c.args.name.now c.args.s.now (to_z w64 c.loop-value.sum-bits) c.loop-value.n c.loop-value.i c.loop-value.invariant _ _ h (value-counted c.args.s.now (c.loop-value.i + c.in-Some.field-0.value) None c.in_err-z.ensures refl), tt)

pub add-sum-requires : goal.add-sum-requires
add-sum-requires c =
    let h = value-told c.args.s.now c.args.name.now c.loop-value.i c.next_named.result c.next_named.ensures c.in-Some.is in
    omega (arith, more-fits c.args.name.now c.args.s.now (to_z w64 c.loop-value.sum-bits) c.loop-value.n c.loop-value.i c.loop-value.invariant _ _ h c.in_ok-z.z (value-counted c.args.s.now (c.loop-value.i + c.in-Some.field-0.value) (Some c.in_ok-z.z) c.in_ok-z.ensures refl) c.requires.1)

pub overflow_add-n : goal.overflow_add-n
overflow_add-n c =
    omega (arith, c.loop-value.invariant.few, c.loop-value.invariant.inside)

pub overflow_add-i-in-loop-value : goal.overflow_add-i-in-loop-value
overflow_add-i-in-loop-value c =
    let h = value-told c.args.s.now c.args.name.now c.loop-value.i c.next_named.result c.next_named.ensures c.in-Some.is in
    omega (arith, h.inside)

pub loop-value-smaller : goal.loop-value-smaller
loop-value-smaller c =
    let h = value-told c.args.s.now c.args.name.now c.loop-value.i c.next_named.result c.next_named.ensures c.in-Some.is in
    omega (arith, h.moves, h.inside)

pub loop-value-preserved : goal.loop-value-preserved
loop-value-preserved c =
    let h = value-told c.args.s.now c.args.name.now c.loop-value.i c.next_named.result c.next_named.ensures c.in-Some.is in
    adds-more c.args.name.now c.args.s.now (to_z w64 c.loop-value.sum-bits) c.loop-value.n c.loop-value.i c.loop-value.invariant _ _ h c.in_ok-z.z (value-counted c.args.s.now (c.loop-value.i + c.in-Some.field-0.value) (Some c.in_ok-z.z) c.in_ok-z.ensures refl) c.requires.1 c.add-sum.result c.add-sum.ensures
