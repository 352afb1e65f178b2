-- `writing::put_field` meets its contract: the name, the colon and the space, the value's text and the newline, one behind the other.
use Prim.Native.Nat.{◌+◌}
use native.Mathlib.Omega.{arith}
use mathlib.Core.Path.{◌∙◌}
use lib.ListN.{length, length-set}
use Rattle.format.specs.Written.{indent}
use Rattle.writing.proofs.Texts.{written-length, length_over, length-headed, field-text}
use Rattle.writing.proofs.put_field.Goals as goal

pub put_bytes-requires : goal.put_bytes-requires
put_bytes-requires c =
    omega (arith, written-length c.args.name.now c.args.value.now)

pub bounds-out-n : goal.bounds-out-n
bounds-out-n c =
    omega (arith, length_over c.put_bytes.new.out c.args.out.now c.args.name.now (omega (arith, written-length c.args.name.now c.args.value.now)) c.put_bytes.ensures, written-length c.args.name.now c.args.value.now)

pub bounds-out-n-2 : goal.bounds-out-n-2
bounds-out-n-2 c =
    simp length-set (omega (arith, length_over c.put_bytes.new.out c.args.out.now c.args.name.now (omega (arith, written-length c.args.name.now c.args.value.now)) c.put_bytes.ensures, written-length c.args.name.now c.args.value.now))

pub put_value-end-requires : goal.put_value-end-requires
put_value-end-requires c =
    simp length-set (omega (arith, length_over c.put_bytes.new.out c.args.out.now c.args.name.now (omega (arith, written-length c.args.name.now c.args.value.now)) c.put_bytes.ensures, written-length c.args.name.now c.args.value.now))

pub bounds-out-end : goal.bounds-out-end
bounds-out-end c =
    omega (arith, length-headed c.put_value-end.new.out c.put_bytes.new.out (length c.args.name.now) (length c.args.name.now + 1) (length c.args.name.now + 2) 58 32 (indent c.args.value.now) c.put_value-end.ensures.1, length_over c.put_bytes.new.out c.args.out.now c.args.name.now (omega (arith, written-length c.args.name.now c.args.value.now)) c.put_bytes.ensures, written-length c.args.name.now c.args.value.now)

pub overflow_add-result : goal.overflow_add-result
overflow_add-result c =
    omega (arith, written-length c.args.name.now c.args.value.now)

pub shape_of-out : goal.shape_of-out
shape_of-out c =
    length-set c.put_value-end.new.out c.put_value-end.result 10 ∙ length-headed c.put_value-end.new.out c.put_bytes.new.out (length c.args.name.now) (length c.args.name.now + 1) (length c.args.name.now + 2) 58 32 (indent c.args.value.now) c.put_value-end.ensures.1 ∙ length_over c.put_bytes.new.out c.args.out.now c.args.name.now (omega (arith, written-length c.args.name.now c.args.value.now)) c.put_bytes.ensures

pub returns : goal.returns
returns c =
    (omega (arith, written-length c.args.name.now c.args.value.now), field-text c.args.out.now c.args.name.now c.args.value.now c.put_bytes.new.out c.put_value-end.new.out c.put_value-end.result (c.requires) c.put_bytes.ensures c.put_value-end.ensures.0 c.put_value-end.ensures.1)
