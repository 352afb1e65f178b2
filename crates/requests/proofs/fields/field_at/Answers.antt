-- `requests::fields::field_at` meets its contract: a field is cut off by its head and its length.
use Prim.Native.Nat.{◌+◌, ◌*◌}
use native.Mathlib.Omega.{arith}
use mathlib.Core.Path.{refl}
use lib.ListN.{get_or}
use Rattle.requests.proofs.Tagging.{fields-end, head-cut-off, field_cut, field-short}
use Rattle.requests.proofs.fields.field_at.Goals as goal

pub returns-then-req-i : goal.returns-then-req-i
returns-then-req-i c =
    (fields-end c.args.req.now c.args.i c.if-req-i.true, c.if-req-i.true)

pub returns-then-req-i-lt3 : goal.returns-then-req-i-lt3
returns-then-req-i-lt3 c =
    (head-cut-off c.args.req.now c.args.i c.if-req-i.false c.if-req-i-lt3.true, c.if-req-i.false)

pub overflow_cast-high : goal.overflow_cast-high
overflow_cast-high c =
    omega (arith, c.type_inv.req (c.args.i + 1))

pub overflow_cast-low : goal.overflow_cast-low
overflow_cast-low c =
    omega (arith, c.type_inv.req (c.args.i + 2))

pub overflow_mul-len : goal.overflow_mul-len
overflow_mul-len c =
    omega (arith, c.type_inv.req (c.args.i + 1), c.type_inv.req (c.args.i + 2))

pub overflow_add-len : goal.overflow_add-len
overflow_add-len c =
    omega (arith, c.type_inv.req (c.args.i + 1), c.type_inv.req (c.args.i + 2))

pub returns-then-req-start : goal.returns-then-req-start
returns-then-req-start c =
    (field-short c.args.req.now c.args.i (get_or c.args.req.now (c.args.i + 1) 0 * 256 + get_or c.args.req.now (c.args.i + 2) 0) (omega arith) refl c.if-req-start.true, c.if-req-i.false)

pub returns : goal.returns
returns c =
    (field_cut c.args.req.now c.args.i (get_or c.args.req.now (c.args.i + 1) 0 * 256 + get_or c.args.req.now (c.args.i + 2) 0) (omega arith) refl c.if-req-start.false, omega arith, omega arith, omega arith)
