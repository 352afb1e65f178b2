-- `requests::kinds::request_of` meets its contract: the length, the kind, the set, and then the fields of the kind.
use native.Mathlib.Omega.{arith}
use Rattle.requests.proofs.Kinding.{request-long, no_kind, no-set, wrong-kind, no-edit, an-edit}
use Rattle.requests.proofs.kinds.request_of.Goals as goal

pub returns-then-req-gt-BYTES : goal.returns-then-req-gt-BYTES
returns-then-req-gt-BYTES c = request-long c.args.req.now c.if-req-gt-BYTES.true

pub returns-in_err-kind : goal.returns-in_err-kind
returns-in_err-kind c = rw c.from_residual.ensures (no_kind c.args.req.now c.if-req-gt-BYTES.false c.in_err-kind.ensures)

pub returns-in_err-set : goal.returns-in_err-set
returns-in_err-set c = rw c.from_residual-in_err-set.ensures (no-set c.args.req.now c.if-req-gt-BYTES.false c.in_ok-kind.kind c.in_ok-kind.ensures c.in_err-set.ensures)

pub overflow_sub-kind : goal.overflow_sub-kind
overflow_sub-kind c = omega (arith, c.in_ok-kind.ensures.2.0)

pub returns-then-kind-ne1 : goal.returns-then-kind-ne1
returns-then-kind-ne1 c = wrong-kind c.args.req.now c.if-req-gt-BYTES.false c.in_ok-kind.kind c.in_ok-kind.ensures c.in_ok-set.set c.in_ok-set.ensures c.if-kind-ne1.true

pub returns-in_err-edit : goal.returns-in_err-edit
returns-in_err-edit c =
    rw c.from_residual-in_err-edit.ensures (no-edit c.args.req.now c.if-req-gt-BYTES.false c.in_ok-kind.kind c.in_ok-kind.ensures c.in_ok-set.set c.in_ok-set.ensures c.byte-number.result c.byte-number.ensures c.if-kind-ne1.false c.in_err-edit.ensures)

pub returns : goal.returns
returns c =
    an-edit c.args.req.now c.if-req-gt-BYTES.false c.in_ok-kind.kind c.in_ok-kind.ensures c.in_ok-set.set c.in_ok-set.ensures c.byte-number.result c.byte-number.ensures c.if-kind-ne1.false c.in_ok-edit.edit c.in_ok-edit.ensures
