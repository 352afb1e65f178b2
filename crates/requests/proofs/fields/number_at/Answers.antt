-- `requests::fields::number_at` meets its contract: a text of two bytes.
use native.Mathlib.Omega.{arith}
use Rattle.requests.specs.Fields.{tag_no}
use Rattle.requests.proofs.Reading.{no_number, wrong-number, right-number}
use Rattle.requests.proofs.fields.number_at.Goals as goal

pub returns-in_err-p : goal.returns-in_err-p
returns-in_err-p c = rw c.from_residual.ensures (no_number c.args.req.now c.args.i (tag_no c.args.tag) c.in_err-p.ensures)

pub overflow_sub-p : goal.overflow_sub-p
overflow_sub-p c = omega (arith, c.in_ok-p.ensures.2.0)

pub returns-then-p-ne2 : goal.returns-then-p-ne2
returns-then-p-ne2 c = wrong-number c.args.req.now c.args.i (tag_no c.args.tag) c.in_ok-p.p c.in_ok-p.ensures c.if-p-ne2.true

pub returns : goal.returns
returns c = rw (c.byte-high.ensures, c.byte-low.ensures) (right-number c.args.req.now c.args.i (tag_no c.args.tag) c.in_ok-p.p c.in_ok-p.ensures c.if-p-ne2.false)
