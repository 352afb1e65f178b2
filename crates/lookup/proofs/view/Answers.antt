-- `lookup::view` meets its contract: the part at the place of the record.
use native.Mathlib.Omega.{arith}
use mathlib.Core.Path.{ap}
use Rattle.format.specs.Calls.{Viewed, number_in}
use Rattle.lookup.proofs.Buffers.{seen-inside, seen-number, seen-part}
use Rattle.lookup.proofs.view.Goals as goal

pub slice_bounds-result-count : goal.slice_bounds-result-count
slice_bounds-result-count c = c.in-Ok.ensures.1.0

pub slice_bounds-result-start : goal.slice_bounds-result-start
slice_bounds-result-start c =
    omega (arith, c.in-Ok.ensures.1.0, seen-inside c.args.buf.now c.args.used c.args.set.now c.args.row c.in-Ok.field-0 c.in-Ok.ensures)

pub slice_bounds-result-end : goal.slice_bounds-result-end
slice_bounds-result-end c =
    omega (arith, seen-inside c.args.buf.now c.args.used c.args.set.now c.args.row c.in-Ok.field-0 c.in-Ok.ensures)

pub returns-in-Ok : goal.returns-in-Ok
returns-in-Ok c = record {
  number = seen-number c.args.buf.now c.args.used c.args.set.now c.args.row c.in-Ok.field-0 c.in-Ok.ensures;
  part = seen-part c.args.buf.now c.args.used c.args.set.now c.args.row c.in-Ok.field-0 c.in-Ok.ensures;
}

pub returns-in-Err : goal.returns-in-Err
returns-in-Err c = record {
  number = ap (λ (w : Viewed). number_in w.result) c.in-Err.ensures.0;
  part = tt;
}
