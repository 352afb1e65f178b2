-- `values::ends::compare` meets its contract: lengths that are unlike decide, and else the bytes.
use native.Mathlib.Omega.{arith}
use mathlib.Core.Path.{sym}
use Rattle.values.specs.Value.{value_from}
use Rattle.values.proofs.Likenesses.{likeness-shorter, likeness-longer}
use Rattle.values.proofs.ends.compare.Goals as goal

pub returns-then-n-y : goal.returns-then-n-y
returns-then-n-y c =
    sym (likeness-shorter (value_from c.args.a.now) (value_from c.args.b.now) (omega (arith, c.measure-x.ensures.size, c.measure-y.ensures.size, c.if-n-y.true)))

pub returns-then-y-n : goal.returns-then-y-n
returns-then-y-n c =
    sym (likeness-longer (value_from c.args.a.now) (value_from c.args.b.now) (omega (arith, c.measure-x.ensures.size, c.measure-y.ensures.size, c.if-y-n.true)))
