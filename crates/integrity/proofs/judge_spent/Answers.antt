-- `integrity::judge_spent` meets its contract: the text as it stands, or made dense.
use native.Mathlib.Omega.{arith}
use mathlib.Core.Path.{sym}
use lib.Seq.{length-take-le}
use Rattle.integrity.proofs.judge_spent.Goals as goal

pub slice_bounds-may_join-end-2 : goal.slice_bounds-may_join-end-2
slice_bounds-may_join-end-2 c =
    sym (length-take-le c.args.used c.args.text.now c.requires.0)

pub slice_bounds-judge-end-2 : goal.slice_bounds-judge-end-2
slice_bounds-judge-end-2 c =
    sym (length-take-le c.args.used c.args.text.now c.requires.0)

pub judge-requires : goal.judge-requires
judge-requires c =
    (omega (arith, length-take-le c.args.used c.args.text.now c.requires.0, c.requires.1))
