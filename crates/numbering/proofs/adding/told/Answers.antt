-- `numbering::adding::told` meets its contract.
use Rattle.numbering.proofs.Stepping.{told_none, told_text, told-long}
use Rattle.numbering.proofs.adding.told.Goals as goal

pub returns-in_default : goal.returns-in_default
returns-in_default c =
    λ ws s out h few room. told_none ws s out c.args.r h c.in_default.is

pub returns-then-sum : goal.returns-then-sum
returns-then-sum c =
    λ ws s out h few room. told_text ws s out c.args.r h c.in-Some.sum c.in-Some.is few room c.if-sum.true

pub returns-else-sum : goal.returns-else-sum
returns-else-sum c =
    λ ws s out h few room. told-long ws s out c.args.r h c.in-Some.sum c.in-Some.is c.if-sum.false
