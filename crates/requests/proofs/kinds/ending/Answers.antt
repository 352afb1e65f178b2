-- `requests::kinds::ending` meets its contract: the request goes on behind its last field, or ends there.
use Rattle.requests.proofs.Kinding.{goes_on, ends_there}
use Rattle.requests.proofs.kinds.ending.Goals as goal

pub returns-then-end-req : goal.returns-then-end-req
returns-then-end-req c =
    goes_on c.args.req.now c.args.edit c.args.end c.if-end-req.true

pub returns : goal.returns
returns c =
    ends_there c.args.req.now c.args.edit c.args.end c.requires c.if-end-req.false
