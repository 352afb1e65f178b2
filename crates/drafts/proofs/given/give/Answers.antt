-- `drafts::given::give` meets its contract: the places of one name more.
use Rattle.drafts.proofs.Giving.{gives_one}
use Rattle.drafts.proofs.given.give.Goals as goal

pub returns : goal.returns
returns c =
    gives_one c.args.d.now c.args.l c.args.name.now c.args.set c.places.result c.places.ensures
