-- `dictionary::wordsets::missing` meets its contract: place by place.
use Rattle.dictionary.proofs.Sets.{in-missing}
use Rattle.dictionary.proofs.wordsets.missing.Goals as goal

pub returns : goal.returns
returns c =
    λ k. in-missing k c.args.count c.all_places-all.result c.args.set c.all_places-all.ensures
