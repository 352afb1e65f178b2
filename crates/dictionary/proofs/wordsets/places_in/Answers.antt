-- `dictionary::wordsets::places_in` meets its contract: the tags that the table has of the name are its places in the list.
use Rattle.dictionary.proofs.Finding.{places-found}
use Rattle.dictionary.proofs.wordsets.places_in.Goals as goal

pub find_joined-requires : goal.find_joined-requires
find_joined-requires c =
    c.requires.1.table

pub returns : goal.returns
returns c =
    λ ws h. places-found c.args.d.now ws c.args.entries.now c.args.sets.now c.args.w h c.args.name.now c.find_joined.result c.find_joined.ensures
