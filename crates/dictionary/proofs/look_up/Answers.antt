-- `dictionary::look_up` meets its contract: what the table says of each tag is what the rules say.
use Rattle.dictionary.proofs.Typing.{rows_few}
use Rattle.dictionary.proofs.Knowing.{knows}
use Rattle.records.specs.Walk.{record_in}
use Rattle.terms.specs.Entries.{terms_of}
use lib.ListN.{take}
use Rattle.dictionary.proofs.look_up.Goals as goal

pub find-requires : goal.find-requires
find-requires c =
    c.requires.dictionary.table

pub returns : goal.returns
returns c =
    knows (record_in c.args.d.now) c.args.r.from c.args.r.next (terms_of c.args.d.now (take c.args.r.table.count c.args.entries.now)) c.requires.dictionary.terms (rows_few c.args.d.now c.requires.described) c.requires.dictionary.begins c.requires.dictionary.within c.args.name.now c.find.result c.find.ensures
