-- `enums::look_up` meets its contract: what the table says of a row's tag is what its text says.
use lib.ListN.{take}
use Rattle.terms.specs.Entries.{terms_of}
use Rattle.enums.proofs.Rows.{finds}
use Rattle.enums.proofs.look_up.Goals as goal

pub find-requires : goal.find-requires
find-requires c =
    c.requires.table

pub returns : goal.returns
returns c =
    finds c.args.d.now c.args.texts.now c.args.symbols.from c.args.value.now c.args.symbols.next (terms_of c.args.d.now (take c.args.symbols.table.count c.args.entries.now)) c.requires.short (c.requires.terms c.args.value.now) c.find.result c.find.ensures
