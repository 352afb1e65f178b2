-- `numbering::adding::mark` meets its contract: the places of one name more.
use Rattle.format.specs.Rules.{auto}
use Rattle.records.specs.Walk.{record_in}
use Rattle.numbering.proofs.Marking.{marked_by}
use Rattle.numbering.proofs.adding.mark.Goals as goal

pub returns : goal.returns
returns c =
    marked_by (auto (record_in c.args.d.now)) c.args.name.now c.args.seen c.places_in.result (c.places_in.ensures (auto (record_in c.args.d.now)) c.requires)
