-- `descriptors::shapes::rec_value` meets its contract: the first `%rec` field is found, or there is none and no name.
use Rattle.format.specs.Bytes.{text}
use Rattle.records.proofs.Fields.{field_told}
use Rattle.descriptors.proofs.Names.{rec-found, rec-missing}
use Rattle.descriptors.proofs.shapes.rec_value.Goals as goal

pub returns-in-Some : goal.returns-in-Some
returns-in-Some c =
    rec-found c.args.d.now c.in-Some.field-0.start c.in-Some.field-0.value c.in-Some.field-0.end (field_told (text "%rec") c.args.d.now 0 c.find_field.result (c.requires) c.find_field.ensures c.in-Some.is)

pub returns-in-None : goal.returns-in-None
returns-in-None c =
    rec-missing c.args.d.now (field_told (text "%rec") c.args.d.now 0 c.find_field.result (c.requires) c.find_field.ensures c.in-None.is)
