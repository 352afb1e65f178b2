-- `rules::tables::look_up` meets its contract: the tags and the places that are found.
use mathlib.Core.Path.{◌∙◌}
use Rattle.format.specs.Rules.{mandatory, unique}
use Rattle.records.specs.Walk.{record_in}
use borrow.Author.Rules.{rules}
use Rattle.rules.proofs.tables.look_up.Goals as goal

pub returns : goal.returns
returns c =
    let rules = record_in c.args.d.now in
    record {
      tags = c.look_up-known.ensures;
      mandatory-at = c.places-mandatory.ensures (mandatory rules) c.requires.mandatory-are (c.has.ensures ∙ c.look_up-known.ensures.mandatory-is);
      unique-at = c.places-unique.ensures (unique rules) c.requires.unique-are (c.has-2.ensures ∙ c.look_up-known.ensures.unique-is);
    }
