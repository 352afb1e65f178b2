-- `rules::tables::places` meets its contract: what is found, or nothing where the name is none of the words.
use mathlib.Core.Path.{sym, ◌∙◌}
use Rattle.rules.proofs.Fields.{no-places}
use Rattle.rules.proofs.tables.places.Goals as goal

pub returns-then-listed : goal.returns-then-listed
returns-then-listed c =
    λ ws h e. c.places_in.ensures ws h

pub returns : goal.returns
returns c =
    λ ws h e. no-places c.args.name.now ws (sym e ∙ c.if-listed.false)
