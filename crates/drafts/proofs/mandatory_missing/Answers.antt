-- `drafts::mandatory_missing` meets its contract: of the mandatory names those that are not given.
use borrow.Author.Rules.{rules}
use mathlib.Core.Path.{◌∙◌}
use Rattle.format.specs.Numbering.{firsts}
use Rattle.format.specs.Rules.{mandatory}
use Rattle.records.specs.Walk.{record_in}
use Rattle.requests.specs.Pairs.{pairs_at}
use Rattle.dictionary.proofs.Granted.{mandatory-lists}
use Rattle.drafts.proofs.Giving.{names, mandatory-left}
use Rattle.drafts.proofs.mandatory_missing.Goals as goal

pub list-l-requires : goal.list-l-requires
list-l-requires c =
    (c.requires.described.0, mandatory-lists c.args.d.now c.requires.described.0)

pub count_missing-requires : goal.count_missing-requires
count_missing-requires c =
    (c.requires.described.0, mandatory-lists c.args.d.now c.requires.described.0, c.list-l.ensures)

pub returns : goal.returns
returns c =
    let rules = record_in c.args.d.now in
    let new = pairs_at c.args.req.now c.args.from in
    c.count_missing.ensures (names rules new) (c.given_names-given.ensures (mandatory rules) c.list-l.ensures) ∙ mandatory-left rules new (firsts (mandatory rules))
