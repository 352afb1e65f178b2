-- `drafts::count_missing` meets its contract: the ones of the first places that are missing are the distinct words that are not given.
use Rattle.format.specs.Rules.{listed}
use Rattle.records.specs.Walk.{record_in}
use Rattle.drafts.proofs.Giving.{counted}
use Rattle.drafts.proofs.count_missing.Goals as goal

pub firsts-all-requires : goal.firsts-all-requires
firsts-all-requires c =
    (c.requires.0, c.requires.1)

pub missing-missing-requires : goal.missing-missing-requires
missing-missing-requires c =
    (counted c.args.d.now (listed c.args.name.now (record_in c.args.d.now)) c.args.l c.requires.2).0

pub returns : goal.returns
returns c =
    (counted c.args.d.now (listed c.args.name.now (record_in c.args.d.now)) c.args.l c.requires.2).1 c.args.given c.missing-missing.result c.firsts-all.result c.widened.result c.missing-missing.ensures c.firsts-all.ensures c.widened.ensures
