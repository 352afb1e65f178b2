-- `drafts::key_missing` meets its contract: the key, if it is neither given nor mandatory.
use borrow.Author.Rules.{rules}
use native.Mathlib.Omega.{arith}
use mathlib.Core.Path.{◌∙◌}
use Rattle.format.specs.Numbering.{firsts}
use Rattle.format.specs.Rules.{mandatory, key}
use Rattle.records.specs.Walk.{record_in}
use Rattle.requests.specs.Pairs.{pairs_at}
use Rattle.drafts.specs.Giving.{onto}
use Rattle.drafts.proofs.Listing.{key-lists}
use Rattle.drafts.proofs.Giving.{names, key_left}
use Rattle.drafts.proofs.key_missing.Goals as goal

pub list-l-requires : goal.list-l-requires
list-l-requires c =
    (c.requires.described.0, key-lists c.args.d.now c.requires.described.0)

pub give_list-more-requires : goal.give_list-more-requires
give_list-more-requires c =
    record { listed = (key (record_in c.args.d.now), c.list-l.ensures); described = (c.requires.described.0, omega (arith, c.given_names-given.auto.scratch, c.requires.described.1)) }

pub count_missing-requires : goal.count_missing-requires
count_missing-requires c =
    (c.requires.described.0, key-lists c.args.d.now c.requires.described.0, c.list-l.ensures)

pub returns : goal.returns
returns c =
    let rules = record_in c.args.d.now in
    let new = pairs_at c.args.req.now c.args.from in
    c.count_missing.ensures (onto (names rules new) (mandatory rules)) (c.give_list-more.ensures (key rules) (names rules new) c.list-l.ensures (c.given_names-given.ensures (key rules) c.list-l.ensures)) ∙ key_left rules new (firsts (key rules))
