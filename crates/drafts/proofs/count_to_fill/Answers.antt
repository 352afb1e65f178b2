-- `drafts::count_to_fill` meets its contract: what is to fill, in two parts.
use borrow.Author.Rules.{rules}
use native.Mathlib.Omega.{arith}
use mathlib.Core.Bool.{not}
use Rattle.format.specs.Bytes.{Bytes, among}
use Rattle.format.specs.Rules.{mandatory, key}
use Rattle.records.specs.Walk.{record_in}
use Rattle.requests.specs.Pairs.{pairs_at}
use Rattle.dictionary.proofs.Granted.{mandatory-lists}
use Rattle.drafts.specs.Drafts.{is_given}
use Rattle.drafts.proofs.Listing.{key-lists}
use Rattle.drafts.proofs.Giving.{parts-few, toFill-parts}
use Rattle.drafts.proofs.count_to_fill.Goals as goal

pub overflow_add-result : goal.overflow_add-result
overflow_add-result c =
    let rules = record_in c.args.d.now in
    let new = pairs_at c.args.req.now c.args.from in
    omega (arith, c.mandatory_missing-m.ensures, c.key_missing-k.ensures, parts-few (λ (n : Bytes). not (is_given rules new n)) (λ (n : Bytes). not (among n (mandatory rules))) (mandatory rules) (key rules) (mandatory-lists c.args.d.now c.requires.described).few (key-lists c.args.d.now c.requires.described).few)

pub returns : goal.returns
returns c =
    let rules = record_in c.args.d.now in
    let new = pairs_at c.args.req.now c.args.from in
    omega (arith, c.mandatory_missing-m.ensures, c.key_missing-k.ensures, toFill-parts rules new)
