-- `requests::kinds::insert_at` meets its contract: the pairs, one or more.
use mathlib.Core.Path.{sym, ◌∙◌}
use borrow.Author.Tests.{not-true, not-false}
use Rattle.requests.proofs.Kinding.{insert-nothing, insert-fault, insert-reads}
use mathlib.Core.Bool.{not}
use mathlib.Core.Path.{ap}
use Rattle.requests.proofs.kinds.insert_at.Goals as goal

pub returns-then-req-i : goal.returns-then-req-i
returns-then-req-i c =
    insert-nothing c.args.req.now c.args.i c.if-req-i.true

pub returns-then-not-are_pairs : goal.returns-then-not-are_pairs
returns-then-not-are_pairs c =
    insert-fault c.args.req.now c.args.i (sym c.are_pairs.ensures ∙ not-true c.are_pairs.result (ap not c.if-not-are_pairs.true))

pub returns : goal.returns
returns c =
    insert-reads c.args.req.now c.args.i c.if-req-i.false (sym c.are_pairs.ensures ∙ not-false c.are_pairs.result (ap not c.if-not-are_pairs.false))
