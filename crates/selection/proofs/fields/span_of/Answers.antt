-- `selection::fields::span_of` meets its contract.
use Rattle.selection.proofs.Marking.{span-behind, span_none, span-all}
use Rattle.selection.proofs.fields.span_of.Goals as goal

pub returns-then-s-start : goal.returns-then-s-start
returns-then-s-start c =
    span-behind c.args.s.now c.args.start c.args.end c.if-s-start.true

pub returns-then-end-start : goal.returns-then-end-start
returns-then-end-start c =
    span_none c.args.s.now c.args.start c.args.end c.if-end-start.true

pub returns-then-s-end : goal.returns-then-s-end
returns-then-s-end c =
    span-all c.args.s.now c.args.start c.args.end c.if-s-end.true
