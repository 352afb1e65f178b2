use Rattle.totals.proofs.Specials.{special-start, special-more, special-end}
use Rattle.totals.proofs.parts.has_special_line.Goals as goal

pub loop-i-init : goal.loop-i-init
loop-i-init c =
    special-start c.args.s.now c.byte-found.result c.byte-found.ensures

pub loop-i-preserved : goal.loop-i-preserved
loop-i-preserved c =
    special-more _ c.loop-i.i c.loop-i.found c.loop-i.invariant c.loop-i-test.true

pub returns : goal.returns
returns c =
    special-end _ c.loop-i.i c.loop-i.found c.loop-i.invariant c.loop-i-test.false
