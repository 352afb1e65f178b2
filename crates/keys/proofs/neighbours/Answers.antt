use Prim.Native.Nat.{◌-◌, ◌/◌}
use native.Mathlib.Omega.{arith}
use mathlib.Core.Path.{sym, ◌∙◌}
use borrow.Author.Count.{below_more}
use lib.ListN.{get_or}
use Rattle.keys.specs.Marks.{mark_at}
use Rattle.keys.specs.Order.{value_in}
use Rattle.keys.proofs.Order.{ranked-same}
use Rattle.keys.proofs.Apart.{rising-distinct, twins-distinct}
use Rattle.keys.proofs.neighbours.Goals as goal

pub loop-i-init : goal.loop-i-init
loop-i-init c = (omega arith, λ q h g. absurd (omega arith))

pub compare_entries-requires : goal.compare_entries-requires
compare_entries-requires c =
    (c.requires (c.loop-i.i - 1) (omega arith), c.requires c.loop-i.i c.loop-i-test.true)

pub returns-in-Equal : goal.returns-in-Equal
returns-in-Equal c =
    let s = c.args.s.now in
    let l = c.args.entries.now in
    let i = c.loop-i.i in
    twins-distinct (mark_at s) l i c.loop-i-test.true c.loop-i.invariant.0 (ranked-same (get_or l (i - 1) 0 / 65536) (get_or l i 0 / 65536) (value_in (mark_at s (get_or l (i - 1) 0))) (value_in (mark_at s (get_or l i 0))) (sym c.compare_entries.ensures ∙ c.in-Equal.is))

pub loop-i-preserved : goal.loop-i-preserved
loop-i-preserved c =
    (omega arith, below_more _ _ c.loop-i.invariant.1 (λ h. sym c.compare_entries.ensures ∙ c.in-Less.is))

pub returns : goal.returns
returns c =
    rising-distinct (mark_at c.args.s.now) c.args.entries.now (λ q h. c.loop-i.invariant.1 q (omega arith))
