use Prim.Native.Nat.{◌+◌, ◌-◌}
use native.Mathlib.Omega.{arith}
use mathlib.Core.Path.{refl, sym, ◌∙◌}
use lib.ListN.{drop_of_length-le}
use Rattle.lines.proofs.Cuts.{rest}
use Rattle.keys.proofs.Prints.{inside-rest}
use Rattle.keys.proofs.Pairs.{distinct-hit, distinct-miss}
use Rattle.keys.proofs.distinct_pairs.Goals as goal

pub loop-i-init : goal.loop-i-init
loop-i-init c = (omega arith, refl)

pub mark_among-requires : goal.mark_among-requires
mark_among-requires c =
    record { x_in_bounds = c.requires c.loop-i.i c.loop-i-test.true; inside = inside-rest c.args.s.now c.args.entries.now (c.loop-i.i + 1) c.requires }

pub returns-then-mark_among : goal.returns-then-mark_among
returns-then-mark_among c =
    let s = c.args.s.now in
    let l = c.args.entries.now in
    let e = rw (rest l (c.loop-i.i + 1)) at c.mark_among.ensures in
    sym (distinct-hit s l c.loop-i.i c.loop-i-test.true (sym e ∙ c.if-mark_among.true)) ∙ c.loop-i.invariant.1

pub loop-i-preserved : goal.loop-i-preserved
loop-i-preserved c =
    let s = c.args.s.now in
    let l = c.args.entries.now in
    let e = rw (rest l (c.loop-i.i + 1)) at c.mark_among.ensures in
    (omega arith, sym (distinct-miss s l c.loop-i.i c.loop-i-test.true (sym e ∙ c.if-mark_among.false)) ∙ c.loop-i.invariant.1)

pub returns : goal.returns
returns c =
    rw (drop_of_length-le c.args.entries.now c.loop-i-test.false) at c.loop-i.invariant.1
