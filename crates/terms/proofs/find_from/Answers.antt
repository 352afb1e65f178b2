use Prim.Native.Nat.{ℕ, ◌^◌}
use native.Mathlib.Omega.{arith}
use mathlib.Core.Path.{sym, ap, ◌∙◌}
use Rattle.terms.proofs.Search.{left-hit, left-miss, left-low, left-none, left-stop, not-before, not_behind}
use Rattle.terms.proofs.find_from.Goals as goal
use Rattle.terms.proofs.find_from.Goals.{in-Equal, in-Less, in-Greater+else-sorted}

pub loop-i-init : goal.loop-i-init
loop-i-init c =
    (c.requires.from_in_bounds.0, left-low c.args.s.now c.args.entries.now c.args.w.now c.args.from c.requires.from_in_bounds.0 c.requires.from_in_bounds.1)

pub compare-requires : goal.compare-requires
compare-requires c =
    (c.requires.entries c.loop-i.i c.loop-i-test.true, c.requires.print_value)

pub single-set-requires : goal.single-set-requires
single-set-requires c =
    c.tag.ensures.1

pub returns-then-sorted : goal.returns-then-sorted
returns-then-sorted c =
    left-stop c.args.s.now c.args.entries.now c.args.w.now (c.requires.rising c.if-sorted.true) c.loop-i.set c.loop-i.i c.loop-i.invariant.1 (sym c.compare.ensures ∙ c.in-Greater.is)

pub loop-i-preserved : goal.loop-i-preserved
loop-i-preserved c =
    let s = c.args.s.now in
    let l = c.args.entries.now in
    let w = c.args.w.now in
    let i = c.loop-i.i in
    elim c.match-compare.branch [
      | in-Equal v ↦ rw v.set-is (omega arith, left-hit s l w c.loop-i.set i c.loop-i-test.true c.loop-i.invariant.1 (sym c.compare.ensures ∙ v.in-Equal.is) v.single-set.result (v.single-set.ensures ∙ ap (λ (z : ℕ). 2 ^ z) v.tag.ensures.0))
      | in-Less v ↦ rw v.set-is (omega arith, left-miss s l w c.loop-i.set i c.loop-i-test.true c.loop-i.invariant.1 (not-before s l w i (sym c.compare.ensures ∙ v.in-Less.is)))
      | in-Greater+else-sorted v ↦ rw v.set-is (omega arith, left-miss s l w c.loop-i.set i c.loop-i-test.true c.loop-i.invariant.1 (not_behind s l w i (sym c.compare.ensures ∙ v.in-Greater.is)))
    ]

pub returns : goal.returns
returns c =
    left-none c.args.s.now c.args.entries.now c.args.w.now c.loop-i.set c.loop-i.i c.loop-i-test.false c.loop-i.invariant.1
