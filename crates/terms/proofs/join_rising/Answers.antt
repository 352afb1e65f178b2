use Prim.Native.Nat.{ℕ, ◌+◌, ◌-◌}
use native.Mathlib.Omega.{arith}
use mathlib.Core.Path.{◌≡◌, refl, ◌∙◌, subst}
use lib.ListN.{length-set}
use Rattle.terms.specs.Joined.{TagsFrom}
use Rattle.terms.proofs.Joining.{tags-end, joined-none, joined-more}
use Rattle.terms.proofs.join_rising.Goals as goal

pub loop-i-init : goal.loop-i-init
loop-i-init c =
    (omega arith, refl, tags-end c.args.s.now c.args.entries.now, joined-none c.args.s.now c.args.entries.now c.args.sets.now)

pub with_next-set-requires : goal.with_next-set-requires
with_next-set-requires c =
    let a = c.loop-i.invariant.0 in
    let b = c.loop-i-test.true in
    let e : c.loop-i.i ≡ c.loop-i.i - 1 + 1 = omega arith in
    record { entries = c.requires.entries; i_in_bounds = (omega arith, subst (λ (j : ℕ). TagsFrom c.args.s.now c.args.entries.now j c.loop-i.set) e c.loop-i.invariant.2) }

pub bounds-sets-i : goal.bounds-sets-i
bounds-sets-i c =
    let a = c.loop-i.invariant.0 in
    let b = c.loop-i.invariant.1 in
    let r = c.requires.entries_in_bounds in
    let d = c.loop-i-test.true in
    omega arith

pub loop-i-preserved : goal.loop-i-preserved
loop-i-preserved c =
    let a = c.loop-i.invariant.0 in
    let b = c.loop-i.invariant.1 in
    let r = c.requires.entries_in_bounds in
    let d = c.loop-i-test.true in
    (omega arith, length-set c.loop-i.sets (c.loop-i.i - 1) c.with_next-set.result ∙ b, c.with_next-set.ensures, joined-more c.args.s.now c.args.entries.now c.loop-i.sets c.loop-i.i (c.loop-i.i - 1) c.with_next-set.result (omega arith) (omega arith) c.loop-i.invariant.3 c.with_next-set.ensures)

pub shape_of-sets : goal.shape_of-sets
shape_of-sets c =
    c.loop-i.invariant.1

pub returns : goal.returns
returns c =
    λ i h. c.loop-i.invariant.3 i (omega arith) h
