use Prim.Native.Nat.{ℕ, ◌-◌, ◌<◌}
use native.Mathlib.Omega.{arith}
use mathlib.Core.Path.{sym, ap, ◌∙◌}
use Rattle.std.specs.Ordering.{is_gt}
use mathlib.Core.Bool.{false≢true}
use borrow.Author.Count.{below_more}
use lib.ListN.{get_or}
use Rattle.terms.specs.Entries.{word_at}
use Rattle.terms.specs.Order.{NotBehind}
use Rattle.terms.proofs.Order.{not-greater}
use Rattle.terms.proofs.rising.Goals as goal

pub loop-i-init : goal.loop-i-init
loop-i-init c = (omega arith, λ q g z. absurd (omega arith))

pub compare_entries-requires : goal.compare_entries-requires
compare_entries-requires c =
    let z = c.loop-i.invariant.0 in
    (c.requires (c.loop-i.i - 1) (omega arith), c.requires c.loop-i.i c.loop-i-test.true)

pub returns-then-is_gt : goal.returns-then-is_gt
returns-then-is_gt c = λ e. absurd (false≢true e)

pub loop-i-preserved : goal.loop-i-preserved
loop-i-preserved c =
    let s = c.args.s.now in
    let l = c.args.entries.now in
    let i = c.loop-i.i in
    (omega arith, below_more (λ (q : ℕ). 0 < q → NotBehind (word_at s (get_or l (q - 1) 0)) (word_at s (get_or l q 0))) i c.loop-i.invariant.1 (λ z. not-greater (word_at s (get_or l (i - 1) 0)) (word_at s (get_or l i 0)) (ap is_gt (sym c.compare_entries.ensures) ∙ sym c.is_gt.ensures ∙ c.if-is_gt.false)))

pub returns : goal.returns
returns c =
    λ e q g z. c.loop-i.invariant.1 q (omega arith) z
