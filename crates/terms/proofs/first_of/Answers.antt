use Prim.Native.Nat.{ℕ, ◌+◌, ◌-◌, ◌/◌, ◌<◌}
use native.Mathlib.Omega.{arith}
use mathlib.Core.Path.{◌≡◌, sym, ap, ◌∙◌, subst}
use Rattle.std.specs.Ordering.{is_lt}
use lib.ListN.{length, get_or}
use Rattle.terms.specs.Entries.{word_at}
use Rattle.terms.specs.Order.{NotBehind}
use Rattle.terms.proofs.Order.{less-told, not-less}
use Rattle.terms.proofs.Search.{low_up}
use Rattle.terms.proofs.first_of.Goals as goal

pub loop-lo-init : goal.loop-lo-init
loop-lo-init c = (omega arith, omega arith, λ q h. absurd (omega arith), λ h. absurd (omega arith))

pub compare-requires : goal.compare-requires
compare-requires c =
    let a = c.loop-lo.invariant.1 in
    let b = c.loop-lo-test.true in
    (c.requires.entries (c.loop-lo.lo + (c.loop-lo.hi - c.loop-lo.lo) / 2) (omega arith), c.requires.print_value.0)

pub loop-lo-preserved-then-is_lt : goal.loop-lo-preserved-then-is_lt
loop-lo-preserved-then-is_lt c =
    let a = c.loop-lo.invariant.1 in
    let b = c.loop-lo-test.true in
    (omega arith, a, low_up c.args.s.now c.args.entries.now c.args.w.now c.requires.print_value.1 (c.loop-lo.lo + (c.loop-lo.hi - c.loop-lo.lo) / 2) (omega arith) (sym c.compare.ensures ∙ less-told c.compare.result (sym c.is_lt.ensures ∙ c.if-is_lt.true)), c.loop-lo.invariant.3)

pub loop-lo-preserved : goal.loop-lo-preserved
loop-lo-preserved c =
    let a = c.loop-lo.invariant.1 in
    let b = c.loop-lo-test.true in
    let middle = word_at c.args.s.now (get_or c.args.entries.now (c.loop-lo.lo + (c.loop-lo.hi - c.loop-lo.lo) / 2) 0) in
    (omega arith, omega arith, c.loop-lo.invariant.2, λ h. not-less middle c.args.w.now (ap is_lt (sym c.compare.ensures) ∙ sym c.is_lt.ensures ∙ c.if-is_lt.false))

pub returns : goal.returns
returns c =
    let a = c.loop-lo.invariant.0 in
    let b = c.loop-lo.invariant.1 in
    let d = c.loop-lo-test.false in
    let e : c.loop-lo.hi ≡ c.loop-lo.lo = omega arith in
    (omega arith, c.loop-lo.invariant.2, subst (λ (q : ℕ). q < length c.args.entries.now → NotBehind c.args.w.now (word_at c.args.s.now (get_or c.args.entries.now q 0))) e c.loop-lo.invariant.3)
