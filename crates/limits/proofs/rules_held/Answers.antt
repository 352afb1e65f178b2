use borrow.Author.Tests.{not-true, not-false}
use Prim.Native.Nat.{ℕ, ◌+◌, ◌-◌}
use native.Mathlib.Omega.{arith}
use mathlib.Core.Path.{◌≡◌, refl, sym, ap, ◌∙◌}
use mathlib.Core.Bool.{Bool, ◌&&◌}
use lib.ListN.{get_or}
use Rattle.format.specs.Bytes.{all}
use Rattle.format.specs.Questions.{fits_rules}
use Rattle.format.proofs.Walking.{heads}
use Rattle.words.proofs.Spans.{span-length}
use Rattle.records.specs.Heads.{row_from}
use Rattle.records.proofs.Cuts.{records_from}
use Rattle.records.proofs.Rows.{row-heads}
use mathlib.Core.Bool.{not}
use Rattle.limits.proofs.rules_held.Goals as goal

pub loop-k-init : goal.loop-k-init
loop-k-init c =
    (c.requires.head_parts, omega arith, refl)

pub bounds-starts-k : goal.bounds-starts-k
bounds-starts-k c =
    omega (arith, c.loop-k-test.true, c.loop-k.invariant.0.1.begun)

pub bounds-ends-k : goal.bounds-ends-k
bounds-ends-k c =
    omega (arith, c.loop-k-test.true, c.loop-k.invariant.0.1.ended)

pub slice_bounds-rules_fit-count : goal.slice_bounds-rules_fit-count
slice_bounds-rules_fit-count c =
    let r = c.loop-k.invariant.0.1.row c.loop-k.k c.loop-k-test.true in omega (arith, r.filled)

pub slice_bounds-rules_fit-start : goal.slice_bounds-rules_fit-start
slice_bounds-rules_fit-start c =
    let r = c.loop-k.invariant.0.1.row c.loop-k.k c.loop-k-test.true in omega (arith, r.filled)

pub slice_bounds-rules_fit-end : goal.slice_bounds-rules_fit-end
slice_bounds-rules_fit-end c =
    let r = c.loop-k.invariant.0.1.row c.loop-k.k c.loop-k-test.true in omega (arith, r.within, r.inside)

pub rules_fit-requires : goal.rules_fit-requires
rules_fit-requires c =
    let r = c.loop-k.invariant.0.1.row c.loop-k.k c.loop-k-test.true in record { d_value = r.own; d_len_bound = omega (arith, span-length c.args.s.now (get_or c.args.starts.now c.loop-k.k 0) (get_or c.args.ends.now c.loop-k.k 0) (omega (arith, r.filled)) (omega (arith, r.within, r.inside)), r.within, r.inside, c.requires.s_len_bound) }

pub returns-then-not-rules_fit : goal.returns-then-not-rules_fit
returns-then-not-rules_fit c =
    sym (c.loop-k.invariant.2 ∙ ap (all fits_rules) (row-heads c.loop-k.invariant.0.1 c.loop-k.k c.loop-k-test.true) ∙ ap (λ (b : Bool). b && all fits_rules (heads (records_from c.args.s.now (row_from c.loop-k.invariant.0.0 (c.loop-k.k + 1))))) (sym c.rules_fit.ensures ∙ not-true c.rules_fit.result (ap not c.if-not-rules_fit.true)))

pub loop-k-preserved : goal.loop-k-preserved
loop-k-preserved c =
    (c.loop-k.invariant.0, omega (arith, c.loop-k-test.true), c.loop-k.invariant.2 ∙ ap (all fits_rules) (row-heads c.loop-k.invariant.0.1 c.loop-k.k c.loop-k-test.true) ∙ ap (λ (b : Bool). b && all fits_rules (heads (records_from c.args.s.now (row_from c.loop-k.invariant.0.0 (c.loop-k.k + 1))))) (sym c.rules_fit.ensures ∙ not-false c.rules_fit.result (ap not c.if-not-rules_fit.false)))

pub returns : goal.returns
returns c =
    let e : c.loop-k.k ≡ c.args.count = omega (arith, c.loop-k.invariant.1, c.loop-k-test.false) in sym (c.loop-k.invariant.2 ∙ ap (all fits_rules) (ap (λ (j : ℕ). heads (records_from c.args.s.now (row_from c.loop-k.invariant.0.0 j))) e ∙ c.loop-k.invariant.0.1.last))
