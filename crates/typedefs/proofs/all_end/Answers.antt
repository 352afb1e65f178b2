use Prim.Native.Nat.{◌<◌}
use native.Mathlib.Omega.{arith}
use mathlib.Core.Path.{refl, sym, ap, ◌∙◌}
use mathlib.Core.Bool.{true, false}
use lib.ListN.{length-take}
use lib.Seq.{get_or-take}
use Rattle.typedefs.specs.Targets.{targets_in, leads}
use Rattle.typedefs.specs.declared.Link.{Link}
use Rattle.typedefs.proofs.Chains.{targets-length, target_at}
use Rattle.typedefs.proofs.Good.{ends-done, ends-cut}
use Rattle.typedefs.proofs.all_end.Goals as goal

pub loop-row-init : goal.loop-row-init
loop-row-init c = refl

pub returns-then-not-target_ends : goal.returns-then-not-target_ends
returns-then-not-target_ends c =
    let t = c.args.targets in
    let k = c.loop-row.row-index in
    let h : k < t.count = omega (arith, length-take t.count t.rows, c.loop-row-test.true) in
    let e = c.if-not-target_ends.ensures ∙ ap (leads (targets_in t)) (ap (λ (x : Link). x.to) (get_or-take t.count t.rows k _ h) ∙ sym (target_at t c.requires k _ h)) in
    sym (c.loop-row.invariant ∙ ends-cut (targets_in t) k false (omega (arith, h, targets-length t c.requires)) e)

pub loop-row-preserved : goal.loop-row-preserved
loop-row-preserved c =
    let t = c.args.targets in
    let k = c.loop-row.row-index in
    let h : k < t.count = omega (arith, length-take t.count t.rows, c.loop-row-test.true) in
    let e = c.if-not-target_ends.ensures ∙ ap (leads (targets_in t)) (ap (λ (x : Link). x.to) (get_or-take t.count t.rows k _ h) ∙ sym (target_at t c.requires k _ h)) in
    c.loop-row.invariant ∙ ends-cut (targets_in t) k true (omega (arith, h, targets-length t c.requires)) e

pub returns : goal.returns
returns c =
    let ts = targets_in c.args.targets in
    sym (c.loop-row.invariant ∙ ends-done ts c.loop-row.row-index (omega (arith, c.loop-row-test.false, length-take c.args.targets.count c.args.targets.rows, c.requires.0, c.requires.1, targets-length c.args.targets c.requires)))
