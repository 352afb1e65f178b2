use Prim.Native.Nat.{◌+◌}
use native.Mathlib.Omega.{arith}
use mathlib.Core.Path.{refl, sym, ap, ◌∙◌}
use mathlib.Core.Bool.{Bool, ◌&&◌}
use borrow.Author.Tests.{not-true, not-false}
use lib.ListN.{drop}
use Rattle.format.specs.Bytes.{text}
use Rattle.format.specs.Rules.{distinct}
use Rattle.records.specs.Named.{values_from}
use Rattle.typedefs.specs.Walks.{names_from, fit_from}
use Rattle.typedefs.proofs.Good.{words-length, apart-done, apart-cut}
use mathlib.Core.Bool.{not}
use Rattle.typedefs.proofs.names_apart.Goals as goal

pub loop-k-init : goal.loop-k-init
loop-k-init c = (omega arith, refl, refl)

pub name_alone-requires : goal.name_alone-requires
name_alone-requires c =
    record { are_names = (c.requires.are_names, c.loop-k-test.true); text_value = ap (λ m. fit_from m c.args.d.now (text "%typedef") 0) c.loop-k.invariant.1 ∙ c.requires.text_value }

pub shape_of-scratch-then-not-name_alone : goal.shape_of-scratch-then-not-name_alone
shape_of-scratch-then-not-name_alone c =
    omega (arith, c.name_alone.auto.scratch, c.loop-k.invariant.1)

pub returns-then-not-name_alone : goal.returns-then-not-name_alone
returns-then-not-name_alone c =
    let ns = names_from c.args.d.now 0 in
    sym (c.loop-k.invariant.2 ∙ apart-cut ns c.loop-k.k c.name_alone.result (omega (arith, words-length (values_from c.args.d.now (text "%typedef") 0), c.requires.are_names.values.count, c.loop-k-test.true)) c.name_alone.ensures ∙ ap (λ (t : Bool). t && distinct (drop (c.loop-k.k + 1) ns)) (not-true c.name_alone.result (ap not c.if-not-name_alone.true)))

pub loop-k-preserved : goal.loop-k-preserved
loop-k-preserved c =
    let ns = names_from c.args.d.now 0 in
    (omega (arith, c.loop-k-test.true), omega (arith, c.name_alone.auto.scratch, c.loop-k.invariant.1), c.loop-k.invariant.2 ∙ apart-cut ns c.loop-k.k c.name_alone.result (omega (arith, words-length (values_from c.args.d.now (text "%typedef") 0), c.requires.are_names.values.count, c.loop-k-test.true)) c.name_alone.ensures ∙ ap (λ (t : Bool). t && distinct (drop (c.loop-k.k + 1) ns)) (not-false c.name_alone.result (ap not c.if-not-name_alone.false)))

pub shape_of-scratch : goal.shape_of-scratch
shape_of-scratch c =
    c.loop-k.invariant.1

pub returns : goal.returns
returns c =
    let ns = names_from c.args.d.now 0 in
    sym (c.loop-k.invariant.2 ∙ apart-done ns c.loop-k.k (omega (arith, words-length (values_from c.args.d.now (text "%typedef") 0), c.requires.are_names.values.count, c.loop-k-test.false)))
