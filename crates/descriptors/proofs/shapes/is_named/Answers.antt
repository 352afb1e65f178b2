use Prim.Native.Nat.{◌+◌}
use native.Mathlib.Omega.{arith}
use mathlib.Core.Path.{refl, sym, ap, ◌∙◌}
use mathlib.Core.Bool.{Bool, ◌||◌}
use lib.ListN.{drop, drop_of_length-le}
use Rattle.format.specs.Bytes.{among}
use Rattle.descriptors.specs.Names.{names_at}
use Rattle.descriptors.proofs.Names.{place_at}
use Rattle.descriptors.proofs.shapes.is_named.Goals as goal

pub loop-k-init : goal.loop-k-init
loop-k-init c =
    (omega arith, c.requires, refl)

pub bounds-ends-k : goal.bounds-ends-k
bounds-ends-k c =
    let p = place_at c.args.s.now c.args.starts.now c.args.ends.now c.loop-k.k c.loop-k-test.true c.loop-k.invariant.1 in p.beside

pub slice_bounds-word_is-count : goal.slice_bounds-word_is-count
slice_bounds-word_is-count c =
    let p = place_at c.args.s.now c.args.starts.now c.args.ends.now c.loop-k.k c.loop-k-test.true c.loop-k.invariant.1 in p.ordered

pub slice_bounds-word_is-start : goal.slice_bounds-word_is-start
slice_bounds-word_is-start c =
    let p = place_at c.args.s.now c.args.starts.now c.args.ends.now c.loop-k.k c.loop-k-test.true c.loop-k.invariant.1 in p.ordered

pub slice_bounds-word_is-end : goal.slice_bounds-word_is-end
slice_bounds-word_is-end c =
    let p = place_at c.args.s.now c.args.starts.now c.args.ends.now c.loop-k.k c.loop-k-test.true c.loop-k.invariant.1 in p.inside

pub returns-then-word_is : goal.returns-then-word_is
returns-then-word_is c =
    let s = c.args.s.now in
    let bs = c.args.starts.now in
    let es = c.args.ends.now in
    let p = place_at s bs es c.loop-k.k c.loop-k-test.true c.loop-k.invariant.1 in
    sym (c.loop-k.invariant.2 ∙ ap (among c.args.word.now) p.names ∙ ap (λ (b : Bool). b || among c.args.word.now (names_at s (drop (c.loop-k.k + 1) bs) (drop (c.loop-k.k + 1) es))) (sym c.word_is.ensures ∙ c.if-word_is.true))

pub loop-k-preserved : goal.loop-k-preserved
loop-k-preserved c =
    let s = c.args.s.now in
    let bs = c.args.starts.now in
    let es = c.args.ends.now in
    let p = place_at s bs es c.loop-k.k c.loop-k-test.true c.loop-k.invariant.1 in
    (omega arith, p.later, c.loop-k.invariant.2 ∙ ap (among c.args.word.now) p.names ∙ ap (λ (b : Bool). b || among c.args.word.now (names_at s (drop (c.loop-k.k + 1) bs) (drop (c.loop-k.k + 1) es))) (sym c.word_is.ensures ∙ c.if-word_is.false))

pub returns : goal.returns
returns c =
    let s = c.args.s.now in
    let es = c.args.ends.now in
    sym (c.loop-k.invariant.2 ∙ ap (λ bs. among c.args.word.now (names_at s bs (drop c.loop-k.k es))) (drop_of_length-le c.args.starts.now c.loop-k-test.false))
