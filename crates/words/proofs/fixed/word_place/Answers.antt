use native.Mathlib.Omega.{arith}
use mathlib.Core.Path.{sym, ap, ◌∙◌}
use Rattle.format.specs.Words.{words}
use Rattle.words.specs.RuleNames.{place_in}
use Rattle.words.proofs.Finding.{found, not_found}
use Rattle.words.proofs.RuleNames.{place_here, place-later}
use Rattle.words.proofs.fixed.word_place.Goals as goal

pub loop-start-init : goal.loop-start-init
loop-start-init c = (omega arith, omega arith)

pub returns-in_default : goal.returns-in_default
returns-in_default c =
    omega (arith, c.loop-start.invariant.1, ap (place_in c.args.w.now) (not_found c.loop-start.rest.now c.next_word.ensures c.in_default.is))

pub slice_bounds-same_bytes-count : goal.slice_bounds-same_bytes-count
slice_bounds-same_bytes-count c =
    let f = found c.loop-start.rest.now c.next_word.ensures c.in-Some.is in
    omega (arith, f.1)

pub slice_bounds-same_bytes-start : goal.slice_bounds-same_bytes-start
slice_bounds-same_bytes-start c =
    let f = found c.loop-start.rest.now c.next_word.ensures c.in-Some.is in
    omega (arith, f.1)

pub slice_bounds-same_bytes-end : goal.slice_bounds-same_bytes-end
slice_bounds-same_bytes-end c =
    let f = found c.loop-start.rest.now c.next_word.ensures c.in-Some.is in
    omega (arith, f.1)

pub returns-then-same_bytes : goal.returns-then-same_bytes
returns-then-same_bytes c =
    let f = found c.loop-start.rest.now c.next_word.ensures c.in-Some.is in
    omega (arith, c.loop-start.invariant.1, place_here c.args.w.now (words c.loop-start.rest.now) _ _ f.2 (sym c.same_bytes.ensures ∙ c.if-same_bytes.true))

pub overflow_add-n : goal.overflow_add-n
overflow_add-n c =
    let f = found c.loop-start.rest.now c.next_word.ensures c.in-Some.is in
    omega (arith, c.loop-start.invariant.0, f.0, f.1)

pub slice_bounds-rest-count : goal.slice_bounds-rest-count
slice_bounds-rest-count c =
    let f = found c.loop-start.rest.now c.next_word.ensures c.in-Some.is in
    omega (arith, f.1)

pub slice_bounds-rest-start : goal.slice_bounds-rest-start
slice_bounds-rest-start c =
    let f = found c.loop-start.rest.now c.next_word.ensures c.in-Some.is in
    omega (arith, f.1)

pub loop-start-smaller : goal.loop-start-smaller
loop-start-smaller c =
    let f = found c.loop-start.rest.now c.next_word.ensures c.in-Some.is in
    omega (arith, f.0, f.1)

pub loop-start-preserved : goal.loop-start-preserved
loop-start-preserved c =
    let f = found c.loop-start.rest.now c.next_word.ensures c.in-Some.is in
    (omega (arith, c.loop-start.invariant.0, f.0, f.1), omega (arith, c.loop-start.invariant.1, place-later c.args.w.now (words c.loop-start.rest.now) _ _ f.2 (sym c.same_bytes.ensures ∙ c.if-same_bytes.false)))
