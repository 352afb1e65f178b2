use native.Mathlib.Omega.{arith}
use mathlib.Core.List.{[], ◌∷◌}
use lib.ListN.{length}
use Rattle.format.specs.Words.{words as words_of}
use Rattle.words.specs.Spans.{span}
use Rattle.words.proofs.Finding.{found, not_found}
use Rattle.drafts.proofs.Giving.{going_start, going_end, going_on}
use Rattle.drafts.proofs.given.give_words.Goals as goal

pub loop-start-init : goal.loop-start-init
loop-start-init c =
    going_start c.args.d.now c.args.l (words_of c.args.s.now) c.args.set

pub returns-in_default : goal.returns-in_default
returns-in_default c =
    going_end c.args.d.now c.args.l (words_of c.args.s.now) c.args.set c.loop-start.given (words_of c.loop-start.rest.now) c.loop-start.invariant (not_found c.loop-start.rest.now c.next_word.ensures c.in_default.is)

pub slice_bounds-give-count : goal.slice_bounds-give-count
slice_bounds-give-count c =
    let w = found c.loop-start.rest.now c.next_word.ensures c.in-Some.is in omega arith

pub slice_bounds-give-start : goal.slice_bounds-give-start
slice_bounds-give-start c =
    let w = found c.loop-start.rest.now c.next_word.ensures c.in-Some.is in omega arith

pub slice_bounds-give-end : goal.slice_bounds-give-end
slice_bounds-give-end c =
    let w = found c.loop-start.rest.now c.next_word.ensures c.in-Some.is in omega arith

pub slice_bounds-rest-count : goal.slice_bounds-rest-count
slice_bounds-rest-count c =
    let w = found c.loop-start.rest.now c.next_word.ensures c.in-Some.is in omega (arith, w.1)

pub slice_bounds-rest-start : goal.slice_bounds-rest-start
slice_bounds-rest-start c =
    let w = found c.loop-start.rest.now c.next_word.ensures c.in-Some.is in omega (arith, w.1)

pub loop-start-smaller : goal.loop-start-smaller
loop-start-smaller c =
    let w = found c.loop-start.rest.now c.next_word.ensures c.in-Some.is in omega (arith, w.0, w.1)

pub loop-start-preserved : goal.loop-start-preserved
loop-start-preserved c =
    let w = found c.loop-start.rest.now c.next_word.ensures c.in-Some.is in
    going_on c.args.d.now c.args.l (words_of c.args.s.now) c.args.set c.loop-start.given c.give-given.result (words_of c.loop-start.rest.now) (span c.in-Some.field-0.start c.in-Some.field-0.end c.loop-start.rest.now ∷ []) (words_of (span c.in-Some.field-0.end (length c.loop-start.rest.now) c.loop-start.rest.now)) c.loop-start.invariant w.2 c.give-given.ensures
