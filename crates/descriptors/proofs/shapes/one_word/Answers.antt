-- `descriptors::shapes::one_word` meets its contract: there is a word, and none behind it.
use mathlib.Core.Path.{sym, ap, subst}
use mathlib.Core.List.{[], ◌∷◌}
use lib.ListN.{length}
use Rattle.format.specs.Rules.{one}
use Rattle.format.specs.Words.{words}
use Rattle.words.specs.Spans.{span}
use Rattle.words.proofs.Finding.{found, not_found}
use Rattle.descriptors.specs.Contents.{OnlyWord}
use Rattle.descriptors.proofs.Wording.{words-then}
use Rattle.descriptors.proofs.shapes.one_word.Goals as goal

pub returns-in_err-w : goal.returns-in_err-w
returns-in_err-w c =
    subst (OnlyWord c.args.s.now) (sym c.from_residual.ensures) (λ p. ap (one p) (not_found c.args.s.now c.next_word.ensures c.in_err-w.was))

pub slice_bounds-next_word-count : goal.slice_bounds-next_word-count
slice_bounds-next_word-count c =
    let f = found c.args.s.now c.next_word.ensures c.in_ok-w.was in f.1

pub slice_bounds-next_word-start : goal.slice_bounds-next_word-start
slice_bounds-next_word-start c =
    let f = found c.args.s.now c.next_word.ensures c.in_ok-w.was in f.1

pub returns-in-Some : goal.returns-in-Some
returns-in-Some c =
    let s = c.args.s.now in
    let f = found s c.next_word.ensures c.in_ok-w.was in
    let r = span c.in_ok-w.w.end (length s) s in
    let b = found r c.next_word-2.ensures c.in-Some.is in
    λ p. ap (one p) (words-then (words s) (span c.in_ok-w.w.start c.in_ok-w.w.end s) (words r) f.2 (span c.in-Some.field-0.start c.in-Some.field-0.end r ∷ words (span c.in-Some.field-0.end (length r) r)) b.2)

pub returns-in-None : goal.returns-in-None
returns-in-None c =
    let s = c.args.s.now in
    let f = found s c.next_word.ensures c.in_ok-w.was in
    let r = span c.in_ok-w.w.end (length s) s in
    (f.0, f.1, words-then (words s) (span c.in_ok-w.w.start c.in_ok-w.w.end s) (words r) f.2 [] (not_found r c.next_word-2.ensures c.in-None.is))
