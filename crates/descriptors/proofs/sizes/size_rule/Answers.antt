-- `descriptors::sizes::size_rule` meets its contract: there are no words, one, two, or more.
use native.Mathlib.Omega.{arith}
use mathlib.Core.Path.{sym, ap, ◌∙◌}
use mathlib.Core.List.{[], ◌∷◌}
use lib.ListN.{length}
use Rattle.format.specs.Numbers.{int_bounds}
use Rattle.format.specs.Rules.{size_rule}
use Rattle.format.specs.Words.{words}
use Rattle.words.specs.Spans.{span}
use Rattle.words.proofs.Finding.{found, not_found}
use Rattle.descriptors.proofs.Wording.{words-then}
use Rattle.descriptors.proofs.sizes.size_rule.Goals as goal

pub returns-in_default : goal.returns-in_default
returns-in_default c =
    sym (ap (size_rule int_bounds) (not_found c.args.s.now c.next_word-w.ensures c.in_default.is))

pub slice_bounds-t-count : goal.slice_bounds-t-count
slice_bounds-t-count c =
    let f = found c.args.s.now c.next_word-w.ensures c.in-Some.is in f.1

pub slice_bounds-t-start : goal.slice_bounds-t-start
slice_bounds-t-start c =
    let f = found c.args.s.now c.next_word-w.ensures c.in-Some.is in f.1

pub slice_bounds-size_exactly-count : goal.slice_bounds-size_exactly-count
slice_bounds-size_exactly-count c =
    let f = found c.args.s.now c.next_word-w.ensures c.in-Some.is in omega (arith, f.0)

pub slice_bounds-size_exactly-start : goal.slice_bounds-size_exactly-start
slice_bounds-size_exactly-start c =
    let f = found c.args.s.now c.next_word-w.ensures c.in-Some.is in omega (arith, f.0)

pub slice_bounds-size_exactly-end : goal.slice_bounds-size_exactly-end
slice_bounds-size_exactly-end c =
    let f = found c.args.s.now c.next_word-w.ensures c.in-Some.is in f.1

pub returns-in_default-x : goal.returns-in_default-x
returns-in_default-x c =
    let f = found c.args.s.now c.next_word-w.ensures c.in-Some.is in
    let s = c.args.s.now in
    let t = span c.in-Some.field-0.end (length s) s in
    c.size_exactly.ensures ∙ sym (ap (size_rule int_bounds) (words-then (words s) (span c.in-Some.field-0.start c.in-Some.field-0.end s) (words t) f.2 [] (not_found t c.next_word-x.ensures c.in_default-x.is)))

pub slice_bounds-next_word-count : goal.slice_bounds-next_word-count
slice_bounds-next_word-count c =
    let g = found (span c.in-Some.field-0.end (length c.args.s.now) c.args.s.now) c.next_word-x.ensures c.in-Some-x.is in g.1

pub slice_bounds-next_word-start : goal.slice_bounds-next_word-start
slice_bounds-next_word-start c =
    let g = found (span c.in-Some.field-0.end (length c.args.s.now) c.args.s.now) c.next_word-x.ensures c.in-Some-x.is in g.1

pub slice_bounds-size_signed-count : goal.slice_bounds-size_signed-count
slice_bounds-size_signed-count c =
    let f = found c.args.s.now c.next_word-w.ensures c.in-Some.is in omega (arith, f.0)

pub slice_bounds-size_signed-start : goal.slice_bounds-size_signed-start
slice_bounds-size_signed-start c =
    let f = found c.args.s.now c.next_word-w.ensures c.in-Some.is in omega (arith, f.0)

pub slice_bounds-size_signed-end : goal.slice_bounds-size_signed-end
slice_bounds-size_signed-end c =
    let f = found c.args.s.now c.next_word-w.ensures c.in-Some.is in f.1

pub slice_bounds-size_signed-count-in-None : goal.slice_bounds-size_signed-count-in-None
slice_bounds-size_signed-count-in-None c =
    let g = found (span c.in-Some.field-0.end (length c.args.s.now) c.args.s.now) c.next_word-x.ensures c.in-Some-x.is in omega (arith, g.0)

pub slice_bounds-size_signed-start-in-None : goal.slice_bounds-size_signed-start-in-None
slice_bounds-size_signed-start-in-None c =
    let g = found (span c.in-Some.field-0.end (length c.args.s.now) c.args.s.now) c.next_word-x.ensures c.in-Some-x.is in omega (arith, g.0)

pub slice_bounds-size_signed-end-in-None : goal.slice_bounds-size_signed-end-in-None
slice_bounds-size_signed-end-in-None c =
    let g = found (span c.in-Some.field-0.end (length c.args.s.now) c.args.s.now) c.next_word-x.ensures c.in-Some-x.is in g.1

pub returns-in-Some-y : goal.returns-in-Some-y
returns-in-Some-y c =
    let f = found c.args.s.now c.next_word-w.ensures c.in-Some.is in
    let g = found (span c.in-Some.field-0.end (length c.args.s.now) c.args.s.now) c.next_word-x.ensures c.in-Some-x.is in
    let s = c.args.s.now in
    let t = span c.in-Some.field-0.end (length s) s in
    let u = span c.in-Some-x.field-0.end (length t) t in
    let h = found u c.next_word-y.ensures c.in-Some-y.is in
    sym (ap (size_rule int_bounds) (words-then (words s) (span c.in-Some.field-0.start c.in-Some.field-0.end s) (words t) f.2 (span c.in-Some-x.field-0.start c.in-Some-x.field-0.end t ∷ span c.in-Some-y.field-0.start c.in-Some-y.field-0.end u ∷ words (span c.in-Some-y.field-0.end (length u) u)) (words-then (words t) (span c.in-Some-x.field-0.start c.in-Some-x.field-0.end t) (words u) g.2 (span c.in-Some-y.field-0.start c.in-Some-y.field-0.end u ∷ words (span c.in-Some-y.field-0.end (length u) u)) h.2)))

pub returns-in-None : goal.returns-in-None
returns-in-None c =
    let f = found c.args.s.now c.next_word-w.ensures c.in-Some.is in
    let g = found (span c.in-Some.field-0.end (length c.args.s.now) c.args.s.now) c.next_word-x.ensures c.in-Some-x.is in
    let s = c.args.s.now in
    let t = span c.in-Some.field-0.end (length s) s in
    let u = span c.in-Some-x.field-0.end (length t) t in
    let e = words-then (words t) (span c.in-Some-x.field-0.start c.in-Some-x.field-0.end t) (words u) g.2 [] (not_found u c.next_word-y.ensures c.in-None.is) in
    c.size_signed.ensures ∙ sym (ap (size_rule int_bounds) (words-then (words s) (span c.in-Some.field-0.start c.in-Some.field-0.end s) (words t) f.2 (span c.in-Some-x.field-0.start c.in-Some-x.field-0.end t ∷ []) e))
