use native.Mathlib.Omega.{arith}
use mathlib.Core.Path.{refl, ap, ◌∙◌}
use mathlib.Core.List.{[], ◌∷◌}
use lib.ListN.{length}
use Rattle.format.specs.Bytes.{Bytes, among}
use Rattle.format.specs.Words.{words as words_of}
use Rattle.format.specs.Rules.{auto}
use Rattle.words.specs.Spans.{span}
use Rattle.words.proofs.Finding.{found, not_found}
use Rattle.records.specs.Walk.{record_in}
use Rattle.numbering.specs.Adding.{pair_by, step_all}
use Rattle.numbering.proofs.Stepping.{going_start, going_end, going-none, going_on, first_passes, span-within}
use Rattle.numbering.proofs.adding.add_words.Goals as goal

pub loop-start-init : goal.loop-start-init
loop-start-init c =
    (omega arith, c.requires.s_value.0, refl, λ t h l. going_start (pair_by (auto (record_in c.args.d.now)) c.args.bounds.floors c.args.bounds.limits) (auto (record_in c.args.d.now)) c.args.out.now c.args.sum (words_of c.args.s.now) t h l)

pub shape_of-out-in_default : goal.shape_of-out-in_default
shape_of-out-in_default c =
    c.loop-start.invariant.2

pub returns-in_default : goal.returns-in_default
returns-in_default c =
    let ws = auto (record_in c.args.d.now) in
    let f = pair_by ws c.args.bounds.floors c.args.bounds.limits in
    λ t h l. going_end f ws c.loop-start.out c.loop-start.sums (words_of c.loop-start.rest.now) (step_all f t (words_of c.args.s.now)) (c.loop-start.invariant.3 t h l) (not_found c.loop-start.rest.now c.next_word.ensures c.in_default.is)

pub slice_bounds-add_word-count : goal.slice_bounds-add_word-count
slice_bounds-add_word-count c =
    let w = found c.loop-start.rest.now c.next_word.ensures c.in-Some.is in
    omega arith

pub slice_bounds-add_word-start : goal.slice_bounds-add_word-start
slice_bounds-add_word-start c =
    let w = found c.loop-start.rest.now c.next_word.ensures c.in-Some.is in
    omega arith

pub slice_bounds-add_word-end : goal.slice_bounds-add_word-end
slice_bounds-add_word-end c =
    let w = found c.loop-start.rest.now c.next_word.ensures c.in-Some.is in
    omega arith

pub add_word-requires : goal.add_word-requires
add_word-requires c =
    let ws = auto (record_in c.args.d.now) in
    let f = pair_by ws c.args.bounds.floors c.args.bounds.limits in
    let w = found c.loop-start.rest.now c.next_word.ensures c.in-Some.is in
    let g = first_passes (λ (n : Bytes). among n ws) (words_of c.loop-start.rest.now) _ _ w.2 c.loop-start.invariant.1 in
    let t = c.requires.sums in
    let go = c.loop-start.invariant.3 t.0 t.1 t.2 in
    record { listed = c.requires.listed; limited = c.requires.limited; d_value = (g.0, omega (arith, span-within c.loop-start.rest.now c.in-Some.field-0.start c.in-Some.field-0.end w.1, c.loop-start.invariant.0, c.requires.s_value.1), omega (arith, c.loop-start.invariant.2, c.requires.s_value.2)); sums = (go.reached, go.sums, omega (arith, go.few, ap length w.2)) }

pub shape_of-out-in_err-sums : goal.shape_of-out-in_err-sums
shape_of-out-in_err-sums c =
    c.add_word.auto.out ∙ c.loop-start.invariant.2

pub returns-in_err-sums : goal.returns-in_err-sums
returns-in_err-sums c =
    let ws = auto (record_in c.args.d.now) in
    let f = pair_by ws c.args.bounds.floors c.args.bounds.limits in
    let w = found c.loop-start.rest.now c.next_word.ensures c.in-Some.is in
    λ t h l. let go = c.loop-start.invariant.3 t h l in
    rw c.from_residual.ensures (going-none f ws c.loop-start.out c.loop-start.sums (words_of c.loop-start.rest.now) (step_all f t (words_of c.args.s.now)) go (span c.in-Some.field-0.start c.in-Some.field-0.end c.loop-start.rest.now ∷ []) (words_of (span c.in-Some.field-0.end (length c.loop-start.rest.now) c.loop-start.rest.now)) w.2 c.add_word.new.out c.add_word.result (c.add_word.ensures go.reached go.sums) c.in_err-sums.was)

pub slice_bounds-rest-count : goal.slice_bounds-rest-count
slice_bounds-rest-count c =
    let w = found c.loop-start.rest.now c.next_word.ensures c.in-Some.is in
    omega (arith, w.1)

pub slice_bounds-rest-start : goal.slice_bounds-rest-start
slice_bounds-rest-start c =
    let w = found c.loop-start.rest.now c.next_word.ensures c.in-Some.is in
    omega (arith, w.1)

pub loop-start-smaller : goal.loop-start-smaller
loop-start-smaller c =
    let w = found c.loop-start.rest.now c.next_word.ensures c.in-Some.is in
    omega (arith, w.0, w.1)

pub loop-start-preserved : goal.loop-start-preserved
loop-start-preserved c =
    let ws = auto (record_in c.args.d.now) in
    let f = pair_by ws c.args.bounds.floors c.args.bounds.limits in
    let w = found c.loop-start.rest.now c.next_word.ensures c.in-Some.is in
    let g = first_passes (λ (n : Bytes). among n ws) (words_of c.loop-start.rest.now) _ _ w.2 c.loop-start.invariant.1 in (
      omega (arith, c.loop-start.invariant.0),
      g.1,
      c.add_word.auto.out ∙ c.loop-start.invariant.2,
      λ t h l. let go = c.loop-start.invariant.3 t h l in
          going_on f ws c.loop-start.out c.loop-start.sums (words_of c.loop-start.rest.now) (step_all f t (words_of c.args.s.now)) go (span c.in-Some.field-0.start c.in-Some.field-0.end c.loop-start.rest.now ∷ []) (words_of (span c.in-Some.field-0.end (length c.loop-start.rest.now) c.loop-start.rest.now)) w.2 c.add_word.new.out c.add_word.result (c.add_word.ensures go.reached go.sums) c.in_ok-sums.sums c.in_ok-sums.was,
    )
