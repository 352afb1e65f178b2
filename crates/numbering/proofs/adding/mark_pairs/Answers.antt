use Prim.Native.Nat.{◌-◌}
use native.Mathlib.Omega.{arith}
use mathlib.Core.Path.{sym, ◌∙◌}
use Rattle.format.specs.Rules.{auto}
use Rattle.records.specs.Walk.{record_in}
use Rattle.requests.specs.Pairs.{pairs_at, pair_of}
use Rattle.requests.proofs.Pairing.{pair_found, pair-missed, some_more, list-more, list-end}
use Rattle.numbering.proofs.Marking.{marks-start, marks-end, marks-on}
use Rattle.numbering.proofs.adding.mark_pairs.Goals as goal

pub loop-name-init : goal.loop-name-init
loop-name-init c =
    (c.requires.req_len_bound.1, c.requires.req_len_bound.2, marks-start (auto (record_in c.args.d.now)) (pairs_at c.args.req.now c.args.from))

pub returns-in_default : goal.returns-in_default
returns-in_default c =
    marks-end (auto (record_in c.args.d.now)) (pairs_at c.args.req.now c.args.from) (pairs_at c.args.req.now c.loop-name.i) c.loop-name.seen c.loop-name.invariant.2 (list-end c.args.req.now c.loop-name.i (pair-missed c.args.req.now c.loop-name.i c.pair_at.result c.pair_at.ensures c.in_default.is))

pub slice_bounds-mark-count : goal.slice_bounds-mark-count
slice_bounds-mark-count c =
    let h = pair_found c.args.req.now c.loop-name.i c.pair_at.result c.in-Some.field-0.name c.in-Some.field-0.value c.in-Some.field-0.next c.pair_at.ensures c.in-Some.is in
    h.3.0

pub slice_bounds-mark-start : goal.slice_bounds-mark-start
slice_bounds-mark-start c =
    let h = pair_found c.args.req.now c.loop-name.i c.pair_at.result c.in-Some.field-0.name c.in-Some.field-0.value c.in-Some.field-0.next c.pair_at.ensures c.in-Some.is in
    h.3.0

pub slice_bounds-mark-end-in-loop-name-2 : goal.slice_bounds-mark-end-in-loop-name-2
slice_bounds-mark-end-in-loop-name-2 c =
    let h = pair_found c.args.req.now c.loop-name.i c.pair_at.result c.in-Some.field-0.name c.in-Some.field-0.value c.in-Some.field-0.next c.pair_at.ensures c.in-Some.is in
    h.3.1

pub mark-seen-requires : goal.mark-seen-requires
mark-seen-requires c =
    c.requires.listed

pub loop-name-smaller : goal.loop-name-smaller
loop-name-smaller c =
    let h = pair_found c.args.req.now c.loop-name.i c.pair_at.result c.in-Some.field-0.name c.in-Some.field-0.value c.in-Some.field-0.next c.pair_at.ensures c.in-Some.is in
    omega (arith, h.2, h.3.0, h.4, h.5.0, h.5.1, h.6)

pub loop-name-preserved : goal.loop-name-preserved
loop-name-preserved c =
    let h = pair_found c.args.req.now c.loop-name.i c.pair_at.result c.in-Some.field-0.name c.in-Some.field-0.value c.in-Some.field-0.next c.pair_at.ensures c.in-Some.is in
    (omega (arith, h.5.1, h.6), sym (some_more c.args.req.now c.loop-name.i c.in-Some.field-0.name c.in-Some.field-0.value c.in-Some.field-0.next h) ∙ c.loop-name.invariant.1, marks-on (auto (record_in c.args.d.now)) (pairs_at c.args.req.now c.args.from) (pairs_at c.args.req.now c.loop-name.i) (pairs_at c.args.req.now c.in-Some.field-0.next) (pair_of c.args.req.now c.in-Some.field-0.name c.in-Some.field-0.value) c.loop-name.seen c.mark-seen.result c.loop-name.invariant.2 (list-more c.args.req.now c.loop-name.i c.in-Some.field-0.name c.in-Some.field-0.value c.in-Some.field-0.next h c.loop-name.invariant.1) c.mark-seen.ensures)
