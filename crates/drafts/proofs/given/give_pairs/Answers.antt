use Prim.Native.Nat.{◌-◌}
use native.Mathlib.Omega.{arith}
use mathlib.Core.Path.{sym, ap, ◌∙◌}
use mathlib.Core.List.{[], ◌∷◌}
use Rattle.format.specs.Numbering.{pair_names}
use Rattle.requests.specs.Fields.{bytes_of}
use Rattle.requests.specs.Pairs.{pairs_at}
use Rattle.requests.proofs.Pairing.{pair_found, pair-missed, some_more, list-more, list-end}
use Rattle.drafts.proofs.Giving.{going_start, going_end, going_on}
use Rattle.drafts.proofs.given.give_pairs.Goals as goal

pub loop-name-init : goal.loop-name-init
loop-name-init c =
    (c.requires.req_len_bound.1, c.requires.req_len_bound.2, going_start c.args.d.now c.args.l (pair_names (pairs_at c.args.req.now c.args.from)) c.args.set)

pub returns-in_default : goal.returns-in_default
returns-in_default c =
    going_end c.args.d.now c.args.l (pair_names (pairs_at c.args.req.now c.args.from)) c.args.set c.loop-name.given (pair_names (pairs_at c.args.req.now c.loop-name.i)) c.loop-name.invariant.2 (ap pair_names (list-end c.args.req.now c.loop-name.i (pair-missed c.args.req.now c.loop-name.i c.pair_at.result c.pair_at.ensures c.in_default.is)))

pub slice_bounds-give-count : goal.slice_bounds-give-count
slice_bounds-give-count c =
    (pair_found c.args.req.now c.loop-name.i c.pair_at.result c.in-Some.field-0.name c.in-Some.field-0.value c.in-Some.field-0.next c.pair_at.ensures c.in-Some.is).3.0

pub slice_bounds-give-start : goal.slice_bounds-give-start
slice_bounds-give-start c =
    (pair_found c.args.req.now c.loop-name.i c.pair_at.result c.in-Some.field-0.name c.in-Some.field-0.value c.in-Some.field-0.next c.pair_at.ensures c.in-Some.is).3.0

pub slice_bounds-give-end : goal.slice_bounds-give-end
slice_bounds-give-end c =
    (pair_found c.args.req.now c.loop-name.i c.pair_at.result c.in-Some.field-0.name c.in-Some.field-0.value c.in-Some.field-0.next c.pair_at.ensures c.in-Some.is).3.1

pub give-given-requires : goal.give-given-requires
give-given-requires c =
    c.requires.listed

pub loop-name-smaller : goal.loop-name-smaller
loop-name-smaller c =
    let h = pair_found c.args.req.now c.loop-name.i c.pair_at.result c.in-Some.field-0.name c.in-Some.field-0.value c.in-Some.field-0.next c.pair_at.ensures c.in-Some.is in
    omega (arith, h.2, h.3.0, h.4, h.5.0, h.5.1, h.6)

pub loop-name-preserved : goal.loop-name-preserved
loop-name-preserved c =
    let h = pair_found c.args.req.now c.loop-name.i c.pair_at.result c.in-Some.field-0.name c.in-Some.field-0.value c.in-Some.field-0.next c.pair_at.ensures c.in-Some.is in
    let e = list-more c.args.req.now c.loop-name.i c.in-Some.field-0.name c.in-Some.field-0.value c.in-Some.field-0.next h c.loop-name.invariant.1 in
    (omega (arith, h.5.1, h.6), sym (some_more c.args.req.now c.loop-name.i c.in-Some.field-0.name c.in-Some.field-0.value c.in-Some.field-0.next h) ∙ c.loop-name.invariant.1, going_on c.args.d.now c.args.l (pair_names (pairs_at c.args.req.now c.args.from)) c.args.set c.loop-name.given c.give-given.result (pair_names (pairs_at c.args.req.now c.loop-name.i)) (bytes_of c.args.req.now c.in-Some.field-0.name ∷ []) (pair_names (pairs_at c.args.req.now c.in-Some.field-0.next)) c.loop-name.invariant.2 (ap pair_names e) c.give-given.ensures)
