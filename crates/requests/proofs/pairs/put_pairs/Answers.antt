use native.Mathlib.Nat.{zero-add}
use native.Mathlib.Omega.{arith}
use mathlib.Core.Path.{refl, sym, ap, ◌∙◌}
use lib.ListN.{length}
use Rattle.format.specs.Written.{written, written_all}
use Rattle.lines.proofs.Over.{over-sets}
use Rattle.writing.proofs.Texts.{length-put}
use Rattle.requests.specs.Fields.{bytes_of}
use Rattle.requests.specs.Pairs.{pairs_at, pair_of}
use Rattle.requests.proofs.Pairing.{some_more, list-more, list-end}
use Rattle.requests.proofs.Weighing.{first-length, first-sets}
use Rattle.requests.proofs.pairs.put_pairs.Goals as goal

pub loop-name-init : goal.loop-name-init
loop-name-init c =
    (refl, c.requires.from_value, zero-add (length (written_all (pairs_at c.args.req.now c.args.from))), refl)

pub returns-in_default : goal.returns-in_default
returns-in_default c =
    let e = ap written_all (list-end c.args.req.now c.loop-name.i c.in_default.ensures) in (omega (arith, c.loop-name.invariant.2, ap length e), rw e at c.loop-name.invariant.3 ∙ over-sets (written_all (pairs_at c.args.req.now c.args.from)) c.args.out.now c.requires.from_in_bounds)

pub put_pair-at-requires : goal.put_pair-at-requires
put_pair-at-requires c =
    record { in_span = (c.in-Some.ensures.3, c.in-Some.ensures.5); value_in_bounds = omega (arith, first-length (pairs_at c.args.req.now c.loop-name.i) (pairs_at c.args.req.now c.in-Some.field-0.next) (pair_of c.args.req.now c.in-Some.field-0.name c.in-Some.field-0.value) (list-more c.args.req.now c.loop-name.i c.in-Some.field-0.name c.in-Some.field-0.value c.in-Some.field-0.next c.in-Some.ensures c.loop-name.invariant.1), c.loop-name.invariant.2, c.loop-name.invariant.0, c.requires.from_in_bounds) }

pub loop-name-smaller : goal.loop-name-smaller
loop-name-smaller c =
    omega (arith, c.in-Some.ensures.2, c.in-Some.ensures.3.0, c.in-Some.ensures.4, c.in-Some.ensures.5.0, c.in-Some.ensures.5.1, c.in-Some.ensures.6)

pub loop-name-preserved : goal.loop-name-preserved
loop-name-preserved c =
    let W = written (bytes_of c.args.req.now c.in-Some.field-0.name) (bytes_of c.args.req.now c.in-Some.field-0.value) in (
      length-put c.put_pair-at.new.out c.loop-name.out c.loop-name.at W c.put_pair-at.ensures.1 ∙ c.loop-name.invariant.0,
      sym (some_more c.args.req.now c.loop-name.i c.in-Some.field-0.name c.in-Some.field-0.value c.in-Some.field-0.next c.in-Some.ensures) ∙ c.loop-name.invariant.1,
      omega (arith, first-length (pairs_at c.args.req.now c.loop-name.i) (pairs_at c.args.req.now c.in-Some.field-0.next) (pair_of c.args.req.now c.in-Some.field-0.name c.in-Some.field-0.value) (list-more c.args.req.now c.loop-name.i c.in-Some.field-0.name c.in-Some.field-0.value c.in-Some.field-0.next c.in-Some.ensures c.loop-name.invariant.1), c.put_pair-at.ensures.0, c.loop-name.invariant.2),
      rw (c.put_pair-at.ensures.1, c.put_pair-at.ensures.0) (sym (first-sets (pairs_at c.args.req.now c.loop-name.i) (pairs_at c.args.req.now c.in-Some.field-0.next) (pair_of c.args.req.now c.in-Some.field-0.name c.in-Some.field-0.value) (list-more c.args.req.now c.loop-name.i c.in-Some.field-0.name c.in-Some.field-0.value c.in-Some.field-0.next c.in-Some.ensures c.loop-name.invariant.1) c.loop-name.out c.loop-name.at) ∙ c.loop-name.invariant.3),
    )
