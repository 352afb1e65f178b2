use borrow.Author.Tests.{not-true, not-false}
use native.Mathlib.Nat.{zero-add}
use native.Mathlib.Omega.{arith}
use mathlib.Core.Path.{refl, sym, ap, ◌∙◌}
use mathlib.Core.List.{List}
use lib.ListN.{length}
use Rattle.format.specs.Bytes.{all}
use Rattle.format.specs.Written.{Pair, written_all, is_legal_pair}
use Rattle.requests.specs.Pairs.{pairs_at, pair_of}
use Rattle.requests.proofs.Pairing.{some_more, list-more, list-end}
use Rattle.requests.proofs.Weighing.{pair_size, first-illegal, first-legal, first-length, first_count}
use mathlib.Core.Bool.{not}
use Rattle.requests.proofs.pairs.weigh.Goals as goal

pub loop-name-init : goal.loop-name-init
loop-name-init c =
    (c.requires.req_len_bound.1, c.requires.from_value, omega arith, omega arith, refl, zero-add (length (written_all (pairs_at c.args.req.now c.args.from))), zero-add (length (pairs_at c.args.req.now c.args.from)))

pub returns-in_default : goal.returns-in_default
returns-in_default c =
    let e = list-end c.args.req.now c.loop-name.i c.in_default.ensures in (c.loop-name.invariant.4 ∙ ap (all is_legal_pair) e, omega (arith, c.loop-name.invariant.5, ap (λ (ps : List Pair). length (written_all ps)) e), omega (arith, c.loop-name.invariant.6, ap length e))

pub is_legal_pair-requires : goal.is_legal_pair-requires
is_legal_pair-requires c =
    ((c.in-Some.ensures.3, c.in-Some.ensures.5))

pub returns-then-not-is_legal_pair : goal.returns-then-not-is_legal_pair
returns-then-not-is_legal_pair c =
    c.loop-name.invariant.4 ∙ first-illegal (pairs_at c.args.req.now c.loop-name.i) (pairs_at c.args.req.now c.in-Some.field-0.next) (pair_of c.args.req.now c.in-Some.field-0.name c.in-Some.field-0.value) (list-more c.args.req.now c.loop-name.i c.in-Some.field-0.name c.in-Some.field-0.value c.in-Some.field-0.next c.in-Some.ensures c.loop-name.invariant.1) (sym c.is_legal_pair.ensures ∙ not-true c.is_legal_pair.result (ap not c.if-not-is_legal_pair.true))

pub pair_len-len-requires : goal.pair_len-len-requires
pair_len-len-requires c =
    record { req_len_bound = c.requires.req_len_bound.0; in_span = (c.in-Some.ensures.3, c.in-Some.ensures.5) }

pub overflow_add-len : goal.overflow_add-len
overflow_add-len c =
    omega (arith, pair_size c.args.req.now c.loop-name.i c.in-Some.field-0.name c.in-Some.field-0.value c.in-Some.field-0.next c.in-Some.ensures, c.pair_len-len.ensures, c.loop-name.invariant.2, c.requires.req_len_bound.0, c.in-Some.ensures.5.1, c.in-Some.ensures.6)

pub overflow_add-count : goal.overflow_add-count
overflow_add-count c =
    omega (arith, c.loop-name.invariant.3, c.loop-name.invariant.0, c.requires.req_len_bound.0)

pub loop-name-smaller : goal.loop-name-smaller
loop-name-smaller c =
    omega (arith, c.in-Some.ensures.2, c.in-Some.ensures.3.0, c.in-Some.ensures.4, c.in-Some.ensures.5.0, c.in-Some.ensures.5.1, c.in-Some.ensures.6)

pub loop-name-preserved : goal.loop-name-preserved
loop-name-preserved c = (
  omega (arith, c.in-Some.ensures.5.1, c.in-Some.ensures.6),
  sym (some_more c.args.req.now c.loop-name.i c.in-Some.field-0.name c.in-Some.field-0.value c.in-Some.field-0.next c.in-Some.ensures) ∙ c.loop-name.invariant.1,
  omega (arith, pair_size c.args.req.now c.loop-name.i c.in-Some.field-0.name c.in-Some.field-0.value c.in-Some.field-0.next c.in-Some.ensures, c.pair_len-len.ensures, c.loop-name.invariant.2),
  omega (arith, c.loop-name.invariant.3, c.in-Some.ensures.2, c.in-Some.ensures.3.0, c.in-Some.ensures.4, c.in-Some.ensures.5.0, c.in-Some.ensures.5.1, c.in-Some.ensures.6),
  c.loop-name.invariant.4 ∙ first-legal (pairs_at c.args.req.now c.loop-name.i) (pairs_at c.args.req.now c.in-Some.field-0.next) (pair_of c.args.req.now c.in-Some.field-0.name c.in-Some.field-0.value) (list-more c.args.req.now c.loop-name.i c.in-Some.field-0.name c.in-Some.field-0.value c.in-Some.field-0.next c.in-Some.ensures c.loop-name.invariant.1) (sym c.is_legal_pair.ensures ∙ not-false c.is_legal_pair.result (ap not c.if-not-is_legal_pair.false)),
  omega (arith, first-length (pairs_at c.args.req.now c.loop-name.i) (pairs_at c.args.req.now c.in-Some.field-0.next) (pair_of c.args.req.now c.in-Some.field-0.name c.in-Some.field-0.value) (list-more c.args.req.now c.loop-name.i c.in-Some.field-0.name c.in-Some.field-0.value c.in-Some.field-0.next c.in-Some.ensures c.loop-name.invariant.1), c.pair_len-len.ensures, c.loop-name.invariant.5),
  omega (arith, first_count (pairs_at c.args.req.now c.loop-name.i) (pairs_at c.args.req.now c.in-Some.field-0.next) (pair_of c.args.req.now c.in-Some.field-0.name c.in-Some.field-0.value) (list-more c.args.req.now c.loop-name.i c.in-Some.field-0.name c.in-Some.field-0.value c.in-Some.field-0.next c.in-Some.ensures c.loop-name.invariant.1), c.loop-name.invariant.6),
)
