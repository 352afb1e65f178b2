use native.Mathlib.Omega.{arith}
use mathlib.Core.Path.{refl, sym, ◌∙◌}
use lib.ListN.{drop}
use Rattle.values.specs.Value.{value_from}
use Rattle.values.proofs.Decoding.{ended, goes_on}
use Rattle.values.proofs.Words.{same_ended, same_over, same-other, same_byte}
use Rattle.values.proofs.is_text.Goals as goal

pub loop-byte-init : goal.loop-byte-init
loop-byte-init c = (omega arith, refl)

pub returns-in_default : goal.returns-in_default
returns-in_default c =
    let e = ended c.args.s.now c.loop-byte.at c.value_byte.result c.value_byte.ensures c.in_default.is in
    sym (same_ended c.args.text.now c.loop-byte.n (value_from (drop c.loop-byte.at c.args.s.now)) c.loop-byte.invariant.0 e) ∙ c.loop-byte.invariant.1

pub returns-then-n-text : goal.returns-then-n-text
returns-then-n-text c =
    let e = goes_on c.args.s.now c.loop-byte.at c.value_byte.result c.value_byte.ensures c.in-Some.is in
    sym (same_over c.args.text.now c.loop-byte.n (value_from (drop c.loop-byte.at c.args.s.now)) c.in-Some.field-0.byte (value_from (drop c.in-Some.field-0.next c.args.s.now)) c.if-n-text.true e.0) ∙ c.loop-byte.invariant.1

pub bounds-text-n : goal.bounds-text-n
bounds-text-n c =
    omega (arith, c.loop-byte.invariant.0, c.if-n-text.false)

pub returns-then-text-n : goal.returns-then-text-n
returns-then-text-n c =
    let e = goes_on c.args.s.now c.loop-byte.at c.value_byte.result c.value_byte.ensures c.in-Some.is in
    sym (same-other c.args.text.now c.loop-byte.n (value_from (drop c.loop-byte.at c.args.s.now)) c.in-Some.field-0.byte (value_from (drop c.in-Some.field-0.next c.args.s.now)) (omega (arith, c.loop-byte.invariant.0, c.if-n-text.false)) e.0 c.if-text-n.true) ∙ c.loop-byte.invariant.1

pub overflow_add-n : goal.overflow_add-n
overflow_add-n c =
    omega (arith, c.loop-byte.invariant.0, c.if-n-text.false)

pub loop-byte-smaller : goal.loop-byte-smaller
loop-byte-smaller c =
    let e = goes_on c.args.s.now c.loop-byte.at c.value_byte.result c.value_byte.ensures c.in-Some.is in
    omega (arith, e.1, e.2)

pub loop-byte-preserved : goal.loop-byte-preserved
loop-byte-preserved c =
    let e = goes_on c.args.s.now c.loop-byte.at c.value_byte.result c.value_byte.ensures c.in-Some.is in
    (omega (arith, c.loop-byte.invariant.0, c.if-n-text.false), sym (same_byte c.args.text.now c.loop-byte.n (value_from (drop c.loop-byte.at c.args.s.now)) c.in-Some.field-0.byte (value_from (drop c.in-Some.field-0.next c.args.s.now)) (omega (arith, c.loop-byte.invariant.0, c.if-n-text.false)) e.0 c.if-text-n.false) ∙ c.loop-byte.invariant.1)
