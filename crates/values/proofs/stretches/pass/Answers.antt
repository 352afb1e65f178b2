use native.Mathlib.Omega.{arith}
use mathlib.Core.Path.{refl, sym, ap, ◌∙◌}
use lib.ListN.{drop}
use Rattle.format.specs.Lists.{behind}
use Rattle.values.specs.Value.{value_from}
use Rattle.values.proofs.Decoding.{ended, goes_on}
use Rattle.values.proofs.Words.{byte-passed, byte_left}
use Rattle.values.proofs.stretches.pass.Goals as goal

pub loop-byte-init : goal.loop-byte-init
loop-byte-init g c =
    (omega arith, c.requires.i_in_bounds, λ p t. refl)

pub returns-in_default-clause-passed : goal.returns-in_default-clause-passed
returns-in_default-clause-passed g c =
    let e = ended c.args.s.now c.loop-byte.at c.value_byte.result c.value_byte.ensures c.in_default.is in
    λ p t. e ∙ sym (ap (behind p) e) ∙ c.loop-byte.invariant.2 p t

pub returns-in_default-clause-inside : goal.returns-in_default-clause-inside
returns-in_default-clause-inside g c =
    (c.loop-byte.invariant.0, c.loop-byte.invariant.1)

pub loop-byte-smaller : goal.loop-byte-smaller
loop-byte-smaller g c =
    let e = goes_on c.args.s.now c.loop-byte.at c.value_byte.result c.value_byte.ensures c.in-Some.is in
    omega (arith, e.1, e.2)

pub loop-byte-preserved : goal.loop-byte-preserved
loop-byte-preserved g c =
    let e = goes_on c.args.s.now c.loop-byte.at c.value_byte.result c.value_byte.ensures c.in-Some.is in
    (omega (arith, c.loop-byte.invariant.0, e.1), e.2, λ p t. sym (byte-passed p (value_from (drop c.loop-byte.at c.args.s.now)) (value_from (drop c.in-Some.field-0.next c.args.s.now)) c.in-Some.field-0.byte e.0 (sym (t c.in-Some.field-0.byte c.test.result c.test.ensures) ∙ c.if-test.true)) ∙ c.loop-byte.invariant.2 p t)

pub returns-else-test-clause-passed : goal.returns-else-test-clause-passed
returns-else-test-clause-passed g c =
    let e = goes_on c.args.s.now c.loop-byte.at c.value_byte.result c.value_byte.ensures c.in-Some.is in
    λ p t. sym (byte_left p (value_from (drop c.loop-byte.at c.args.s.now)) (value_from (drop c.in-Some.field-0.next c.args.s.now)) c.in-Some.field-0.byte e.0 (sym (t c.in-Some.field-0.byte c.test.result c.test.ensures) ∙ c.if-test.false)) ∙ c.loop-byte.invariant.2 p t

pub returns-else-test-clause-inside : goal.returns-else-test-clause-inside
returns-else-test-clause-inside g c =
    (c.loop-byte.invariant.0, c.loop-byte.invariant.1)
