use native.Mathlib.Omega.{arith}
use mathlib.Core.Path.{refl, sym, ap, ◌∙◌}
use lib.ListN.{drop}
use Rattle.format.specs.Lists.{front}
use Rattle.format.specs.Words.{not_gap}
use Rattle.values.specs.Value.{value_from}
use Rattle.values.proofs.Decoding.{ended, goes_on}
use Rattle.values.proofs.Words.{word-ended, word_on, same_ended, same_over, same-other, same_byte}
use Rattle.values.proofs.starts.word_here.Goals as goal

pub loop-byte-init : goal.loop-byte-init
loop-byte-init c = (omega arith, refl)

pub returns-in_default : goal.returns-in_default
returns-in_default c =
    let e = ended c.args.s.now c.loop-byte.at c.value_byte.result c.value_byte.ensures c.in_default.is in
    sym (same_ended c.args.word.now c.loop-byte.n (front not_gap (value_from (drop c.loop-byte.at c.args.s.now))) c.loop-byte.invariant.0 (ap (front not_gap) e)) ∙ c.loop-byte.invariant.1

pub returns-then-is_gap : goal.returns-then-is_gap
returns-then-is_gap c =
    let e = goes_on c.args.s.now c.loop-byte.at c.value_byte.result c.value_byte.ensures c.in-Some.is in
    let f = word-ended (value_from (drop c.loop-byte.at c.args.s.now)) (value_from (drop c.in-Some.field-0.next c.args.s.now)) c.in-Some.field-0.byte e.0 (sym c.is_gap.ensures ∙ c.if-is_gap.true) in
    sym (same_ended c.args.word.now c.loop-byte.n (front not_gap (value_from (drop c.loop-byte.at c.args.s.now))) c.loop-byte.invariant.0 f) ∙ c.loop-byte.invariant.1

pub returns-then-n-word : goal.returns-then-n-word
returns-then-n-word c =
    let e = goes_on c.args.s.now c.loop-byte.at c.value_byte.result c.value_byte.ensures c.in-Some.is in
    let f = word_on (value_from (drop c.loop-byte.at c.args.s.now)) (value_from (drop c.in-Some.field-0.next c.args.s.now)) c.in-Some.field-0.byte e.0 (sym c.is_gap.ensures ∙ c.if-is_gap.false) in
    sym (same_over c.args.word.now c.loop-byte.n (front not_gap (value_from (drop c.loop-byte.at c.args.s.now))) c.in-Some.field-0.byte (front not_gap (value_from (drop c.in-Some.field-0.next c.args.s.now))) c.if-n-word.true f) ∙ c.loop-byte.invariant.1

pub bounds-word-n : goal.bounds-word-n
bounds-word-n c =
    omega (arith, c.loop-byte.invariant.0, c.if-n-word.false)

pub returns-then-word-n : goal.returns-then-word-n
returns-then-word-n c =
    let e = goes_on c.args.s.now c.loop-byte.at c.value_byte.result c.value_byte.ensures c.in-Some.is in
    let f = word_on (value_from (drop c.loop-byte.at c.args.s.now)) (value_from (drop c.in-Some.field-0.next c.args.s.now)) c.in-Some.field-0.byte e.0 (sym c.is_gap.ensures ∙ c.if-is_gap.false) in
    sym (same-other c.args.word.now c.loop-byte.n (front not_gap (value_from (drop c.loop-byte.at c.args.s.now))) c.in-Some.field-0.byte (front not_gap (value_from (drop c.in-Some.field-0.next c.args.s.now))) (omega (arith, c.loop-byte.invariant.0, c.if-n-word.false)) f c.if-word-n.true) ∙ c.loop-byte.invariant.1

pub overflow_add-n : goal.overflow_add-n
overflow_add-n c =
    omega (arith, c.loop-byte.invariant.0, c.if-n-word.false)

pub loop-byte-smaller : goal.loop-byte-smaller
loop-byte-smaller c =
    let e = goes_on c.args.s.now c.loop-byte.at c.value_byte.result c.value_byte.ensures c.in-Some.is in
    omega (arith, e.1, e.2)

pub loop-byte-preserved : goal.loop-byte-preserved
loop-byte-preserved c =
    let e = goes_on c.args.s.now c.loop-byte.at c.value_byte.result c.value_byte.ensures c.in-Some.is in
    let f = word_on (value_from (drop c.loop-byte.at c.args.s.now)) (value_from (drop c.in-Some.field-0.next c.args.s.now)) c.in-Some.field-0.byte e.0 (sym c.is_gap.ensures ∙ c.if-is_gap.false) in
    (omega (arith, c.loop-byte.invariant.0, c.if-n-word.false), sym (same_byte c.args.word.now c.loop-byte.n (front not_gap (value_from (drop c.loop-byte.at c.args.s.now))) c.in-Some.field-0.byte (front not_gap (value_from (drop c.in-Some.field-0.next c.args.s.now))) (omega (arith, c.loop-byte.invariant.0, c.if-n-word.false)) f c.if-word-n.false) ∙ c.loop-byte.invariant.1)
