use native.Mathlib.Nat.{zero-add}
use native.Mathlib.Numerals.{add-one}
use native.Mathlib.Omega.{arith}
use mathlib.Core.Path.{refl, sym, ap, ◌∙◌}
use lib.ListN.{length, drop, length-set}
use Rattle.format.specs.Lists.{front}
use Rattle.format.specs.Words.{not_gap}
use Rattle.values.specs.Value.{value_from}
use Rattle.lines.proofs.Over.{over-sets}
use Rattle.values.proofs.Decoding.{ended, goes_on}
use Rattle.values.proofs.Words.{word-ended, word_on}
use Rattle.values.proofs.starts.copy_word.Goals as goal

pub loop-byte-init : goal.loop-byte-init
loop-byte-init c =
    (refl, zero-add (length (front not_gap (value_from (drop c.args.i c.args.s.now)))), refl)

pub returns-in_default : goal.returns-in_default
returns-in_default c =
    let e = ap (front not_gap) (ended c.args.s.now c.loop-byte.at c.value_byte.result c.value_byte.ensures c.in_default.is) in rw e at c.loop-byte.invariant.2 ∙ over-sets (front not_gap (value_from (drop c.args.i c.args.s.now))) c.args.out.now (c.requires)

pub returns-then-is_gap : goal.returns-then-is_gap
returns-then-is_gap c =
    let e = goes_on c.args.s.now c.loop-byte.at c.value_byte.result c.value_byte.ensures c.in-Some.is in let f = word-ended (value_from (drop c.loop-byte.at c.args.s.now)) (value_from (drop c.in-Some.field-0.next c.args.s.now)) c.in-Some.field-0.byte e.0 (sym c.is_gap.ensures ∙ c.if-is_gap.true) in rw f at c.loop-byte.invariant.2 ∙ over-sets (front not_gap (value_from (drop c.args.i c.args.s.now))) c.args.out.now (c.requires)

pub bounds-out-n : goal.bounds-out-n
bounds-out-n c =
    let e = goes_on c.args.s.now c.loop-byte.at c.value_byte.result c.value_byte.ensures c.in-Some.is in let f = word_on (value_from (drop c.loop-byte.at c.args.s.now)) (value_from (drop c.in-Some.field-0.next c.args.s.now)) c.in-Some.field-0.byte e.0 (sym c.is_gap.ensures ∙ c.if-is_gap.false) in omega (arith, ap length f)

pub overflow_add-n : goal.overflow_add-n
overflow_add-n c =
    let e = goes_on c.args.s.now c.loop-byte.at c.value_byte.result c.value_byte.ensures c.in-Some.is in let f = word_on (value_from (drop c.loop-byte.at c.args.s.now)) (value_from (drop c.in-Some.field-0.next c.args.s.now)) c.in-Some.field-0.byte e.0 (sym c.is_gap.ensures ∙ c.if-is_gap.false) in omega (arith, ap length f)

pub loop-byte-smaller : goal.loop-byte-smaller
loop-byte-smaller c =
    let e = goes_on c.args.s.now c.loop-byte.at c.value_byte.result c.value_byte.ensures c.in-Some.is in omega (arith, e.1, e.2)

pub loop-byte-preserved : goal.loop-byte-preserved
loop-byte-preserved c =
    let e = goes_on c.args.s.now c.loop-byte.at c.value_byte.result c.value_byte.ensures c.in-Some.is in let f = word_on (value_from (drop c.loop-byte.at c.args.s.now)) (value_from (drop c.in-Some.field-0.next c.args.s.now)) c.in-Some.field-0.byte e.0 (sym c.is_gap.ensures ∙ c.if-is_gap.false) in (simp length-set c.loop-byte.invariant.0, omega (arith, ap length f), rw add-one (rw f at c.loop-byte.invariant.2))
