use native.Mathlib.Nat.{zero-add}
use native.Mathlib.Omega.{arith}
use mathlib.Core.Path.{sym, ap, ◌∙◌}
use lib.ListN.{length, drop}
use Rattle.format.specs.Lists.{front}
use Rattle.format.specs.Bytes.{Bytes}
use Rattle.format.specs.Words.{not_gap}
use Rattle.values.specs.Value.{value_from}
use Rattle.values.proofs.Decoding.{ended, goes_on}
use Rattle.values.proofs.Words.{word-ended, word_on, word-length}
use Rattle.values.proofs.starts.word_len.Goals as goal

pub loop-byte-init : goal.loop-byte-init
loop-byte-init c =
    zero-add (length (front not_gap (value_from (drop c.args.i c.args.s.now))))

pub returns-in_default : goal.returns-in_default
returns-in_default c =
    let e = ended c.args.s.now c.loop-byte.at c.value_byte.result c.value_byte.ensures c.in_default.is in omega (arith, ap (λ (v : Bytes). length (front not_gap v)) e)

pub returns-then-is_gap : goal.returns-then-is_gap
returns-then-is_gap c =
    let e = goes_on c.args.s.now c.loop-byte.at c.value_byte.result c.value_byte.ensures c.in-Some.is in let f = word-ended (value_from (drop c.loop-byte.at c.args.s.now)) (value_from (drop c.in-Some.field-0.next c.args.s.now)) c.in-Some.field-0.byte e.0 (sym c.is_gap.ensures ∙ c.if-is_gap.true) in omega (arith, ap length f)

pub overflow_add-n : goal.overflow_add-n
overflow_add-n c =
    let e = goes_on c.args.s.now c.loop-byte.at c.value_byte.result c.value_byte.ensures c.in-Some.is in let f = word_on (value_from (drop c.loop-byte.at c.args.s.now)) (value_from (drop c.in-Some.field-0.next c.args.s.now)) c.in-Some.field-0.byte e.0 (sym c.is_gap.ensures ∙ c.if-is_gap.false) in omega (arith, ap length f, word-length c.args.s.now c.args.i)

pub loop-byte-smaller : goal.loop-byte-smaller
loop-byte-smaller c =
    let e = goes_on c.args.s.now c.loop-byte.at c.value_byte.result c.value_byte.ensures c.in-Some.is in omega (arith, e.1, e.2)

pub loop-byte-preserved : goal.loop-byte-preserved
loop-byte-preserved c =
    let e = goes_on c.args.s.now c.loop-byte.at c.value_byte.result c.value_byte.ensures c.in-Some.is in let f = word_on (value_from (drop c.loop-byte.at c.args.s.now)) (value_from (drop c.in-Some.field-0.next c.args.s.now)) c.in-Some.field-0.byte e.0 (sym c.is_gap.ensures ∙ c.if-is_gap.false) in omega (arith, ap length f)
