use native.Mathlib.Omega.{arith}
use mathlib.Core.Path.{ap}
use lib.ListN.{drop}
use Rattle.values.specs.Value.{value_from}
use Rattle.values.proofs.Decoding.{ended, goes_on}
use Rattle.values.proofs.Counts.{words_from, words-from, words-on}
use Rattle.values.proofs.lists.count_words.Goals as goal

pub loop-byte-init : goal.loop-byte-init
loop-byte-init c =
    (omega arith, omega arith, omega (arith, words-from (value_from c.args.s.now)))

pub returns-in_default : goal.returns-in_default
returns-in_default c =
    let e = ended c.args.s.now c.loop-byte.i c.value_byte.result c.value_byte.ensures c.in_default.is in
    (omega (arith, c.loop-byte.invariant.2, ap (words_from c.loop-byte.gap) e), omega (arith, c.loop-byte.invariant))

pub overflow_add-n : goal.overflow_add-n
overflow_add-n c =
    let u = goes_on c.args.s.now c.loop-byte.i c.value_byte.result c.value_byte.ensures c.in-Some.is in
    omega (arith, c.loop-byte.invariant.1, c.one_if-n.ensures.1, u.1, u.2)

pub loop-byte-smaller : goal.loop-byte-smaller
loop-byte-smaller c =
    let u = goes_on c.args.s.now c.loop-byte.i c.value_byte.result c.value_byte.ensures c.in-Some.is in
    omega (arith, u.1, u.2)

pub loop-byte-preserved : goal.loop-byte-preserved
loop-byte-preserved c =
    let u = goes_on c.args.s.now c.loop-byte.i c.value_byte.result c.value_byte.ensures c.in-Some.is in
    let k = words-on c.loop-byte.gap c.is_gap-here.result c.one_if-n.result c.in-Some.field-0.byte (value_from (drop c.loop-byte.i c.args.s.now)) (value_from (drop c.in-Some.field-0.next c.args.s.now)) u.0 c.is_gap-here.ensures c.one_if-n.ensures.0 in
    (u.2, omega (arith, c.loop-byte.invariant.1, c.one_if-n.ensures.1, u.1), omega (arith, c.loop-byte.invariant.2, k))
