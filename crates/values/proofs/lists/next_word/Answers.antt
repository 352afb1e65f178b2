-- `values::lists::next_word` meets its contract: behind the gaps stands the word, behind its bytes what follows it.
use native.Mathlib.Omega.{arith}
use lib.ListN.{drop}
use Rattle.std.proofs.Common.{rules, tests}
use Rattle.format.specs.Words.{is_gap, not_gap}
use Rattle.values.specs.Value.{value_from}
use Rattle.values.proofs.Decoding.{ended, goes_on}
use Rattle.values.proofs.Splitting.{words-none, words-next}
use Rattle.values.proofs.lists.next_word.Goals as goal

pub pass-start-requires-clause-i_in_bounds : goal.pass-start-requires-clause-i_in_bounds
pass-start-requires-clause-i_in_bounds c =
    c.requires

pub returns-in_default : goal.returns-in_default
returns-in_default c =
    let e = ended c.args.s.now c.pass-start.result c.value_byte.result c.value_byte.ensures c.in_default.is in
    words-none (value_from (drop c.args.i c.args.s.now)) (value_from (drop c.pass-start.result c.args.s.now)) (c.pass-start.ensures.passed is_gap (λ b r k. search (rules, tests))) e

pub pass-rest-requires-clause-i_in_bounds : goal.pass-rest-requires-clause-i_in_bounds
pass-rest-requires-clause-i_in_bounds c =
    let e = goes_on c.args.s.now c.pass-start.result c.value_byte.result c.value_byte.ensures c.in-Some.is in
    e.2

pub returns : goal.returns
returns c =
    let s = c.args.s.now in
    let e = goes_on s c.pass-start.result c.value_byte.result c.value_byte.ensures c.in-Some.is in
    (words-next (value_from (drop c.args.i s)) (value_from (drop c.pass-start.result s)) (c.pass-start.ensures.passed is_gap (λ b r k. search (rules, tests))) (value_from (drop c.in-Some.field-0.next s)) (value_from (drop c.pass-rest.result s)) c.in-Some.field-0.byte e.0 (c.pass-rest.ensures.passed not_gap (λ b r k. search (rules, tests))), c.pass-start.ensures.inside.0, omega (arith, e.1, c.pass-rest.ensures.inside.0), c.pass-rest.ensures.inside.1)
