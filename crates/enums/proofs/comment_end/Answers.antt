-- `enums::comment_end` meets its contract: the comment is closed where a parenthesis stands.
use Rattle.std.proofs.Common.{rules, tests}
use Rattle.values.specs.Stretches.{not_paren}
use native.Mathlib.Omega.{arith}
use Rattle.values.proofs.Decoding.{ended, goes_on}
use Rattle.enums.proofs.Reading.{never-open, comment-ends}
use Rattle.enums.proofs.comment_end.Goals as goal

pub pass-close-requires-clause-i_in_bounds : goal.pass-close-requires-clause-i_in_bounds
pass-close-requires-clause-i_in_bounds c =
    c.requires.i_in_bounds

pub returns-in-None : goal.returns-in-None
returns-in-None c =
    let e = ended c.args.d.now c.pass-close.result c.value_byte.result c.value_byte.ensures c.in-None.is in
    absurd (never-open c.args.d.now c.args.i c.pass-close.result (c.pass-close.ensures.passed not_paren (λ b r k. search (rules, tests))) c.requires.d_value e)

pub returns-in-Some : goal.returns-in-Some
returns-in-Some c =
    let e = goes_on c.args.d.now c.pass-close.result c.value_byte.result c.value_byte.ensures c.in-Some.is in
    (omega (arith, c.pass-close.ensures.inside.0, e.1), e.2, comment-ends c.args.d.now c.args.i c.pass-close.result (c.pass-close.ensures.passed not_paren (λ b r k. search (rules, tests))) c.requires.d_value c.in-Some.x.byte c.in-Some.x.next e.0)
