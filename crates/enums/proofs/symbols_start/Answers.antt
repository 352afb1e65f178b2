-- `enums::symbols_start` meets its contract: the name, the gaps and the word `enum` are passed one after the other.
use Rattle.std.proofs.Common.{rules, tests}
use mathlib.Core.Path.{ap, ◌∙◌}
use Rattle.format.specs.Lists.{behind}
use Rattle.format.specs.Words.{is_gap, not_gap}
use Rattle.format.specs.Types.{before_comment}
use Rattle.enums.proofs.Reading.{starts}
use Rattle.enums.proofs.symbols_start.Goals as goal

pub pass-name-requires-clause-i_in_bounds : goal.pass-name-requires-clause-i_in_bounds
pass-name-requires-clause-i_in_bounds c =
    c.requires.0

pub pass-gap-requires-clause-i_in_bounds : goal.pass-gap-requires-clause-i_in_bounds
pass-gap-requires-clause-i_in_bounds c =
    c.pass-name.ensures.inside.1

pub pass-head-requires-clause-i_in_bounds : goal.pass-head-requires-clause-i_in_bounds
pass-head-requires-clause-i_in_bounds c =
    c.pass-gap.ensures.inside.1

pub pass-requires-clause-i_in_bounds : goal.pass-requires-clause-i_in_bounds
pass-requires-clause-i_in_bounds c =
    c.pass-head.ensures.inside.1

pub returns : goal.returns
returns c =
    starts c.args.d.now c.args.v c.pass.result c.requires.1 ((c.pass.ensures.passed before_comment (λ b r k. search (rules, tests))) ∙ ap (behind before_comment) ((c.pass-head.ensures.passed is_gap (λ b r k. search (rules, tests))) ∙ ap (behind is_gap) ((c.pass-gap.ensures.passed not_gap (λ b r k. search (rules, tests))) ∙ ap (behind not_gap) (c.pass-name.ensures.passed is_gap (λ b r k. search (rules, tests)))))) c.pass.ensures.inside.1
