-- `values::starts::word_is` meets its contract: behind the gaps the first word is compared.
use mathlib.Core.Path.{ap, ◌∙◌}
use Rattle.std.proofs.Common.{rules, tests}
use Rattle.format.specs.Lists.{front}
use Rattle.format.specs.Bytes.{same}
use Rattle.format.specs.Words.{is_gap, not_gap}
use Rattle.values.proofs.starts.word_is.Goals as goal

pub returns : goal.returns
returns c =
    c.word_here.ensures ∙ ap (λ v. same c.args.word.now (front not_gap v)) (c.pass-i.ensures.passed is_gap (λ b r k. search (rules, tests)))
