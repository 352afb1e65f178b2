-- `selection::programs::past_token` meets its contract.
use native.Mathlib.Omega.{arith}
use mathlib.Core.Path.{sym, ap, ◌∙◌}
use lib.ListN.{drop}
use Rattle.selection.specs.Tokens.{token_bytes, front_in}
use Rattle.selection.specs.Rows.{progress_in, past_front}
use Rattle.selection.specs.declared.parts.Token.{Token}
use Rattle.selection.proofs.Making.{past-name-token, past-text-token, past-sign-token}
use Rattle.selection.proofs.programs.past_token.Goals as goal

pub overflow_add-at : goal.overflow_add-at
overflow_add-at c =
    let q = ap token_bytes c.in-Name.is in omega (arith, q, c.requires.1)

pub overflow_add-at-in-Text-2 : goal.overflow_add-at-in-Text-2
overflow_add-at-in-Text-2 c =
    let q = ap token_bytes c.in-Text.is in omega (arith, q, c.requires.1)

pub overflow_sub-at : goal.overflow_sub-at
overflow_sub-at c =
    let q = ap token_bytes c.in-Text.is in omega (arith, q, c.requires.0)

pub returns-in-Nothing : goal.returns-in-Nothing
returns-in-Nothing c =
    λ s. c.to_stage.ensures s ∙ ap (λ (x : Token). past_front (front_in (drop c.args.at s) x) (progress_in s c.args.r)) (sym c.in-Nothing.is)

pub returns-in-Gap : goal.returns-in-Gap
returns-in-Gap c =
    λ s. ap (λ (x : Token). past_front (front_in (drop c.args.at s) x) (progress_in s c.args.r)) (sym c.in-Gap.is)

pub returns-in-Name : goal.returns-in-Name
returns-in-Name c =
    λ s. past-name-token s c.args.at _ (progress_in s c.args.r) _ c.args.t (c.past_name.ensures s) c.in-Name.is

pub returns-in-Int : goal.returns-in-Int
returns-in-Int c =
    λ s. c.past_operand.ensures s ∙ ap (λ (x : Token). past_front (front_in (drop c.args.at s) x) (progress_in s c.args.r)) (sym c.in-Int.is)

pub returns-in-Text : goal.returns-in-Text
returns-in-Text c =
    λ s. past-text-token s c.args.at _ (progress_in s c.args.r) _ c.args.t (c.past_operand-in-Text.ensures s) c.in-Text.is

pub returns-in-Sign : goal.returns-in-Sign
returns-in-Sign c =
    λ s. past-sign-token (drop c.args.at s) (progress_in s c.args.r) _ c.in-Sign.g (c.past_sign.ensures s) ∙ ap (λ (x : Token). past_front (front_in (drop c.args.at s) x) (progress_in s c.args.r)) (sym c.in-Sign.is)
