-- `selection::programs::past_sign` meets its contract.
use mathlib.Core.Logic.{inl, inr}
use mathlib.Core.Path.{sym, ap, ◌∙◌}
use Rattle.selection.specs.Tokens.{sign_in}
use Rattle.selection.specs.Rows.{progress_in, past_symbol}
use Rattle.selection.specs.declared.parts.Symbol.{Symbol}
use Rattle.selection.proofs.programs.past_sign.Goals as goal

pub returns-in-Comparing : goal.returns-in-Comparing
returns-in-Comparing c =
    λ s. c.past_operator.ensures s ∙ ap (λ (g : Symbol). past_symbol (sign_in g) (progress_in s c.args.r)) (sym c.in-Comparing.is)

pub returns-in-Not : goal.returns-in-Not
returns-in-Not c =
    λ s. c.from_stage.ensures s ∙ ap (λ (g : Symbol). past_symbol (sign_in g) (progress_in s c.args.r)) (sym c.in-Not.is)

pub returns-in-Open : goal.returns-in-Open
returns-in-Open c =
    λ s. c.past_open.ensures s ∙ ap (λ (g : Symbol). past_symbol (sign_in g) (progress_in s c.args.r)) (sym c.in-Open.is)

pub returns-in-Close : goal.returns-in-Close
returns-in-Close c =
    λ s. c.past_close.ensures s ∙ ap (λ (g : Symbol). past_symbol (sign_in g) (progress_in s c.args.r)) (sym c.in-Close.is)

pub returns-in-Unknown : goal.returns-in-Unknown
returns-in-Unknown c =
    λ s. c.to_stage.ensures s ∙ ap (λ (g : Symbol). past_symbol (sign_in g) (progress_in s c.args.r)) (sym c.in-Unknown.is)

pub returns-in-And : goal.returns-in-And
returns-in-And c =
    λ s. c.from_stage-in-And.ensures s ∙ elim c.in-And.is [ inl e ↦ ap (λ (g : Symbol). past_symbol (sign_in g) (progress_in s c.args.r)) (sym e) | inr e ↦ ap (λ (g : Symbol). past_symbol (sign_in g) (progress_in s c.args.r)) (sym e) ]
