-- `selection::programs::with_sign` meets its contract.
use mathlib.Core.Logic.{inl, inr}
use mathlib.Core.Path.{refl}
use Rattle.selection.proofs.Making.{same_tests, sign_kept, sign-added}
use Rattle.selection.proofs.programs.with_sign.Goals as goal

pub returns-in-Not : goal.returns-in-Not
returns-in-Not c =
    (sign-added c.args.p c.with_code.result c.args.g _ c.in-Not.is c.with_code.ensures.0, λ s. same_tests s c.args.p c.with_code.result c.with_code.ensures.1 c.with_code.ensures.2)

pub returns-in-Or : goal.returns-in-Or
returns-in-Or c =
    (sign-added c.args.p c.with_code-in-Or.result c.args.g _ c.in-Or.is c.with_code-in-Or.ensures.0, λ s. same_tests s c.args.p c.with_code-in-Or.result c.with_code-in-Or.ensures.1 c.with_code-in-Or.ensures.2)

pub returns-in-Open : goal.returns-in-Open
returns-in-Open c =
    (sign-added c.args.p c.with_code-in-Open.result c.args.g _ c.in-Open.is c.with_code-in-Open.ensures.0, λ s. same_tests s c.args.p c.with_code-in-Open.result c.with_code-in-Open.ensures.1 c.with_code-in-Open.ensures.2)

pub returns-in-Close : goal.returns-in-Close
returns-in-Close c =
    (sign-added c.args.p c.with_code-in-Close.result c.args.g _ c.in-Close.is c.with_code-in-Close.ensures.0, λ s. same_tests s c.args.p c.with_code-in-Close.result c.with_code-in-Close.ensures.1 c.with_code-in-Close.ensures.2)

pub returns-in-Comparing : goal.returns-in-Comparing
returns-in-Comparing c =
    elim c.in-Comparing.is [
      | inl e ↦ (sign_kept c.args.p c.args.g _ e.1 refl c.requires.0, λ s. refl)
      | inr r ↦ elim r [ inl e ↦ (sign_kept c.args.p c.args.g _ e refl c.requires.0, λ s. refl) | inr e ↦ (sign_kept c.args.p c.args.g _ e refl c.requires.0, λ s. refl) ]
    ]
