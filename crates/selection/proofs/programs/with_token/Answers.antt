-- `selection::programs::with_token` meets its contract.
use native.Mathlib.Omega.{arith}
use mathlib.Core.Logic.{inl, inr}
use mathlib.Core.Path.{refl, ap}
use lib.ListN.{drop}
use Rattle.selection.specs.Tokens.{token_bytes}
use Rattle.selection.specs.Rows.{progress_in}
use Rattle.selection.proofs.Making.{no-code-added, token-adds, sign-adds, text-adds}
use Rattle.selection.proofs.programs.with_token.Goals as goal

pub with_operand-requires : goal.with_operand-requires
with_operand-requires c =
    c.requires.filled

pub overflow_add-at-in-Text : goal.overflow_add-at-in-Text
overflow_add-at-in-Text c =
    let q = ap token_bytes c.in-Text.is in omega (arith, q, c.requires.bound.1)

pub overflow_sub-at : goal.overflow_sub-at
overflow_sub-at c =
    let q = ap token_bytes c.in-Text.is in omega (arith, q, c.requires.bound.0)

pub with_operand-requires-in-Text : goal.with_operand-requires-in-Text
with_operand-requires-in-Text c =
    c.requires.filled

pub with_sign-requires : goal.with_sign-requires
with_sign-requires c =
    (c.requires.filled.0, c.requires.filled.1)

pub returns-in-Int : goal.returns-in-Int
returns-in-Int c =
    λ s. token-adds s (drop c.args.at s) (progress_in s c.args.r) c.args.p c.with_operand.result c.args.t _ c.in-Int.is (c.with_operand.ensures.0, c.with_operand.ensures.1 s)

pub returns-in-Text : goal.returns-in-Text
returns-in-Text c =
    λ s. token-adds s (drop c.args.at s) (progress_in s c.args.r) c.args.p c.with_operand-in-Text.result c.args.t _ c.in-Text.is (text-adds s c.args.at _ (progress_in s c.args.r) c.args.p c.with_operand-in-Text.result c.with_operand-in-Text.ensures.0 (c.with_operand-in-Text.ensures.1 s))

pub returns-in-Sign : goal.returns-in-Sign
returns-in-Sign c =
    λ s. token-adds s (drop c.args.at s) (progress_in s c.args.r) c.args.p c.with_sign.result c.args.t _ c.in-Sign.is (sign-adds s (drop c.args.at s) (progress_in s c.args.r) c.args.p c.with_sign.result c.in-Sign.g c.with_sign.ensures.0 (c.with_sign.ensures.1 s))

pub returns-in-Nothing : goal.returns-in-Nothing
returns-in-Nothing c = λ s.
    elim c.in-Nothing.is [
      | inl e ↦ token-adds s (drop c.args.at s) (progress_in s c.args.r) c.args.p c.args.p c.args.t _ e (no-code-added c.args.p c.requires.filled.0, refl)
      | inr r ↦ elim r [
        | inl e ↦ token-adds s (drop c.args.at s) (progress_in s c.args.r) c.args.p c.args.p c.args.t _ e (no-code-added c.args.p c.requires.filled.0, refl)
        | inr e ↦ token-adds s (drop c.args.at s) (progress_in s c.args.r) c.args.p c.args.p c.args.t _ e.1 (no-code-added c.args.p c.requires.filled.0, refl)
      ]
    ]
