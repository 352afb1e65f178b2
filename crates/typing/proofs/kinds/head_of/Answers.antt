-- `typing::kinds::head_of` meets its contract: the place of the word among the heads tells which it is.
use mathlib.Core.Path.{refl, ◌∙◌}
use mathlib.Core.List.{List}
use native.Mathlib.Omega.{arith}
use Rattle.format.specs.Bytes.{Bytes, text}
use Rattle.format.specs.Words.{words}
use Rattle.format.proofs.Listing.{same-swap}
use Rattle.words.proofs.RuleNames.{is-placed, not-placed}
use Rattle.typing.specs.Meaning.{head_of}
use Rattle.typing.proofs.kinds.head_of.Goals as goal

abbrev heads : List Bytes
heads = words (text "int range real line size bool field uuid")

pub returns-in-0 : goal.returns-in-0
unfolding head_of
returns-in-0 c =
    rw (same-swap c.args.w.now (text "int") ∙ is-placed c.args.w.now (text "int") heads c.word_place.result 0 c.word_place.ensures refl (omega arith) refl c.in-0.is)

pub returns-in-1 : goal.returns-in-1
unfolding head_of
returns-in-1 c =
    rw (same-swap c.args.w.now (text "int") ∙ not-placed c.args.w.now (text "int") heads c.word_place.result 0 c.word_place.ensures refl (λ e. absurd (omega (arith, e, c.in-1.is))), same-swap c.args.w.now (text "range") ∙ is-placed c.args.w.now (text "range") heads c.word_place.result 1 c.word_place.ensures refl (omega arith) refl c.in-1.is)

pub returns-in-2 : goal.returns-in-2
unfolding head_of
returns-in-2 c =
    rw (same-swap c.args.w.now (text "int") ∙ not-placed c.args.w.now (text "int") heads c.word_place.result 0 c.word_place.ensures refl (λ e. absurd (omega (arith, e, c.in-2.is))), same-swap c.args.w.now (text "range") ∙ not-placed c.args.w.now (text "range") heads c.word_place.result 1 c.word_place.ensures refl (λ e. absurd (omega (arith, e, c.in-2.is))), same-swap c.args.w.now (text "real") ∙ is-placed c.args.w.now (text "real") heads c.word_place.result 2 c.word_place.ensures refl (omega arith) refl c.in-2.is)

pub returns-in-3 : goal.returns-in-3
unfolding head_of
returns-in-3 c =
    rw (same-swap c.args.w.now (text "int") ∙ not-placed c.args.w.now (text "int") heads c.word_place.result 0 c.word_place.ensures refl (λ e. absurd (omega (arith, e, c.in-3.is))), same-swap c.args.w.now (text "range") ∙ not-placed c.args.w.now (text "range") heads c.word_place.result 1 c.word_place.ensures refl (λ e. absurd (omega (arith, e, c.in-3.is))), same-swap c.args.w.now (text "real") ∙ not-placed c.args.w.now (text "real") heads c.word_place.result 2 c.word_place.ensures refl (λ e. absurd (omega (arith, e, c.in-3.is))), same-swap c.args.w.now (text "line") ∙ is-placed c.args.w.now (text "line") heads c.word_place.result 3 c.word_place.ensures refl (omega arith) refl c.in-3.is)

pub returns-in-4 : goal.returns-in-4
unfolding head_of
returns-in-4 c =
    rw (same-swap c.args.w.now (text "int") ∙ not-placed c.args.w.now (text "int") heads c.word_place.result 0 c.word_place.ensures refl (λ e. absurd (omega (arith, e, c.in-4.is))), same-swap c.args.w.now (text "range") ∙ not-placed c.args.w.now (text "range") heads c.word_place.result 1 c.word_place.ensures refl (λ e. absurd (omega (arith, e, c.in-4.is))), same-swap c.args.w.now (text "real") ∙ not-placed c.args.w.now (text "real") heads c.word_place.result 2 c.word_place.ensures refl (λ e. absurd (omega (arith, e, c.in-4.is))), same-swap c.args.w.now (text "line") ∙ not-placed c.args.w.now (text "line") heads c.word_place.result 3 c.word_place.ensures refl (λ e. absurd (omega (arith, e, c.in-4.is))), same-swap c.args.w.now (text "size") ∙ is-placed c.args.w.now (text "size") heads c.word_place.result 4 c.word_place.ensures refl (omega arith) refl c.in-4.is)

pub returns-in-5 : goal.returns-in-5
unfolding head_of
returns-in-5 c =
    rw (same-swap c.args.w.now (text "int") ∙ not-placed c.args.w.now (text "int") heads c.word_place.result 0 c.word_place.ensures refl (λ e. absurd (omega (arith, e, c.in-5.is))), same-swap c.args.w.now (text "range") ∙ not-placed c.args.w.now (text "range") heads c.word_place.result 1 c.word_place.ensures refl (λ e. absurd (omega (arith, e, c.in-5.is))), same-swap c.args.w.now (text "real") ∙ not-placed c.args.w.now (text "real") heads c.word_place.result 2 c.word_place.ensures refl (λ e. absurd (omega (arith, e, c.in-5.is))), same-swap c.args.w.now (text "line") ∙ not-placed c.args.w.now (text "line") heads c.word_place.result 3 c.word_place.ensures refl (λ e. absurd (omega (arith, e, c.in-5.is))), same-swap c.args.w.now (text "size") ∙ not-placed c.args.w.now (text "size") heads c.word_place.result 4 c.word_place.ensures refl (λ e. absurd (omega (arith, e, c.in-5.is))), same-swap c.args.w.now (text "bool") ∙ is-placed c.args.w.now (text "bool") heads c.word_place.result 5 c.word_place.ensures refl (omega arith) refl c.in-5.is)

pub returns-in-6 : goal.returns-in-6
unfolding head_of
returns-in-6 c =
    rw (same-swap c.args.w.now (text "int") ∙ not-placed c.args.w.now (text "int") heads c.word_place.result 0 c.word_place.ensures refl (λ e. absurd (omega (arith, e, c.in-6.is))), same-swap c.args.w.now (text "range") ∙ not-placed c.args.w.now (text "range") heads c.word_place.result 1 c.word_place.ensures refl (λ e. absurd (omega (arith, e, c.in-6.is))), same-swap c.args.w.now (text "real") ∙ not-placed c.args.w.now (text "real") heads c.word_place.result 2 c.word_place.ensures refl (λ e. absurd (omega (arith, e, c.in-6.is))), same-swap c.args.w.now (text "line") ∙ not-placed c.args.w.now (text "line") heads c.word_place.result 3 c.word_place.ensures refl (λ e. absurd (omega (arith, e, c.in-6.is))), same-swap c.args.w.now (text "size") ∙ not-placed c.args.w.now (text "size") heads c.word_place.result 4 c.word_place.ensures refl (λ e. absurd (omega (arith, e, c.in-6.is))), same-swap c.args.w.now (text "bool") ∙ not-placed c.args.w.now (text "bool") heads c.word_place.result 5 c.word_place.ensures refl (λ e. absurd (omega (arith, e, c.in-6.is))), same-swap c.args.w.now (text "field") ∙ is-placed c.args.w.now (text "field") heads c.word_place.result 6 c.word_place.ensures refl (omega arith) refl c.in-6.is)

pub returns-in-7 : goal.returns-in-7
unfolding head_of
returns-in-7 c =
    rw (same-swap c.args.w.now (text "int") ∙ not-placed c.args.w.now (text "int") heads c.word_place.result 0 c.word_place.ensures refl (λ e. absurd (omega (arith, e, c.in-7.is))), same-swap c.args.w.now (text "range") ∙ not-placed c.args.w.now (text "range") heads c.word_place.result 1 c.word_place.ensures refl (λ e. absurd (omega (arith, e, c.in-7.is))), same-swap c.args.w.now (text "real") ∙ not-placed c.args.w.now (text "real") heads c.word_place.result 2 c.word_place.ensures refl (λ e. absurd (omega (arith, e, c.in-7.is))), same-swap c.args.w.now (text "line") ∙ not-placed c.args.w.now (text "line") heads c.word_place.result 3 c.word_place.ensures refl (λ e. absurd (omega (arith, e, c.in-7.is))), same-swap c.args.w.now (text "size") ∙ not-placed c.args.w.now (text "size") heads c.word_place.result 4 c.word_place.ensures refl (λ e. absurd (omega (arith, e, c.in-7.is))), same-swap c.args.w.now (text "bool") ∙ not-placed c.args.w.now (text "bool") heads c.word_place.result 5 c.word_place.ensures refl (λ e. absurd (omega (arith, e, c.in-7.is))), same-swap c.args.w.now (text "field") ∙ not-placed c.args.w.now (text "field") heads c.word_place.result 6 c.word_place.ensures refl (λ e. absurd (omega (arith, e, c.in-7.is))), same-swap c.args.w.now (text "uuid") ∙ is-placed c.args.w.now (text "uuid") heads c.word_place.result 7 c.word_place.ensures refl (omega arith) refl c.in-7.is)

pub returns-in_default : goal.returns-in_default
unfolding head_of
returns-in_default c =
    rw (same-swap c.args.w.now (text "int") ∙ not-placed c.args.w.now (text "int") heads c.word_place.result 0 c.word_place.ensures refl c.in_default.in_default-own.rest.0.0.0.0.0.0.0.1, same-swap c.args.w.now (text "range") ∙ not-placed c.args.w.now (text "range") heads c.word_place.result 1 c.word_place.ensures refl c.in_default.in_default-own.rest.0.0.0.0.0.0.1, same-swap c.args.w.now (text "real") ∙ not-placed c.args.w.now (text "real") heads c.word_place.result 2 c.word_place.ensures refl c.in_default.in_default-own.rest.0.0.0.0.0.1, same-swap c.args.w.now (text "line") ∙ not-placed c.args.w.now (text "line") heads c.word_place.result 3 c.word_place.ensures refl c.in_default.in_default-own.rest.0.0.0.0.1, same-swap c.args.w.now (text "size") ∙ not-placed c.args.w.now (text "size") heads c.word_place.result 4 c.word_place.ensures refl c.in_default.in_default-own.rest.0.0.0.1, same-swap c.args.w.now (text "bool") ∙ not-placed c.args.w.now (text "bool") heads c.word_place.result 5 c.word_place.ensures refl c.in_default.in_default-own.rest.0.0.1, same-swap c.args.w.now (text "field") ∙ not-placed c.args.w.now (text "field") heads c.word_place.result 6 c.word_place.ensures refl c.in_default.in_default-own.rest.0.1, same-swap c.args.w.now (text "uuid") ∙ not-placed c.args.w.now (text "uuid") heads c.word_place.result 7 c.word_place.ensures refl c.in_default.in_default-own.rest.1)
