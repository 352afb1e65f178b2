-- `descriptors::sizes::size_by` meets its contract: the place of the sign among the four tells which it is.
use native.Mathlib.Omega.{arith}
use mathlib.Core.Path.{refl, sym, ◌∙◌}
use mathlib.Core.Bool.{true}
use mathlib.Core.List.{List}
use Rattle.format.specs.Bytes.{Bytes, text}
use Rattle.format.specs.Words.{words}
use Rattle.format.proofs.Listing.{same-swap}
use Rattle.words.proofs.RuleNames.{is-placed, not-placed}
use Rattle.descriptors.proofs.Sizing.{sign-is, sign-none}
use Rattle.descriptors.proofs.sizes.size_by.Goals as goal

abbrev signs : List Bytes
signs = words (text "< <= > >=")

pub returns-in-0 : goal.returns-in-0
returns-in-0 c =
    sym (sign-is c.args.sign.now c.args.n (text "<") true (sym (same-swap c.args.sign.now (text "<") ∙ is-placed c.args.sign.now (text "<") signs c.word_place.result 0 c.word_place.ensures refl (omega arith) refl c.in-0.is)) refl)

pub returns-in-1 : goal.returns-in-1
returns-in-1 c =
    sym (sign-is c.args.sign.now c.args.n (text "<=") true (sym (same-swap c.args.sign.now (text "<=") ∙ is-placed c.args.sign.now (text "<=") signs c.word_place.result 1 c.word_place.ensures refl (omega arith) refl c.in-1.is)) refl)

pub returns-in-2 : goal.returns-in-2
returns-in-2 c =
    sym (sign-is c.args.sign.now c.args.n (text ">") true (sym (same-swap c.args.sign.now (text ">") ∙ is-placed c.args.sign.now (text ">") signs c.word_place.result 2 c.word_place.ensures refl (omega arith) refl c.in-2.is)) refl)

pub returns-in-3 : goal.returns-in-3
returns-in-3 c =
    sym (sign-is c.args.sign.now c.args.n (text ">=") true (sym (same-swap c.args.sign.now (text ">=") ∙ is-placed c.args.sign.now (text ">=") signs c.word_place.result 3 c.word_place.ensures refl (omega arith) refl c.in-3.is)) refl)

pub returns-in_default : goal.returns-in_default
returns-in_default c =
    sym (sign-none c.args.sign.now c.args.n (same-swap c.args.sign.now (text "<") ∙ not-placed c.args.sign.now (text "<") signs c.word_place.result 0 c.word_place.ensures refl c.in_default.in_default-own.rest.0.0.0.1) (same-swap c.args.sign.now (text "<=") ∙ not-placed c.args.sign.now (text "<=") signs c.word_place.result 1 c.word_place.ensures refl c.in_default.in_default-own.rest.0.0.1) (same-swap c.args.sign.now (text ">") ∙ not-placed c.args.sign.now (text ">") signs c.word_place.result 2 c.word_place.ensures refl c.in_default.in_default-own.rest.0.1) (same-swap c.args.sign.now (text ">=") ∙ not-placed c.args.sign.now (text ">=") signs c.word_place.result 3 c.word_place.ensures refl c.in_default.in_default-own.rest.1))
