-- `rules::tallies::judge` meets its contract: each return by the tests before it.
use mathlib.Core.Path.{refl, sym, ◌∙◌}
use borrow.Author.Tests.{eq-eqb, ne_eqb, not-true, not-false}
use Rattle.rules.proofs.TallyNo.{number_by}
use mathlib.Core.Bool.{not}
use mathlib.Core.Path.{ap}
use Rattle.rules.proofs.tallies.judge.Goals as goal

pub returns-then-t : goal.returns-then-t
returns-then-t c =
    sym (number_by c.args.t c.args.limited c.args.keyed c.args.mandatory c.if-t.true refl refl refl refl refl)

pub returns-then-limited-t : goal.returns-then-limited-t
returns-then-limited-t c =
    sym (number_by c.args.t c.args.limited c.args.keyed c.args.mandatory c.if-t.false c.if-limited-t.true refl refl refl refl)

pub has_all-requires : goal.has_all-requires
has_all-requires c =
    c.requires

pub returns-then-not-has_all : goal.returns-then-not-has_all
returns-then-not-has_all c =
    sym (number_by c.args.t c.args.limited c.args.keyed c.args.mandatory c.if-t.false c.if-limited-t.false (sym c.has_all.ensures ∙ not-true c.has_all.result (ap not c.if-not-has_all.true)) refl refl refl)

pub returns-then-keyed-t : goal.returns-then-keyed-t
returns-then-keyed-t c =
    sym (number_by c.args.t c.args.limited c.args.keyed c.args.mandatory c.if-t.false c.if-limited-t.false (sym c.has_all.ensures ∙ not-false c.has_all.result (ap not c.if-not-has_all.false)) c.if-keyed-t.true refl refl)

pub returns-then-t-ne0 : goal.returns-then-t-ne0
returns-then-t-ne0 c =
    sym (number_by c.args.t c.args.limited c.args.keyed c.args.mandatory c.if-t.false c.if-limited-t.false (sym c.has_all.ensures ∙ not-false c.has_all.result (ap not c.if-not-has_all.false)) c.if-keyed-t.false (ne_eqb c.args.t.twice 0 c.if-t-ne0.true) refl)

pub returns-then-keyed-t-2 : goal.returns-then-keyed-t-2
returns-then-keyed-t-2 c =
    sym (number_by c.args.t c.args.limited c.args.keyed c.args.mandatory c.if-t.false c.if-limited-t.false (sym c.has_all.ensures ∙ not-false c.has_all.result (ap not c.if-not-has_all.false)) c.if-keyed-t.false (eq-eqb c.args.t.twice 0 c.if-t-ne0.false) c.if-keyed-t-2.true)

pub returns : goal.returns
returns c =
    sym (number_by c.args.t c.args.limited c.args.keyed c.args.mandatory c.if-t.false c.if-limited-t.false (sym c.has_all.ensures ∙ not-false c.has_all.result (ap not c.if-not-has_all.false)) c.if-keyed-t.false (eq-eqb c.args.t.twice 0 c.if-t-ne0.false) c.if-keyed-t-2.false)
