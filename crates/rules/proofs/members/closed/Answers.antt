-- `rules::members::closed` meets its contract.
use Prim.Native.Nat.{◌+◌}
use mathlib.Core.Path.{sym, ap, ◌∙◌}
use mathlib.Core.Bool.{Bool}
use borrow.Author.Tests.{eq-eqb, ne_eqb}
use Rattle.format.specs.Bytes.{pick}
use Rattle.format.specs.Refusals.{no_of}
use Rattle.format.proofs.Least.{least}
use Rattle.rules.specs.Tallies.{tally_no}
use Rattle.rules.proofs.members.closed.Goals as goal

pub returns-then-fields-eq0 : goal.returns-then-fields-eq0
returns-then-fields-eq0 c =
    (ap (λ (b : Bool). pick b (no_of c.args.a.answer) (least (no_of c.args.a.answer) (tally_no c.args.t c.args.limited c.args.keyed c.args.mandatory))) (sym (eq-eqb c.args.fields 0 c.if-fields-eq0.true)), ap (λ (b : Bool). pick b c.args.a.count (c.args.a.count + 1)) (sym (eq-eqb c.args.fields 0 c.if-fields-eq0.true)))

pub judge-k-requires : goal.judge-k-requires
judge-k-requires c =
    c.requires.0

pub returns : goal.returns
returns c =
    (c.lesser.ensures ∙ ap (least (no_of c.args.a.answer)) c.judge-k.ensures ∙ ap (λ (b : Bool). pick b (no_of c.args.a.answer) (least (no_of c.args.a.answer) (tally_no c.args.t c.args.limited c.args.keyed c.args.mandatory))) (sym (ne_eqb c.args.fields 0 c.if-fields-eq0.false)), ap (λ (b : Bool). pick b c.args.a.count (c.args.a.count + 1)) (sym (ne_eqb c.args.fields 0 c.if-fields-eq0.false)))
