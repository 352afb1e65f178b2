-- `limits::bounds_of` meets its contract: what the walk over the pieces tells, and the limits of the descriptors.
use native.Mathlib.Omega.{arith}
use mathlib.Core.Path.{sym, ap, ◌∙◌}
use mathlib.Core.Bool.{not}
use borrow.Author.Tests.{not-true}
use Rattle.format.specs.Pieces.{read_of}
use Rattle.format.proofs.Records.{records}
use Rattle.limits.proofs.Questions.{rules-told, many-told, all_told, limit-no, rec-no}
use Rattle.limits.proofs.bounds_of.Goals as goal

pub returns-then-count-gt-COUNT : goal.returns-then-count-gt-COUNT
returns-then-count-gt-COUNT c =
    let t = c.in_ok-count.ensures in
    sym (limit-no c.args.s.now t.0 (many-told (records (read_of c.args.s.now)) (omega (arith, t.3, c.if-count-gt-COUNT.true))))

pub returns-then-not-rules_held : goal.returns-then-not-rules_held
returns-then-not-rules_held c =
    let t = c.in_ok-count.ensures in
    let e = not-true c.rules_held.result (ap not c.if-not-rules_held.true) in
    sym (limit-no c.args.s.now t.0 (rules-told (records (read_of c.args.s.now)) (sym c.rules_held.ensures ∙ e)))

pub returns-then-not-once : goal.returns-then-not-once
returns-then-not-once c =
    let t = c.in_ok-count.ensures in
    let rs = records (read_of c.args.s.now) in
    sym (rec-no c.args.s.now t.0 (all_told rs t.1 (sym c.rules_held.ensures ∙ c.if-not-rules_held.false) (omega (arith, t.3, c.if-count-gt-COUNT.false))) (t.2 ∙ c.if-not-once.true))

pub returns : goal.returns
returns c =
    let t = c.in_ok-count.ensures in
    let rs = records (read_of c.args.s.now) in
    (t.0, all_told rs t.1 (sym c.rules_held.ensures ∙ c.if-not-rules_held.false) (omega (arith, t.3, c.if-count-gt-COUNT.false)), t.2 ∙ c.if-not-once.false, t.3, t.4 c.if-count-gt-COUNT.false)
