-- `values::ends::are_equal` meets its contract: values compare as equal if they are the same, and only then.
use mathlib.Core.Path.{sym, ap, ◌∙◌}
use Rattle.format.specs.Bytes.{same}
use Rattle.values.specs.Value.{value_from}
use Rattle.values.proofs.Tests.{same_self, same-apart}
use Rattle.values.proofs.Likenesses.{likeness-same, same-likeness}
use Rattle.values.proofs.ends.are_equal.Goals as goal

pub returns-in-Equal : goal.returns-in-Equal
returns-in-Equal c =
    let a = value_from c.args.a.now in
    let b = value_from c.args.b.now in
    sym (ap (same a) (sym (likeness-same a b (sym c.compare.ensures ∙ c.in-Equal.is))) ∙ same_self a)

pub returns-in_default : goal.returns-in_default
returns-in_default c =
    let a = value_from c.args.a.now in
    let b = value_from c.args.b.now in
    sym (same-apart a b (λ q. c.in_default.not-Equal (c.compare.ensures ∙ same-likeness a b q)))
