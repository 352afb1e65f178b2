-- `descriptors::shapes::is_listable` meets its contract.
use borrow.Author.Tests.{not-true, not-false}
use mathlib.Core.Path.{sym, ap, ◌∙◌}
use mathlib.Core.Bool.{Bool, ◌||◌, not}
use Rattle.descriptors.proofs.Contents.{listable-not, listable-name}
use Rattle.descriptors.proofs.shapes.is_listable.Goals as goal

pub returns-then-not-is_name : goal.returns-then-not-is_name
returns-then-not-is_name c =
    sym (listable-not c.args.special c.args.w.now (sym c.is_name.ensures ∙ not-true c.is_name.result (ap not c.if-not-is_name.true)))

pub returns : goal.returns
returns c =
    ap (λ (x : Bool). c.args.special || not x) c.is_special.ensures
    ∙ sym (listable-name c.args.special c.args.w.now (sym c.is_name.ensures ∙ not-false c.is_name.result (ap not c.if-not-is_name.false)))
