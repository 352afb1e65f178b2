-- `descriptors::shapes::text_holds` meets its contract: each case asks the function that answers it.
use mathlib.Core.Path.{sym, ap, ◌∙◌}
use Rattle.std.proofs.Common.{rules, tests}
use Rattle.format.specs.Lines.{is_name}
use Rattle.format.specs.Words.{is_type_name}
use Rattle.descriptors.specs.Contents.{holds}
use Rattle.descriptors.specs.declared.shapes.Content.{Content}
use Rattle.descriptors.proofs.shapes.text_holds.Goals as goal

pub returns-in-Names : goal.returns-in-Names
returns-in-Names c =
    c.all_names.ensures ∙ sym (ap (λ (x : Content). holds x c.args.s.now) c.in-Names.is)

pub returns-in-Ordinary : goal.returns-in-Ordinary
returns-in-Ordinary c =
    c.all_names-in-Ordinary.ensures ∙ sym (ap (λ (x : Content). holds x c.args.s.now) c.in-Ordinary.is)

pub returns-in-TypeName : goal.returns-in-TypeName
returns-in-TypeName c =
    c.is_one.ensures is_type_name (λ w r k. search (rules, tests)) ∙ sym (ap (λ (x : Content). holds x c.args.s.now) c.in-TypeName.is)

pub returns-in-Name : goal.returns-in-Name
returns-in-Name c =
    c.is_one-in-Name.ensures is_name (λ w r k. search (rules, tests)) ∙ sym (ap (λ (x : Content). holds x c.args.s.now) c.in-Name.is)
