-- `requests::fields::text_at` meets its contract: the field at i, where it has the tag.
use mathlib.Core.Path.{sym, ◌∙◌}
use Rattle.requests.specs.Fields.{tag_no}
use Rattle.requests.proofs.Reading.{no_field, other_tag, same_tag}
use Rattle.requests.proofs.fields.text_at.Goals as goal

pub returns-in_default : goal.returns-in_default
returns-in_default c = no_field c.args.req.now c.args.i (tag_no c.args.tag) c.field_at.result c.field_at.ensures c.in_default.not-At

pub returns-then-t-number : goal.returns-then-t-number
returns-then-t-number c = other_tag c.args.req.now c.args.i (tag_no c.args.tag) _ _ _ c.in-At.ensures (λ e. c.if-t-number.true (e ∙ sym c.number.ensures))

pub returns : goal.returns
returns c = same_tag c.args.req.now c.args.i (tag_no c.args.tag) _ _ _ c.in-At.ensures (c.if-t-number.false ∙ c.number.ensures)
