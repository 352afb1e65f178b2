-- `lookup::set_name` meets its contract.
use mathlib.Core.Path.{sym, ap, ◌∙◌}
use Rattle.format.specs.Bytes.{Bytes}
use Rattle.lookup.specs.Answers.{name_in}
use Rattle.lookup.proofs.Buffers.{name-refused, name-text, text-readable}
use Rattle.lookup.proofs.set_name.Goals as goal

pub name_in-requires : goal.name_in-requires
name_in-requires c =
    text-readable c.args.buf.now c.args.used c.in_ok-checked.ensures.number c.in_ok-checked.ensures.text

pub returns : goal.returns
returns c =
    sym (ap (λ (x : Bytes). name_in x c.args.k c.args.out.now) c.in_ok-checked.ensures.text ∙ name-text c.args.buf.now c.args.used c.in_ok-checked.ensures.number c.args.k c.args.out.now) ∙ c.name_in.ensures

pub returns-in_err-checked : goal.returns-in_err-checked
returns-in_err-checked c =
    name-refused c.args.buf.now c.args.used c.in_err-checked.field-0.0 c.in_err-checked.ensures.number c.from_residual.result c.from_residual.ensures c.args.k c.args.out.now
