-- `lookup::count` meets its contract.
use mathlib.Core.Path.{ap, ◌∙◌}
use Rattle.format.specs.Bytes.{Bytes}
use Rattle.lookup.specs.Answers.{count_in}
use Rattle.lookup.proofs.Buffers.{count-refused, count-text, text-readable}
use Rattle.lookup.proofs.count.Goals as goal

pub count_in-requires : goal.count_in-requires
count_in-requires c =
    text-readable c.args.buf.now c.args.used c.in_ok-checked.ensures.number c.in_ok-checked.ensures.text

pub returns : goal.returns
returns c =
    c.count_in.ensures ∙ ap (λ (x : Bytes). count_in x c.args.set.now) c.in_ok-checked.ensures.text ∙ count-text c.args.buf.now c.args.used c.in_ok-checked.ensures.number c.args.set.now

pub returns-in_err-checked : goal.returns-in_err-checked
returns-in_err-checked c =
    count-refused c.args.buf.now c.args.used c.in_err-checked.field-0.0 c.in_err-checked.ensures.number c.from_residual.result c.from_residual.ensures c.args.set.now
