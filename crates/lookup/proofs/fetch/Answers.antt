-- `lookup::fetch` meets its contract.
use mathlib.Core.Path.{sym, ap, ◌∙◌}
use Rattle.format.specs.Bytes.{Bytes}
use Rattle.lookup.specs.Answers.{fetch_in}
use Rattle.lookup.proofs.Buffers.{fetch-refused, fetch-text, text-readable}
use Rattle.lookup.proofs.fetch.Goals as goal

pub fetch_in-requires : goal.fetch_in-requires
fetch_in-requires c =
    text-readable c.args.buf.now c.args.used c.in_ok-checked.ensures.number c.in_ok-checked.ensures.text

pub returns : goal.returns
returns c =
    sym (ap (λ (x : Bytes). fetch_in x c.args.set.now c.args.row c.args.name.now c.args.occurrence c.args.out.now) c.in_ok-checked.ensures.text ∙ fetch-text c.args.buf.now c.args.used c.in_ok-checked.ensures.number c.args.set.now c.args.row c.args.name.now c.args.occurrence c.args.out.now) ∙ c.fetch_in.ensures

pub returns-in_err-checked : goal.returns-in_err-checked
returns-in_err-checked c =
    fetch-refused c.args.buf.now c.args.used c.in_err-checked.field-0.0 c.in_err-checked.ensures.number c.from_residual.result c.from_residual.ensures c.args.set.now c.args.row c.args.name.now c.args.occurrence c.args.out.now
