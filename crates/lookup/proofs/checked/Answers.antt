-- `lookup::checked` meets its contract.
use mathlib.Core.Path.{refl, sym, ap, ◌∙◌}
use Rattle.format.specs.Refusals.{no_of}
use Rattle.format.proofs.Refused.{handed-as, none-given}
use Rattle.records.proofs.Checked.{answer-checked}
use Rattle.lookup.proofs.checked.Goals as goal

pub slice_bounds-result-end : goal.slice_bounds-result-end
slice_bounds-result-end c =
    sym (answer-checked c.args.buf.now c.args.used 0 c.in_ok-check.ensures refl).long

pub returns : goal.returns
returns c = record { number = c.in_ok-check.ensures; text = refl }

pub returns-in_err-check : goal.returns-in_err-check
returns-in_err-check c = record {
  number = ap no_of (handed-as c.from_residual.result c.in_err-check.field-0.0 c.from_residual.ensures) ∙ c.in_err-check.ensures;
  text = none-given _ c.from_residual.result c.from_residual.ensures.0;
}
