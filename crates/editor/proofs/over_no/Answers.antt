-- `editor::over_no` meets its contract: the length decides between the two numbers.
use mathlib.Core.Path.{sym, ap, ◌∙◌}
use mathlib.Core.Bool.{Bool}
use Rattle.format.specs.Bytes.{pick}
use Rattle.edits.specs.Splices.{is_within}
use Rattle.editor.proofs.over_no.Goals as goal

pub returns-then-fits : goal.returns-then-fits
returns-then-fits c =
    sym (ap (λ (b : Bool). pick b 104 26) (sym (c.fits.ensures ∙ ap (is_within c.args.room) c.new-f.ensures) ∙ c.if-fits.true))

pub returns : goal.returns
returns c =
    sym (ap (λ (b : Bool). pick b 104 26) (sym (c.fits.ensures ∙ ap (is_within c.args.room) c.new-f.ensures) ∙ c.if-fits.false))
