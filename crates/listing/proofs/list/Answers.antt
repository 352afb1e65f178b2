-- `listing::list` is safe: a file of which the check says 0 can be looked into.
use mathlib.Core.Path.{refl, sym, ap, ◌∙◌}
use Rattle.format.specs.Refusals.{no_of}
use Rattle.records.proofs.Checked.{answer-checked}
use Rattle.listing.proofs.list.Goals as goal

pub slice_bounds-list_sets-end : goal.slice_bounds-list_sets-end
slice_bounds-list_sets-end c =
    sym (answer-checked c.args.file.now c.args.used 0 (ap no_of (sym c.in-Ok.is) ∙ c.check-checked.ensures) refl).long

pub list_sets-requires : goal.list_sets-requires
list_sets-requires c =
    (answer-checked c.args.file.now c.args.used 0 (ap no_of (sym c.in-Ok.is) ∙ c.check-checked.ensures) refl).readable
