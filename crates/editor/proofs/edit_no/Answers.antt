-- `editor::edit_no` meets its contract: the questions are asked in the order in which `edit_no` asks them.
use mathlib.Core.Path.{sym, ap, ◌∙◌}
use mathlib.Core.Bool.{Bool, not}
use borrow.Author.Tests.{not-true, not-false}
use Rattle.std.specs.Prelude.{Ok, Err}
use Rattle.format.specs.Bytes.{Bytes, pick}
use Rattle.format.specs.Refusals.{refused_no}
use Rattle.format.proofs.Refused.{handed-as}
use Rattle.format.proofs.Judging.{text_no}
use Rattle.format.proofs.Results.{raised_no}
use Rattle.edits.specs.Splices.{made_by}
use Rattle.editor.proofs.Making.{number-asked, number-raised, within-file}
use Rattle.editor.proofs.edit_no.Goals as goal

pub fits-requires : goal.fits-requires
fits-requires c =
    record { sound = c.requires.sound; s_len_bound = c.requires.s_len_bound }

pub returns-then-not-fits : goal.returns-then-not-fits
returns-then-not-fits c =
    let t : Bytes = made_by c.args.s.now c.args.req.now c.args.added.now c.args.x in
    sym (number-asked c.args.room t c.fits.result c.fits.ensures ∙ ap (λ (b : Bool). pick b (raised_no (text_no t)) 26) (not-true c.fits.result (ap not c.if-not-fits.true)))

pub result_no-requires : goal.result_no-requires
result_no-requires c =
    let t : Bytes = made_by c.args.s.now c.args.req.now c.args.added.now c.args.x in
    record { file_bytes_in_bounds = c.requires.file_bytes_in_bounds; sound = c.requires.sound; s_len_bound = (c.requires.s_len_bound.1, within-file c.args.room t c.fits.result c.fits.ensures (not-false c.fits.result (ap not c.if-not-fits.false))) }

pub returns : goal.returns
returns c =
    let t : Bytes = made_by c.args.s.now c.args.req.now c.args.added.now c.args.x in
    number-raised c.result_no.result (Ok tt) _ (λ q r l. l) c.in_ok-map_err.ensures.cases ∙ ap raised_no c.result_no.ensures
    ∙ sym (number-asked c.args.room t c.fits.result c.fits.ensures ∙ ap (λ (b : Bool). pick b (raised_no (text_no t)) 26) (not-false c.fits.result (ap not c.if-not-fits.false)))

pub returns-in_err-map_err : goal.returns-in_err-map_err
returns-in_err-map_err c =
    let t : Bytes = made_by c.args.s.now c.args.req.now c.args.added.now c.args.x in
    ap refused_no (handed-as c.from_residual.result c.in_err-map_err.field-0.0 c.from_residual.ensures)
    ∙ number-raised c.result_no.result (Err c.in_err-map_err.field-0.0) _ (λ q r l. l) c.in_err-map_err.ensures.cases ∙ ap raised_no c.result_no.ensures
    ∙ sym (number-asked c.args.room t c.fits.result c.fits.ensures ∙ ap (λ (b : Bool). pick b (raised_no (text_no t)) 26) (not-false c.fits.result (ap not c.if-not-fits.false)))
