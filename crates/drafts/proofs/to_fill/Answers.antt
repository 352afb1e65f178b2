-- `drafts::to_fill` meets its contract: the file's own questions come first.
use mathlib.Core.Path.{refl, sym, ◌∙◌}
use Rattle.records.proofs.Checked.{answer-checked}
use Rattle.drafts.proofs.Asking.{call-refused, call-inside}
use borrow.Author.Rules.{rules}
use Rattle.drafts.proofs.to_fill.Goals as goal

pub returns-in_err-check_with : goal.returns-in_err-check_with
returns-in_err-check_with c =
    call-refused c.args.buf.now c.args.used c.args.req.now c.in_err-check_with.field-0.0 c.in_err-check_with.ensures c.from_residual.result c.from_residual.ensures

pub slice_bounds-to_fill_in-end : goal.slice_bounds-to_fill_in-end
slice_bounds-to_fill_in-end c =
    sym (answer-checked c.args.buf.now c.args.used 0 c.in_ok-check_with.ensures refl).long

pub to_fill_in-requires : goal.to_fill_in-requires
to_fill_in-requires c =
    let k = answer-checked c.args.buf.now c.args.used 0 c.in_ok-check_with.ensures refl in
    record { s_value = (k.readable, k.short, k.passes); file_bytes_in_bounds = search rules }

pub returns : goal.returns
returns c =
    c.to_fill_in.ensures ∙ call-inside c.args.buf.now c.args.used c.args.req.now c.in_ok-check_with.ensures
