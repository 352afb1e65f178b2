-- `directory::edit` meets its contract.
use Rattle.std.specs.Prelude.{length}
use Rattle.directory.proofs.Rows.{fillable, edit-done}
use Rattle.directory.proofs.edit.Goals as goal

pub fill_entries-requires : goal.fill_entries-requires
fill_entries-requires c =
    fillable c.edit_core-d.new.buf c.edit_core-d.result.used (length c.args.entries.now) c.edit_core-d.result.sets c.edit_core-d.ensures.2

pub returns : goal.returns
returns c =
    edit-done c.args.buf.now c.args.used c.args.req.now c.edit_core-d.new.buf c.args.entries.now c.edit_core-d.result c.fill_entries.new.entries c.edit_core-d.ensures c.fill_entries.ensures
