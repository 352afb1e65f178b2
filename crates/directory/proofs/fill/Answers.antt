-- `directory::fill` meets its contract.
use Rattle.std.specs.Prelude.{length}
use mathlib.Core.Path.{ap, ◌∙◌}
use Rattle.format.specs.Calls.{value_or}
use Rattle.format.proofs.Refused.{value-told}
use Rattle.directory.proofs.Rows.{fillable, fill_done}
use Rattle.directory.proofs.fill.Goals as goal

pub fill_entries-requires : goal.fill_entries-requires
fill_entries-requires c =
    fillable c.args.buf.now c.args.used (length c.args.entries.now) c.unwrap_or-n.result (c.unwrap_or-n.ensures ∙ value-told 0 c.set_count-a.result ∙ ap (value_or 0) c.set_count-a.ensures)

pub returns : goal.returns
returns c =
    fill_done c.args.buf.now c.args.used c.args.entries.now c.set_count-a.result c.unwrap_or-n.result c.fill_entries.new.entries c.set_count-a.ensures c.unwrap_or-n.ensures c.fill_entries.ensures
