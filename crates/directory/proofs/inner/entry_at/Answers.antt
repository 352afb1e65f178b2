-- `directory::inner::entry_at` meets its contract.
use mathlib.Core.Path.{sym}
use Rattle.records.proofs.Checked.{checked}
use Rattle.directory.proofs.inner.entry_at.Goals as goal

pub slice_bounds-entry_in-end : goal.slice_bounds-entry_in-end
slice_bounds-entry_in-end c =
    sym (checked c.args.buf.now c.args.used c.requires.0.0).long

pub entry_in-requires : goal.entry_in-requires
entry_in-requires c =
    ((checked c.args.buf.now c.args.used c.requires.0.0).readable, c.requires.0.1, c.requires.1)
