-- `typedefs::read_names` meets its contract: the places and the names with their numbers, and the table of the names.
use native.Mathlib.Omega.{arith}
use mathlib.Core.Path.{sym}
use lib.Seq.{length-take-le}
use Rattle.typedefs.proofs.Placing.{names-room, names-entries, names-made}
use Rattle.typedefs.proofs.read_names.Goals as goal

pub add_names-p-requires : goal.add_names-p-requires
add_names-p-requires c =
    record { d_value = c.requires.d_value; text_len_bound = (c.requires.text_len_bound.0, c.requires.text_len_bound.1, omega arith) }

pub slice_bounds-entries-end : goal.slice_bounds-entries-end
slice_bounds-entries-end c =
    names-room c.args.d.now _ c.add_names-p.new.entries c.add_names-p.result.rows c.add_names-p.result.count c.add_names-p.ensures.0 c.add_names-p.ensures.1 (omega arith)

pub slice_bounds-build-end : goal.slice_bounds-build-end
slice_bounds-build-end c =
    sym (length-take-le c.add_names-p.result.count c.add_names-p.new.entries (names-room c.args.d.now _ c.add_names-p.new.entries c.add_names-p.result.rows c.add_names-p.result.count c.add_names-p.ensures.0 c.add_names-p.ensures.1 (omega arith)))

pub build-table-requires : goal.build-table-requires
build-table-requires c =
    names-entries c.args.d.now _ c.add_names-p.new.entries c.add_names-p.result.rows c.add_names-p.result.count c.add_names-p.ensures.0 c.add_names-p.ensures.1 (omega arith)

pub returns : goal.returns
returns c =
    names-made c.args.d.now _ c.add_names-p.new.entries c.add_names-p.result.rows c.add_names-p.result.count c.add_names-p.ensures.0 c.add_names-p.ensures.1 (omega arith) c.build-table.new.entries c.build-table.result c.build-table.ensures
