-- `enums::read` meets its contract: the symbols of the rows, and the table of all.
use native.Mathlib.Omega.{arith}
use mathlib.Core.Path.{sym}
use lib.ListN.{drop, length-append, length-drop}
use lib.Seq.{length-take-le}
use Rattle.enums.proofs.Making.{all-entries, made, reaches}
use Rattle.enums.proofs.read.Goals as goal

pub add_rows-a-requires : goal.add_rows-a-requires
add_rows-a-requires c =
    record { d_len_bound = c.requires.d_len_bound; texts = c.requires.texts.0 }

pub slice_bounds-build-end : goal.slice_bounds-build-end
slice_bounds-build-end c =
    c.add_rows-a.ensures.room

pub slice_bounds-build-end-2 : goal.slice_bounds-build-end-2
slice_bounds-build-end-2 c =
    sym (length-take-le c.add_rows-a.result.count c.add_rows-a.new.entries c.add_rows-a.ensures.room)

pub build-table-requires : goal.build-table-requires
build-table-requires c =
    all-entries c.args.d.now c.args.texts.now c.args.from c.args.to c.args.entries.now c.add_rows-a.new.entries c.add_rows-a.result c.add_rows-a.ensures

pub shape_of-entries : goal.shape_of-entries
shape_of-entries c =
    let b = c.add_rows-a.ensures.adding.long in
    let r = c.add_rows-a.ensures.room in
    let k = c.build-table.auto in
    omega (arith, length-append c.build-table.new.entries (drop c.add_rows-a.result.count c.add_rows-a.new.entries), length-drop c.add_rows-a.result.count c.add_rows-a.new.entries, length-take-le c.add_rows-a.result.count c.add_rows-a.new.entries c.add_rows-a.ensures.room, k.entries)

pub returns : goal.returns
returns c =
    (made c.args.d.now c.args.texts.now c.args.from c.args.to c.args.entries.now c.add_rows-a.new.entries c.add_rows-a.result c.add_rows-a.ensures c.build-table.new.entries c.build-table.result c.build-table.ensures c.requires.d_len_bound.3, reaches c.args.d.now c.args.texts.now c.args.from c.args.to c.args.entries.now c.add_rows-a.new.entries c.add_rows-a.result c.add_rows-a.ensures c.build-table.new.entries c.build-table.result c.build-table.ensures c.requires.texts.1)
