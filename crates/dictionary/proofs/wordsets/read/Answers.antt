-- `dictionary::wordsets::read` meets its contract: the words of the fields of a name, the table of them, and their sets.
use native.Mathlib.Omega.{arith}
use mathlib.Core.Path.{sym}
use lib.Seq.{length-take-le}
use Rattle.format.specs.Rules.{listed}
use Rattle.records.specs.Walk.{record_in}
use Rattle.dictionary.proofs.Places.{read-room, read-few, read-entries, read_table, read-words}
use Rattle.dictionary.proofs.wordsets.read.Goals as goal

pub add_list-n-requires : goal.add_list-n-requires
add_list-n-requires c =
    record { d_value = (c.requires.described.0.reads, c.requires.described.0.short); d_len_bound = (c.requires.described.1.few, c.requires.list_words_in_bounds.0); d_value_2 = c.requires.described.1.names }

pub slice_bounds-build-end : goal.slice_bounds-build-end
slice_bounds-build-end c =
    read-room c.args.d.now (listed c.args.name.now (record_in c.args.d.now)) c.args.entries.now c.add_list-n.new.entries c.add_list-n.result c.requires.described.1.few c.requires.list_words_in_bounds.0 c.add_list-n.ensures

pub slice_bounds-build-end-2 : goal.slice_bounds-build-end-2
slice_bounds-build-end-2 c =
    let h = read-room c.args.d.now (listed c.args.name.now (record_in c.args.d.now)) c.args.entries.now c.add_list-n.new.entries c.add_list-n.result c.requires.described.1.few c.requires.list_words_in_bounds.0 c.add_list-n.ensures in
    sym (length-take-le c.add_list-n.result c.add_list-n.new.entries h)

pub build-table-requires : goal.build-table-requires
build-table-requires c =
    read-entries c.args.d.now (listed c.args.name.now (record_in c.args.d.now)) c.args.entries.now c.add_list-n.new.entries c.add_list-n.result c.requires.described.1.few c.requires.list_words_in_bounds.0 c.add_list-n.ensures

pub join-requires : goal.join-requires
join-requires c =
    let h = read-room c.args.d.now (listed c.args.name.now (record_in c.args.d.now)) c.args.entries.now c.add_list-n.new.entries c.add_list-n.result c.requires.described.1.few c.requires.list_words_in_bounds.0 c.add_list-n.ensures in
    let n = length-take-le c.add_list-n.result c.add_list-n.new.entries h in
    let f = read-few c.args.d.now (listed c.args.name.now (record_in c.args.d.now)) c.args.entries.now c.add_list-n.new.entries c.add_list-n.result c.requires.described.1.few c.requires.list_words_in_bounds.0 c.add_list-n.ensures in
    let r = c.build-table.ensures.table.room in
    let z = c.requires.list_words_in_bounds.1 in
    let k = c.build-table.auto in
    (read_table c.args.d.now (listed c.args.name.now (record_in c.args.d.now)) c.args.entries.now c.add_list-n.new.entries c.add_list-n.result c.requires.described.1.few c.requires.list_words_in_bounds.0 c.add_list-n.ensures c.build-table.new.entries c.build-table.result c.build-table.ensures, omega (arith, k.entries))

pub returns : goal.returns
returns c =
    read-words c.args.d.now (listed c.args.name.now (record_in c.args.d.now)) c.args.entries.now c.add_list-n.new.entries c.add_list-n.result c.requires.described.1.few c.requires.list_words_in_bounds.0 c.add_list-n.ensures c.build-table.new.entries c.build-table.result c.build-table.ensures c.join.new.sets c.join.ensures
