-- `dictionary::wordsets::firsts` meets its contract: the entries of a list's words, in their order, compared with each other.
use native.Mathlib.Omega.{arith}
use mathlib.Core.Path.{sym}
use lib.Seq.{length-take-le}
use Rattle.format.specs.Rules.{listed}
use Rattle.records.specs.Walk.{record_in}
use Rattle.dictionary.proofs.Places.{read-room, read-few}
use Rattle.dictionary.proofs.Firsts.{added-firsts}
use Rattle.dictionary.proofs.wordsets.firsts.Goals as goal

pub slice_bounds-first_entries-end : goal.slice_bounds-first_entries-end
slice_bounds-first_entries-end c =
    sym (length-take-le c.add_list-n.result c.add_list-n.new.entries (read-room c.args.d.now (listed c.args.name.now (record_in c.args.d.now)) _ c.add_list-n.new.entries c.add_list-n.result c.requires.1.few (omega arith) c.add_list-n.ensures))

pub first_entries-requires : goal.first_entries-requires
first_entries-requires c =
    let h = read-room c.args.d.now (listed c.args.name.now (record_in c.args.d.now)) _ c.add_list-n.new.entries c.add_list-n.result c.requires.1.few (omega arith) c.add_list-n.ensures in
    let f = read-few c.args.d.now (listed c.args.name.now (record_in c.args.d.now)) _ c.add_list-n.new.entries c.add_list-n.result c.requires.1.few (omega arith) c.add_list-n.ensures in
    omega (arith, f, length-take-le c.add_list-n.result c.add_list-n.new.entries h)

pub returns : goal.returns
returns c =
    added-firsts c.args.d.now (listed c.args.name.now (record_in c.args.d.now)) _ c.add_list-n.new.entries c.add_list-n.result c.first_entries.result c.add_list-n.ensures c.first_entries.ensures
