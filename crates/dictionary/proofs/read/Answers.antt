-- `dictionary::read` meets its contract: the lists' words, then the names of `%type` fields, and the table of all.
use native.Mathlib.Omega.{arith}
use mathlib.Core.Path.{refl, sym}
use lib.ListN.{drop, length-append, length-drop}
use lib.Seq.{length-take-le}
use Rattle.format.specs.Numbers.{int_bounds}
use Rattle.records.specs.Walk.{record_in}
use Rattle.dictionary.proofs.Listing.{lists-names}
use Rattle.dictionary.proofs.Typing.{all-shaped}
use Rattle.dictionary.proofs.Counting.{lists-few}
use Rattle.dictionary.proofs.Making.{all-entries, made}
use Rattle.dictionary.proofs.read.Goals as goal

pub add_lists-n-requires : goal.add_lists-n-requires
add_lists-n-requires c =
    let h = c.requires.described in
    record { d_value = (h.reads, h.short); d_in_bounds = (omega (arith, lists-few c.args.d.now h, c.requires.from_in_bounds.1), lists-names int_bounds (record_in c.args.d.now) (all-shaped c.args.d.now h)) }

pub add_types-a-requires : goal.add_types-a-requires
add_types-a-requires c =
    record { described = c.requires.described; from_in_bounds = (c.requires.from_in_bounds.0, omega (arith, c.add_lists-n.ensures.count, c.add_lists-n.ensures.long, lists-few c.args.d.now c.requires.described, c.requires.from_in_bounds.1)) }

pub slice_bounds-build-end : goal.slice_bounds-build-end
slice_bounds-build-end c =
    c.add_types-a.ensures.room

pub slice_bounds-build-end-2 : goal.slice_bounds-build-end-2
slice_bounds-build-end-2 c =
    sym (length-take-le c.add_types-a.result.count c.add_types-a.new.entries c.add_types-a.ensures.room)

pub build-table-requires : goal.build-table-requires
build-table-requires c =
    all-entries c.args.d.now c.args.from c.args.entries.now c.add_lists-n.new.entries c.add_lists-n.result c.add_lists-n.ensures c.add_types-a.new.entries c.add_types-a.result c.add_types-a.ensures

pub shape_of-entries : goal.shape_of-entries
shape_of-entries c =
    let a = c.add_lists-n.ensures.long in
    let b = c.add_types-a.ensures.adding.long in
    let r = c.add_types-a.ensures.room in
    let k = c.build-table.auto in
    omega (arith, length-append c.build-table.new.entries (drop c.add_types-a.result.count c.add_types-a.new.entries), length-drop c.add_types-a.result.count c.add_types-a.new.entries, length-take-le c.add_types-a.result.count c.add_types-a.new.entries c.add_types-a.ensures.room, k.entries)

pub returns : goal.returns
returns c =
    (made c.args.d.now c.args.from c.args.entries.now c.add_lists-n.new.entries c.add_lists-n.result c.add_lists-n.ensures c.add_types-a.new.entries c.add_types-a.result c.add_types-a.ensures c.build-table.new.entries c.build-table.result c.build-table.ensures (omega (arith, c.add_lists-n.ensures.count, c.add_lists-n.ensures.long, lists-few c.args.d.now c.requires.described, c.requires.from_in_bounds.1)), refl)
