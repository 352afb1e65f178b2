-- `merging::inserts::number` meets its contract: the descriptor and the records of the set are such that numbers can be given.
use native.Mathlib.Omega.{arith}
use Rattle.merging.proofs.Placing.{set-stands, set-described, members-short, members-fit}
use Rattle.merging.proofs.inserts.number.Goals as goal

pub slice_bounds-add_numbers-count : goal.slice_bounds-add_numbers-count
slice_bounds-add_numbers-count c =
    let f = set-stands c.args.s.now c.requires.appendable.0 c.requires.appendable.1.1.0 c.requires.appendable.1.0 c.requires.appendable.1.1.1.0 c.args.p c.requires.appendable.1.1.1.1 in omega (arith, f.ordered, f.within, f.begins, f.inside)

pub slice_bounds-add_numbers-start : goal.slice_bounds-add_numbers-start
slice_bounds-add_numbers-start c =
    let f = set-stands c.args.s.now c.requires.appendable.0 c.requires.appendable.1.1.0 c.requires.appendable.1.0 c.requires.appendable.1.1.1.0 c.args.p c.requires.appendable.1.1.1.1 in omega (arith, f.ordered, f.within, f.begins, f.inside)

pub slice_bounds-add_numbers-end : goal.slice_bounds-add_numbers-end
slice_bounds-add_numbers-end c =
    let f = set-stands c.args.s.now c.requires.appendable.0 c.requires.appendable.1.1.0 c.requires.appendable.1.0 c.requires.appendable.1.1.1.0 c.args.p c.requires.appendable.1.1.1.1 in omega (arith, f.ordered, f.within, f.begins, f.inside)

pub slice_bounds-add_numbers-count-2 : goal.slice_bounds-add_numbers-count-2
slice_bounds-add_numbers-count-2 c =
    let f = set-stands c.args.s.now c.requires.appendable.0 c.requires.appendable.1.1.0 c.requires.appendable.1.0 c.requires.appendable.1.1.1.0 c.args.p c.requires.appendable.1.1.1.1 in omega (arith, f.begins, f.inside)

pub slice_bounds-add_numbers-start-2 : goal.slice_bounds-add_numbers-start-2
slice_bounds-add_numbers-start-2 c =
    let f = set-stands c.args.s.now c.requires.appendable.0 c.requires.appendable.1.1.0 c.requires.appendable.1.0 c.requires.appendable.1.1.1.0 c.args.p c.requires.appendable.1.1.1.1 in omega (arith, f.begins, f.inside)

pub slice_bounds-add_numbers-end-2 : goal.slice_bounds-add_numbers-end-2
slice_bounds-add_numbers-end-2 c =
    let f = set-stands c.args.s.now c.requires.appendable.0 c.requires.appendable.1.1.0 c.requires.appendable.1.0 c.requires.appendable.1.1.1.0 c.args.p c.requires.appendable.1.1.1.1 in omega (arith, f.begins, f.inside)

pub add_numbers-requires : goal.add_numbers-requires
add_numbers-requires c =
    let f = set-stands c.args.s.now c.requires.appendable.0 c.requires.appendable.1.1.0 c.requires.appendable.1.0 c.requires.appendable.1.1.1.0 c.args.p c.requires.appendable.1.1.1.1 in record { described = (set-described c.args.s.now c.requires.appendable.0 c.requires.appendable.1.1.0 c.requires.appendable.1.0 c.requires.appendable.1.1.1.0 c.args.p c.requires.appendable.1.1.1.1, c.requires.request_len_bound.2); part_value = (f.members-readable, members-short c.args.s.now c.requires.appendable.0 c.requires.appendable.1.1.0 c.requires.appendable.1.0 c.requires.appendable.1.1.1.0 c.args.p c.requires.appendable.1.1.1.1, members-fit c.args.s.now c.requires.appendable.0 c.requires.appendable.1.1.0 c.requires.appendable.1.0 c.requires.appendable.1.1.1.0 c.args.p c.requires.appendable.1.1.1.1); req_len_bound = (c.requires.request_len_bound.0, omega arith, c.requires.request_len_bound.1) }
