-- `lookup::inside::view_in` meets its contract: what the searches for the set and the record tell is what questions 21 and 22 ask.
use native.Mathlib.Omega.{arith}
use mathlib.Core.Path.{sym, ap, ◌∙◌}
use lib.ListN.{drop, length-drop}
use Rattle.format.specs.Bytes.{Bytes}
use Rattle.records.proofs.Readings.{part-readable}
use Rattle.records.proofs.Members.{head-told, record-told}
use Rattle.records.specs.Places.{places_of, record_place}
use Rattle.lines.proofs.Cuts.{rest}
use Rattle.lookup.proofs.Meeting.{met}
use Rattle.lookup.proofs.Looking.{view-missing, view-past, view-found}
use Rattle.lookup.proofs.inside.view_in.Goals as goal

pub returns-in_default : goal.returns-in_default
returns-in_default c =
    (sym (view-missing c.args.s.now c.args.set.now c.args.row (head-told c.args.s.now c.args.set.now c.find_head.result c.requires c.find_head.ensures c.in_default.is)), tt)

pub slice_bounds-find_record-count : goal.slice_bounds-find_record-count
slice_bounds-find_record-count c =
    let t = head-told c.args.s.now c.args.set.now c.find_head.result c.requires c.find_head.ensures c.in-Some.is in omega (arith, t.set.inside)

pub slice_bounds-find_record-start : goal.slice_bounds-find_record-start
slice_bounds-find_record-start c =
    let t = head-told c.args.s.now c.args.set.now c.find_head.result c.requires c.find_head.ensures c.in-Some.is in omega (arith, t.set.inside)

pub find_record-requires : goal.find_record-requires
find_record-requires c =
    let t = head-told c.args.s.now c.args.set.now c.find_head.result c.requires c.find_head.ensures c.in-Some.is in (part-readable c.args.s.now c.in-Some.head.begin t.set.readable)

pub returns-in_default-find_record : goal.returns-in_default-find_record
returns-in_default-find_record c =
    let t = head-told c.args.s.now c.args.set.now c.find_head.result c.requires c.find_head.ensures c.in-Some.is in let x = c.find_record.ensures ∙ ap (λ (y : Bytes). record_place (places_of y) c.args.row) (rest c.args.s.now c.in-Some.head.begin) in let r = record-told (drop c.in-Some.head.begin c.args.s.now) c.args.row c.find_record.result t.set.readable x c.in_default-find_record.is in (sym (view-past c.args.s.now c.args.set.now c.args.row c.in-Some.head t r), tt)

pub overflow_add-start : goal.overflow_add-start
overflow_add-start c =
    let w = met c.args.s.now c.args.set.now c.args.row c.requires c.in-Some.head c.in-Some.ensures c.in-Some-find_record.p c.in-Some-find_record.ensures in
    omega (arith, w.ordered, w.inside, c.well_formed.0.0)

pub overflow_add-end : goal.overflow_add-end
overflow_add-end c =
    let w = met c.args.s.now c.args.set.now c.args.row c.requires c.in-Some.head c.in-Some.ensures c.in-Some-find_record.p c.in-Some-find_record.ensures in
    omega (arith, w.head.set.inside, w.found.stand.within, w.found.stand.inside, length-drop c.in-Some.head.begin c.args.s.now, c.well_formed.0.0)

pub returns : goal.returns
returns c =
    let w = met c.args.s.now c.args.set.now c.args.row c.requires c.in-Some.head c.in-Some.ensures c.in-Some-find_record.p c.in-Some-find_record.ensures in
    (sym (view-found c.args.s.now c.args.set.now c.args.row c.in-Some.head w.head c.in-Some-find_record.p c.requires (sym c.in-Some.ensures) w.at w.found), (omega (arith, w.ordered), w.inside))
