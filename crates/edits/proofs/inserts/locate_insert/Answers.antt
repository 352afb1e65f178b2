-- `edits::inserts::locate_insert` meets its contract: the record goes in where its set ends, if all its pairs are legal, with the fields that it gets.
use Rattle.std.specs.Prelude.{Some}
use native.Mathlib.Omega.{arith}
use mathlib.Core.Path.{sym, refl, subst}
use Rattle.format.specs.Bytes.{Bytes}
use Rattle.format.specs.Edits.{Edit}
use Rattle.records.proofs.Members.{head-told}
use Rattle.requests.specs.Pairs.{pairs_at}
use Rattle.edits.specs.Places.{Locates}
use Rattle.edits.proofs.Inserting.{insert-illegal, set-passes, set-numberable, insert-located}
use Rattle.edits.proofs.inserts.locate_insert.Goals as goal

pub weigh-requires : goal.weigh-requires
weigh-requires c =
    let p = c.requires.req_len_bound in
    record { req_len_bound = (p.0, omega (arith, p.1.0)); from_value = p.1.1 }

pub returns-in_default : goal.returns-in_default
returns-in_default c =
    let a = c.args in
    let k = c.requires.s_value in
    let w = c.in_default.ensures in
    λ set found. insert-illegal a.s.now k.0 a.head set found a.req.now a.added.now (pairs_at a.req.now a.from) w

pub set_behind-p-requires : goal.set_behind-p-requires
set_behind-p-requires c =
    let k = c.requires.s_value in
    let m = head-told c.args.s.now k.3.0 (Some c.args.head) k.0 (sym k.3.1) refl in
    (m.set.inside, m.set.readable)

pub slice_bounds-d-count : goal.slice_bounds-d-count
slice_bounds-d-count c =
    let k = c.requires.s_value in
    let f = (set-passes c.args.s.now k.0 c.args.head k.3.0 k.3.1 k.1 k.2 c.set_behind-p.result c.set_behind-p.ensures).set in
    omega (arith, f.ordered, f.within, f.begins, f.inside)

pub slice_bounds-d-start : goal.slice_bounds-d-start
slice_bounds-d-start c =
    let k = c.requires.s_value in
    let f = (set-passes c.args.s.now k.0 c.args.head k.3.0 k.3.1 k.1 k.2 c.set_behind-p.result c.set_behind-p.ensures).set in
    omega (arith, f.ordered, f.within, f.begins, f.inside)

pub slice_bounds-d-end : goal.slice_bounds-d-end
slice_bounds-d-end c =
    let k = c.requires.s_value in
    let f = (set-passes c.args.s.now k.0 c.args.head k.3.0 k.3.1 k.1 k.2 c.set_behind-p.result c.set_behind-p.ensures).set in
    omega (arith, f.ordered, f.within, f.begins, f.inside)

pub slice_bounds-part-count : goal.slice_bounds-part-count
slice_bounds-part-count c =
    let k = c.requires.s_value in
    let f = (set-passes c.args.s.now k.0 c.args.head k.3.0 k.3.1 k.1 k.2 c.set_behind-p.result c.set_behind-p.ensures).set in
    omega (arith, f.begins, f.inside)

pub slice_bounds-part-start : goal.slice_bounds-part-start
slice_bounds-part-start c =
    let k = c.requires.s_value in
    let f = (set-passes c.args.s.now k.0 c.args.head k.3.0 k.3.1 k.1 k.2 c.set_behind-p.result c.set_behind-p.ensures).set in
    omega (arith, f.begins, f.inside)

pub slice_bounds-part-end : goal.slice_bounds-part-end
slice_bounds-part-end c =
    let k = c.requires.s_value in
    let f = (set-passes c.args.s.now k.0 c.args.head k.3.0 k.3.1 k.1 k.2 c.set_behind-p.result c.set_behind-p.ensures).set in
    omega (arith, f.begins, f.inside)

pub complete-a-requires : goal.complete-a-requires
complete-a-requires c =
    let k = c.requires.s_value in
    let p = c.requires.req_len_bound in
    let f = set-passes c.args.s.now k.0 c.args.head k.3.0 k.3.1 k.1 k.2 c.set_behind-p.result c.set_behind-p.ensures in
    let d = set-numberable c.args.s.now k.0 c.args.head k.3.0 k.3.1 k.1 k.2 c.set_behind-p.result c.set_behind-p.ensures in
    record { numberable = (d, omega (arith, c.requires.file_bytes_in_bounds.0)); part_value = (f.set.members-readable, f.members-short, f.members-fit); req_len_bound = (p.0, omega (arith, p.1.0), p.1.1); added_room_in_bounds = omega (arith, c.requires.file_bytes_in_bounds.1) }

pub returns : goal.returns
returns c =
    let a = c.args in
    let s : Bytes = a.s.now in
    let req : Bytes = a.req.now in
    let k = c.requires.s_value in
    let w = c.in-Some.ensures in
    let out : Bytes = c.complete-a.new.added in
    λ set found. subst (Locates s req out (record { set = set; edit = Edit.insert (pairs_at req a.from) })) (sym c.located.ensures)
    (insert-located s k.0 a.head set found k.1 k.2 c.set_behind-p.result c.set_behind-p.ensures req out a.from c.in-Some.field-0.len c.in-Some.field-0.count c.complete-a.result c.requires.req_len_bound.1.1 w c.complete-a.ensures)
