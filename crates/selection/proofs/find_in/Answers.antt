-- `selection::find_in` meets its contract: what the search for the set, the reading and the walks tell is what questions 21, 33 and 34 ask.
use native.Mathlib.Omega.{arith}
use Rattle.words.specs.Spans.{span}
use Rattle.records.proofs.SetOf.{set_told, passing-set}
use Rattle.rules.proofs.Granted.{values-fit}
use Rattle.selection.proofs.Calling.{made_told, find-missing, find-formless, find-short, find-found}
use Rattle.selection.proofs.find_in.Goals as goal

pub returns-in_default : goal.returns-in_default
returns-in_default c =
    find-missing c.args.s.now c.args.set.now c.args.expression.now c.args.list.now (set_told c.args.s.now c.args.set.now c.find_set.result c.requires.0 c.find_set.ensures c.in_default.is)

pub slice_bounds-list_found-count : goal.slice_bounds-list_found-count
slice_bounds-list_found-count c =
    let t = set_told c.args.s.now c.args.set.now c.find_set.result c.requires.0 c.find_set.ensures c.in-Some.is in t.begins

pub slice_bounds-list_found-start : goal.slice_bounds-list_found-start
slice_bounds-list_found-start c =
    let t = set_told c.args.s.now c.args.set.now c.find_set.result c.requires.0 c.find_set.ensures c.in-Some.is in t.begins

pub slice_bounds-list_found-end : goal.slice_bounds-list_found-end
slice_bounds-list_found-end c =
    let t = set_told c.args.s.now c.args.set.now c.find_set.result c.requires.0 c.find_set.ensures c.in-Some.is in t.inside

pub list_found-n-requires : goal.list_found-n-requires
list_found-n-requires c =
    let made = made_told c.args.expression.now c.read.result c.read.ensures c.in-Some-read.is in
    let t = set_told c.args.s.now c.args.set.now c.find_set.result c.requires.0 c.find_set.ensures c.in-Some.is in let g = passing-set c.args.s.now c.args.set.now c.in-Some.p t c.requires.1 c.requires.2 in (made.1, t.members-readable, g.members-short, values-fit _ (omega arith) (span c.in-Some.p.begin c.in-Some.p.after c.args.s.now) g.members-fit)

pub returns-then-list-n : goal.returns-then-list-n
returns-then-list-n c =
    let made = made_told c.args.expression.now c.read.result c.read.ensures c.in-Some-read.is in
    let t = set_told c.args.s.now c.args.set.now c.find_set.result c.requires.0 c.find_set.ensures c.in-Some.is in find-short c.args.s.now c.args.set.now c.args.expression.now c.args.list.now c.in-Some.p t c.in-Some-read.program made.0 made.2 c.list_found-n.result (λ x y. (c.list_found-n.ensures x y).0) c.if-list-n.true

pub slice_bounds-list_found-count-2 : goal.slice_bounds-list_found-count-2
slice_bounds-list_found-count-2 c =
    let t = set_told c.args.s.now c.args.set.now c.find_set.result c.requires.0 c.find_set.ensures c.in-Some.is in t.begins

pub slice_bounds-list_found-start-2 : goal.slice_bounds-list_found-start-2
slice_bounds-list_found-start-2 c =
    let t = set_told c.args.s.now c.args.set.now c.find_set.result c.requires.0 c.find_set.ensures c.in-Some.is in t.begins

pub slice_bounds-list_found-end-4 : goal.slice_bounds-list_found-end-4
slice_bounds-list_found-end-4 c =
    let t = set_told c.args.s.now c.args.set.now c.find_set.result c.requires.0 c.find_set.ensures c.in-Some.is in t.inside

pub list_found-requires : goal.list_found-requires
list_found-requires c =
    let made = made_told c.args.expression.now c.read.result c.read.ensures c.in-Some-read.is in
    let t = set_told c.args.s.now c.args.set.now c.find_set.result c.requires.0 c.find_set.ensures c.in-Some.is in let g = passing-set c.args.s.now c.args.set.now c.in-Some.p t c.requires.1 c.requires.2 in (made.1, t.members-readable, g.members-short, values-fit _ (omega (arith, c.list_found-n.auto.scratch)) (span c.in-Some.p.begin c.in-Some.p.after c.args.s.now) g.members-fit)

pub returns-in_default-read : goal.returns-in_default-read
returns-in_default-read c =
    let t = set_told c.args.s.now c.args.set.now c.find_set.result c.requires.0 c.find_set.ensures c.in-Some.is in find-formless c.args.s.now c.args.set.now c.args.expression.now c.args.list.now c.in-Some.p t (made_told c.args.expression.now c.read.result c.read.ensures c.in_default-read.is)

pub returns : goal.returns
returns c =
    let made = made_told c.args.expression.now c.read.result c.read.ensures c.in-Some-read.is in
    let t = set_told c.args.s.now c.args.set.now c.find_set.result c.requires.0 c.find_set.ensures c.in-Some.is in find-found c.args.s.now c.args.set.now c.args.expression.now c.args.list.now c.in-Some.p t c.in-Some-read.program made.0 made.2 c.list_found-n.result _ (λ x y. (c.list_found-n.ensures x y).0) (λ x y. (c.list_found.ensures x y).1) c.if-list-n.false
