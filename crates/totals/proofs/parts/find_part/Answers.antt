-- The head tells where the records begin; they end with the text, or where the walk over them says.
use mathlib.Core.Path.{refl}
use Rattle.std.specs.Prelude.{Some, None}
use Rattle.records.proofs.Members.{head-told}
use Rattle.totals.proofs.Specials.{part-last, part-walked}
use Rattle.totals.proofs.parts.find_part.Goals as goal

pub returns-in_err-p : goal.returns-in_err-p
returns-in_err-p c =
    rw c.from_residual.ensures (head-told c.args.s.now c.args.set.now None c.requires c.in_err-p.ensures refl)

pub slice_bounds-has_special_line-count : goal.slice_bounds-has_special_line-count
slice_bounds-has_special_line-count c =
    (head-told c.args.s.now c.args.set.now (Some c.in_ok-p.p) c.requires c.in_ok-p.ensures refl).set.inside

pub slice_bounds-has_special_line-start : goal.slice_bounds-has_special_line-start
slice_bounds-has_special_line-start c =
    (head-told c.args.s.now c.args.set.now (Some c.in_ok-p.p) c.requires c.in_ok-p.ensures refl).set.inside

pub set_behind-q-requires : goal.set_behind-q-requires
set_behind-q-requires c =
    let f = head-told c.args.s.now c.args.set.now (Some c.in_ok-p.p) c.requires c.in_ok-p.ensures refl in
    (f.set.inside, f.set.readable)

pub returns-then-has_special_line : goal.returns-then-has_special_line
returns-then-has_special_line c =
    let f = head-told c.args.s.now c.args.set.now (Some c.in_ok-p.p) c.requires c.in_ok-p.ensures refl in
    part-walked c.args.s.now c.args.set.now c.in_ok-p.p f c.set_behind-q.result c.set_behind-q.ensures

pub returns : goal.returns
returns c =
    let f = head-told c.args.s.now c.args.set.now (Some c.in_ok-p.p) c.requires c.in_ok-p.ensures refl in
    part-last c.args.s.now c.args.set.now c.in_ok-p.p f c.has_special_line.result c.has_special_line.ensures c.if-has_special_line.false
