-- `keys::compare_entries` meets its contract: the numbers decide, else the values.
use native.Mathlib.Omega.{arith}
use mathlib.Core.Path.{sym, ap, ap₂, ◌∙◌}
use Rattle.values.specs.Likeness.{likeness_of}
use Rattle.sorting.specs.Order.{order_of}
use Rattle.keys.specs.Marks.{mark_at}
use Rattle.keys.proofs.Prints.{value-part}
use Rattle.keys.proofs.Order.{ranked-lt, ranked-gt, ranked-on}
use Rattle.keys.proofs.compare_entries.Goals as goal

pub returns-then-p-q : goal.returns-then-p-q
returns-then-p-q c =
    sym (ranked-lt (mark_at c.args.s.now c.args.x) (mark_at c.args.s.now c.args.y) (omega arith))

pub returns-then-q-p : goal.returns-then-q-p
returns-then-q-p c =
    sym (ranked-gt (mark_at c.args.s.now c.args.x) (mark_at c.args.s.now c.args.y) (omega arith))

pub returns : goal.returns
returns c =
    let s = c.args.s.now in
    let e = ap₂ likeness_of (value-part s c.place-a.result c.args.x c.place-a.ensures) (value-part s c.place-b.result c.args.y c.place-b.ensures) in
    c.order_of.ensures ∙ ap order_of (c.compare.ensures ∙ e) ∙ sym (ranked-on (mark_at s c.args.x) (mark_at s c.args.y) (omega arith))
