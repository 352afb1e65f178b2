-- `keys::alike` meets its contract: the numbers are the same and the values are.
use mathlib.Core.Path.{sym, ap, ap₂, ◌∙◌}
use Prim.Native.Nat.{◌/◌}
use mathlib.Core.Bool.{Bool, ◌&&◌}
use borrow.Author.Tests.{eq-eqb, ne_eqb}
use Rattle.format.specs.Bytes.{same}
use Rattle.keys.specs.Marks.{mark_at}
use Rattle.keys.specs.Order.{value_in}
use Rattle.keys.proofs.Prints.{value-part}
use Rattle.keys.proofs.alike.Goals as goal

pub returns-then-x-y : goal.returns-then-x-y
returns-then-x-y c =
    let x = c.args.x in
    let y = c.args.y in
    sym (ap (λ (b : Bool). b && same (value_in (mark_at c.args.s.now x)) (value_in (mark_at c.args.s.now y))) (ne_eqb (x / 65536) (y / 65536) c.if-x-y.true))

pub returns : goal.returns
returns c =
    let x = c.args.x in
    let y = c.args.y in
    let s = c.args.s.now in
    c.are_equal.ensures ∙ ap₂ same (value-part s c.place-a.result x c.place-a.ensures) (value-part s c.place-b.result y c.place-b.ensures) ∙ sym (ap (λ (b : Bool). b && same (value_in (mark_at s x)) (value_in (mark_at s y))) (eq-eqb (x / 65536) (y / 65536) c.if-x-y.false))
