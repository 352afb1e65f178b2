-- Digits, and behind a dot digits again: what they make is the value where it ends behind them. Of any other value nothing is told.
use native.Mathlib.Omega.{arith}
use mathlib.Core.Path.{sym, ◌∙◌}
use Rattle.values.proofs.Decoding.{byte_inside}
use Rattle.totals.proofs.Running.{whole-small, whole-told, fraction-few, fraction-small, fraction-told}
use Rattle.totals.proofs.plain.plain_value.Goals as goal

pub reach-before-requires : goal.reach-before-requires
reach-before-requires c = (omega arith, omega arith)

pub read_digits-w-requires : goal.read_digits-w-requires
read_digits-w-requires c =
    (c.reach-before.ensures.0, c.reach-before.ensures.1, c.reach-before.ensures.2, omega arith)

pub ends_at-requires : goal.ends_at-requires
ends_at-requires c =
    omega (arith, c.read_digits-w.ensures.before, c.reach-before.ensures.1)

pub scaled-requires : goal.scaled-requires
scaled-requires c =
    (omega arith, whole-small c.args.s.now c.reach-before.result c.read_digits-w.result.at c.read_digits-w.result.number c.read_digits-w.ensures c.reach-before.ensures.1 (omega (arith, c.reach-before.ensures.2)) c.if-e-eq0.false)

pub returns-then-ends_at : goal.returns-then-ends_at
returns-then-ends_at c =
    whole-told c.args.s.now c.reach-before.result c.read_digits-w.result.at c.read_digits-w.result.number c.read_digits-w.ensures c.reach-before.ensures.1 (omega (arith, c.reach-before.ensures.2)) c.if-e-eq0.false c.scaled.result c.scaled.ensures (c.ends_at.ensures c.if-ends_at.true)

pub overflow_add-a : goal.overflow_add-a
overflow_add-a c =
    omega (arith, c.read_digits-w.ensures.before, c.reach-before.ensures.2)

pub reach-behind-requires : goal.reach-behind-requires
reach-behind-requires c =
    (omega (arith, byte_inside c.args.s.now c.read_digits-w.result.at 45 (sym c.byte.ensures ∙ c.if-byte-ne46.false)), omega arith)

pub read_digits-f-requires : goal.read_digits-f-requires
read_digits-f-requires c =
    (c.reach-behind.ensures.0, c.reach-behind.ensures.1, omega (arith, c.reach-behind.ensures.2), whole-small c.args.s.now c.reach-before.result c.read_digits-w.result.at c.read_digits-w.result.number c.read_digits-w.ensures c.reach-before.ensures.1 (omega (arith, c.reach-before.ensures.2)) c.if-e-eq0.false)

pub ends_at-requires-2 : goal.ends_at-requires-2
ends_at-requires-2 c =
    omega (arith, c.read_digits-f.ensures.before, c.reach-behind.ensures.1)

pub overflow_sub-z : goal.overflow_sub-z
overflow_sub-z c =
    c.read_digits-f.ensures.on

pub scaled-requires-then-ends_at-2 : goal.scaled-requires-then-ends_at-2
scaled-requires-then-ends_at-2 c =
    (fraction-few c.args.s.now c.reach-before.result c.read_digits-w.result.at c.read_digits-w.result.number c.read_digits-w.ensures c.reach-before.ensures.1 (omega (arith, c.reach-before.ensures.2)) c.if-e-eq0.false (sym c.byte.ensures ∙ c.if-byte-ne46.false) c.reach-behind.result c.read_digits-f.result.at c.read_digits-f.result.number c.read_digits-f.ensures c.reach-behind.ensures.1 c.reach-behind.ensures.2, fraction-small c.args.s.now c.reach-before.result c.read_digits-w.result.at c.read_digits-w.result.number c.read_digits-w.ensures c.reach-before.ensures.1 (omega (arith, c.reach-before.ensures.2)) c.if-e-eq0.false (sym c.byte.ensures ∙ c.if-byte-ne46.false) c.reach-behind.result c.read_digits-f.result.at c.read_digits-f.result.number c.read_digits-f.ensures c.reach-behind.ensures.1 c.reach-behind.ensures.2)

pub returns-then-ends_at-2 : goal.returns-then-ends_at-2
returns-then-ends_at-2 c =
    fraction-told c.args.s.now c.reach-before.result c.read_digits-w.result.at c.read_digits-w.result.number c.read_digits-w.ensures c.reach-before.ensures.1 (omega (arith, c.reach-before.ensures.2)) c.if-e-eq0.false (sym c.byte.ensures ∙ c.if-byte-ne46.false) c.reach-behind.result c.read_digits-f.result.at c.read_digits-f.result.number c.read_digits-f.ensures c.reach-behind.ensures.1 c.reach-behind.ensures.2 c.if-z-a.false c.scaled-then-ends_at-2.result c.scaled-then-ends_at-2.ensures (c.ends_at-2.ensures c.if-ends_at-2.true)
