use native.Mathlib.Omega.{arith}
use mathlib.Core.Path.{◌≡◌}
use Rattle.selection.proofs.Marking.{marked-none, marked_more, marked_all, hit-by}
use Rattle.selection.proofs.fields.satisfying.Goals as goal

pub loop-k-init : goal.loop-k-init
loop-k-init c = marked-none _

pub offset_bounds-p-k : goal.offset_bounds-p-k
offset_bounds-p-k c =
    omega (arith, c.loop-k-test.true, c.requires.filled.few)

pub bounds-p-k : goal.bounds-p-k
bounds-p-k c =
    omega (arith, c.loop-k-test.true, c.requires.filled.few)

pub has-asked-requires : goal.has-asked-requires
has-asked-requires c =
    omega (arith, c.loop-k-test.true, c.requires.filled.few)

pub is_hit-hit-requires : goal.is_hit-hit-requires
is_hit-hit-requires c =
    c.requires.x_value

pub with_place-set-requires : goal.with_place-set-requires
with_place-set-requires c =
    omega (arith, c.loop-k-test.true, c.requires.filled.few)

pub loop-k-preserved : goal.loop-k-preserved
loop-k-preserved c =
    marked_more _ c.loop-k.k c.loop-k.set c.with_place-set.result c.is_hit-hit.result c.loop-k.invariant c.with_place-set.ensures (hit-by c.args.e.now c.args.p.rows c.loop-k.k _ (omega (arith, c.loop-k-test.true, c.requires.filled.few, c.requires.filled.rows_long)) c.has-asked.result c.is_hit-hit.result c.args.hits c.args.v.now c.has-asked.ensures c.is_hit-hit.ensures)

pub returns : goal.returns
returns c =
    marked_all _ c.loop-k.k c.args.p.count c.loop-k.set (let z : c.loop-k.k ≡ c.args.p.count = omega (arith, c.loop-k.auto.k-end, c.loop-k-test.false) in z) c.loop-k.invariant
