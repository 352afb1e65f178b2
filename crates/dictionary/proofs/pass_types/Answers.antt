use Prim.Native.Nat.{ℕ}
use native.Mathlib.Omega.{arith}
use mathlib.Core.Path.{◌≡◌, ap, ◌∙◌}
use lib.ListN.{drop}
use Rattle.format.specs.Bytes.{text}
use Rattle.records.specs.Named.{values_from}
use Rattle.records.proofs.Readings.{part-readable}
use Rattle.records.proofs.Named.{value-told}
use Rattle.typedefs.proofs.Placing.{passed_start, passed-more}
use Rattle.dictionary.proofs.Typing.{row-none}
use Rattle.dictionary.proofs.pass_types.Goals as goal

pub loop-row-init : goal.loop-row-init
loop-row-init c =
    passed_start c.args.d.now (text "%type") c.requires.d_value

pub next_named-requires : goal.next_named-requires
next_named-requires c =
    (part-readable c.args.d.now c.loop-row.i c.loop-row.invariant.readable)

pub returns-in_default : goal.returns-in_default
returns-in_default c =
    let e = value-told c.args.d.now (text "%type") c.loop-row.i c.next_named.result c.next_named.ensures c.in_default.is in
    let h = row-none c.args.d.now c.loop-row._row c.loop-row.i c.loop-row.invariant e in
    absurd (omega (arith, c.loop-row-test.true, c.requires.count_in_bounds))

pub overflow_add-i : goal.overflow_add-i
overflow_add-i c =
    let h = value-told c.args.d.now (text "%type") c.loop-row.i c.next_named.result c.next_named.ensures c.in-Some.is in
    omega (arith, h.inside)

pub loop-row-preserved : goal.loop-row-preserved
loop-row-preserved c =
    let h = value-told c.args.d.now (text "%type") c.loop-row.i c.next_named.result c.next_named.ensures c.in-Some.is in
    (passed-more c.args.d.now (text "%type") c.loop-row._row c.loop-row.i c.loop-row.invariant _ _ h)

pub returns : goal.returns
returns c =
    let e : c.loop-row._row ≡ c.args.count = omega (arith, c.loop-row-test.false) in
    (c.loop-row.invariant.inside, c.loop-row.invariant.readable, c.loop-row.invariant.values ∙ ap (λ (j : ℕ). drop j (values_from c.args.d.now (text "%type") 0)) e)
