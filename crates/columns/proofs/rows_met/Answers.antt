use Prim.Native.Nat.{◌-◌}
use native.Mathlib.Omega.{arith}
use mathlib.Core.Path.{refl, sym, ◌∙◌}
use Rattle.columns.proofs.Rows.{rows_end, row-passed, row-met, row-fails, row-said}
use Rattle.columns.proofs.rows_met.Goals as goal

pub loop-k-init : goal.loop-k-init
loop-k-init c =
    refl

pub has-requires : goal.has-requires
has-requires c =
    omega (arith, c.loop-k-test.true, c.requires.from_le_next.1)

pub offset_bounds-typed-k : goal.offset_bounds-typed-k
offset_bounds-typed-k c =
    omega (arith, c.loop-k-test.true, c.requires.from_le_next.1)

pub bounds-typed-k : goal.bounds-typed-k
bounds-typed-k c =
    omega (arith, c.loop-k-test.true, c.requires.from_le_next.1)

pub is_symbol-symbol-requires : goal.is_symbol-symbol-requires
is_symbol-symbol-requires c =
    record { from_le_row = (omega arith, omega (arith, c.loop-k-test.true, c.requires.from_le_next.1, c.requires.from_le_next.3), omega (arith, c.loop-k-test.true, c.requires.from_le_next.1)); row_value = λ i. c.requires.leads c.loop-k.k (omega arith) c.loop-k-test.true i }

pub shape_met-requires : goal.shape_met-requires
shape_met-requires c =
    c.requires.x_value

pub loop-k-preserved : goal.loop-k-preserved
loop-k-preserved c =
    (c.loop-k.invariant ∙ row-met c.args.typed.kinds c.args.typed.symbols.from c.args.found c.args.tags c.args.v.now c.loop-k.k c.args.typed.symbols.next c.loop-k-test.true (sym c.has.ensures ∙ c.if-not-has.false) c.shape_met.result (row-said c.args.typed.kinds c.args.typed.symbols.from c.args.found c.args.v.now c.loop-k.k _ c.shape_met.result c.is_symbol-symbol.result (omega (arith, c.loop-k-test.true, c.requires.from_le_next.1, c.requires.from_le_next.2)) c.shape_met.ensures c.is_symbol-symbol.ensures) c.if-not-shape_met.false)

pub returns-then-not-shape_met : goal.returns-then-not-shape_met
returns-then-not-shape_met c =
    sym (c.loop-k.invariant ∙ row-fails c.args.typed.kinds c.args.typed.symbols.from c.args.found c.args.tags c.args.v.now c.loop-k.k c.args.typed.symbols.next c.loop-k-test.true (sym c.has.ensures ∙ c.if-not-has.false) c.shape_met.result (row-said c.args.typed.kinds c.args.typed.symbols.from c.args.found c.args.v.now c.loop-k.k _ c.shape_met.result c.is_symbol-symbol.result (omega (arith, c.loop-k-test.true, c.requires.from_le_next.1, c.requires.from_le_next.2)) c.shape_met.ensures c.is_symbol-symbol.ensures) c.if-not-shape_met.true)

pub loop-k-preserved-then-not-has : goal.loop-k-preserved-then-not-has
loop-k-preserved-then-not-has c =
    (c.loop-k.invariant ∙ row-passed c.args.typed.kinds c.args.typed.symbols.from c.args.found c.args.tags c.args.v.now c.loop-k.k c.args.typed.symbols.next c.loop-k-test.true (sym c.has.ensures ∙ c.if-not-has.true))

pub returns : goal.returns
returns c =
    sym (c.loop-k.invariant ∙ rows_end c.args.typed.kinds c.args.typed.symbols.from c.args.found c.args.tags c.args.v.now c.loop-k.k c.args.typed.symbols.next c.loop-k-test.false)
