-- `columns::value_met` meets its contract: a set without tags of types asks for none.
use Prim.Native.Nat.{◌-◌}
use native.Mathlib.Omega.{arith}
use mathlib.Core.Path.{sym, ap, ◌∙◌}
use Rattle.values.specs.Value.{value_from}
use Rattle.words.proofs.Decoded.{decoded-all, decoded-length}
use Rattle.columns.specs.Meets.{rows_met}
use Rattle.columns.proofs.Rows.{all_asked}
use Rattle.columns.proofs.Tags.{none-met}
use Rattle.columns.proofs.value_met.Goals as goal

pub returns-then-tags-eq0 : goal.returns-then-tags-eq0
returns-then-tags-eq0 c =
    sym (none-met c.args.d.now c.args.tags c.args.typed.symbols.from (c.args.typed.symbols.next - c.args.typed.symbols.from) (value_from c.args.s.now) (omega (arith, c.requires.typed.symbols-are.begins, c.requires.typed.within, c.requires.typed.kinds-are.few)) c.if-tags-eq0.true)

pub copy_value-n-requires : goal.copy_value-n-requires
copy_value-n-requires c =
    c.requires.s_in_bounds

pub slice_bounds-int_in-end-2 : goal.slice_bounds-int_in-end-2
slice_bounds-int_in-end-2 c =
    decoded-length (value_from c.args.s.now) c.args.scratch.now _ c.copy_value-n.result c.copy_value-n.ensures.0 c.copy_value-n.ensures.1

pub slice_bounds-texts_with-end-3 : goal.slice_bounds-texts_with-end-3
slice_bounds-texts_with-end-3 c =
    decoded-length (value_from c.args.s.now) c.args.scratch.now _ c.copy_value-n.result c.copy_value-n.ensures.0 c.copy_value-n.ensures.1

pub texts_with-found-requires : goal.texts_with-found-requires
texts_with-found-requires c =
    c.requires.typed.symbols-are

pub slice_bounds-rows_met-end-2 : goal.slice_bounds-rows_met-end-2
slice_bounds-rows_met-end-2 c =
    decoded-length (value_from c.args.s.now) c.args.scratch.now _ c.copy_value-n.result c.copy_value-n.ensures.0 c.copy_value-n.ensures.1

pub rows_met-requires : goal.rows_met-requires
rows_met-requires c =
    let z = c.requires.typed in
    record { from_le_next = (z.symbols-are.begins, omega (arith, z.within, z.kinds-are.few), z.kinds-are.rows_long, z.kinds-are.texts-long); x_value = c.int_in-x.ensures; leads = c.texts_with-found.ensures.leads }

pub returns : goal.returns
returns c =
    let z = c.requires.typed in
    c.rows_met.ensures
    ∙ all_asked c.args.d.now c.args.typed.kinds z.kinds-are c.args.typed.symbols.from c.args.typed.symbols.next c.texts_with-found.result c.args.tags _ z.within c.texts_with-found.ensures z.symbols-are.begins
    ∙ ap (rows_met c.args.d.now c.args.tags c.args.typed.symbols.from (c.args.typed.symbols.next - c.args.typed.symbols.from)) (decoded-all (value_from c.args.s.now) c.args.scratch.now _ c.copy_value-n.result c.copy_value-n.ensures.0 c.copy_value-n.ensures.1)
