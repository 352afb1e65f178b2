-- `selection::fields::with_field` meets its contract: the value is looked at only where a comparison has the name.
use Rattle.values.specs.Value.{value_from}
use Rattle.words.proofs.Decoded.{decoded-all, decoded-length}
use Rattle.selection.proofs.Marking.{field-none, field-marks}
use Rattle.selection.proofs.fields.with_field.Goals as goal

pub named-hits-requires : goal.named-hits-requires
named-hits-requires c =
    c.requires.0

pub returns-then-hits-eq0 : goal.returns-then-hits-eq0
returns-then-hits-eq0 c =
    field-none c.args.e.now c.args.p.rows c.args.p.count c.args.set c.named-hits.result c.args.name.now (value_from c.args.s.now) c.named-hits.ensures c.if-hits-eq0.true

pub copy_value-n-requires : goal.copy_value-n-requires
copy_value-n-requires c =
    c.requires.1

pub slice_bounds-int_in-end-2 : goal.slice_bounds-int_in-end-2
slice_bounds-int_in-end-2 c =
    decoded-length (value_from c.args.s.now) c.args.scratch.now _ c.copy_value-n.result c.copy_value-n.ensures.0 c.copy_value-n.ensures.1

pub slice_bounds-satisfying-end-2 : goal.slice_bounds-satisfying-end-2
slice_bounds-satisfying-end-2 c =
    decoded-length (value_from c.args.s.now) c.args.scratch.now _ c.copy_value-n.result c.copy_value-n.ensures.0 c.copy_value-n.ensures.1

pub satisfying-requires : goal.satisfying-requires
satisfying-requires c =
    record { filled = c.requires.0; x_value = c.int_in-x.ensures }

pub returns : goal.returns
returns c =
    field-marks c.args.e.now c.args.p.rows c.args.p.count c.args.set c.named-hits.result c.args.name.now (value_from c.args.s.now) c.named-hits.ensures c.satisfying.result _ (decoded-all (value_from c.args.s.now) c.args.scratch.now _ c.copy_value-n.result c.copy_value-n.ensures.0 c.copy_value-n.ensures.1) c.satisfying.ensures
