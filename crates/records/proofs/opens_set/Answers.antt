-- `records::opens_set` meets its contract: the first word of the first `%rec` value is compared.
use native.Mathlib.Omega.{arith}
use mathlib.Core.Path.{sym, ◌∙◌}
use Rattle.format.specs.Bytes.{text}
use Rattle.records.proofs.Fields.{field_told, opens-none, opens-first}
use Rattle.records.proofs.opens_set.Goals as goal

pub find_field-requires : goal.find_field-requires
find_field-requires c =
    (c.requires)

pub returns-in_default : goal.returns-in_default
returns-in_default c =
    sym (opens-none c.args.name.now c.args.s.now (field_told (text "%rec") c.args.s.now 0 c.find_field.result (c.requires) c.find_field.ensures c.in_default.is))

pub slice_bounds-word_is-count : goal.slice_bounds-word_is-count
slice_bounds-word_is-count c =
    let p = field_told (text "%rec") c.args.s.now 0 c.find_field.result (c.requires) c.find_field.ensures c.in-Some.is in
    omega (arith, p.within)

pub slice_bounds-word_is-start : goal.slice_bounds-word_is-start
slice_bounds-word_is-start c =
    let p = field_told (text "%rec") c.args.s.now 0 c.find_field.result (c.requires) c.find_field.ensures c.in-Some.is in
    omega (arith, p.within)

pub slice_bounds-word_is-end : goal.slice_bounds-word_is-end
slice_bounds-word_is-end c =
    let p = field_told (text "%rec") c.args.s.now 0 c.find_field.result (c.requires) c.find_field.ensures c.in-Some.is in
    omega (arith, p.inside)

pub returns : goal.returns
returns c =
    let p = field_told (text "%rec") c.args.s.now 0 c.find_field.result (c.requires) c.find_field.ensures c.in-Some.is in
    c.word_is.ensures ∙ sym (opens-first c.args.name.now c.args.s.now c.in-Some.field-0.start c.in-Some.field-0.value c.in-Some.field-0.end p)
