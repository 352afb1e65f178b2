-- The search for the set tells what question 21 asks, and the walk over its records what they add.
use native.Mathlib.Omega.{arith}
use mathlib.Core.Path.{◌∙◌}
use Rattle.totals.proofs.Bits.{seen-held}
use Rattle.totals.proofs.Specials.{part-told}
use Rattle.totals.proofs.Totalling.{total-missing, part-short, total-found, sum-held, sum-answer}
use Rattle.totals.proofs.total_in.Goals as goal

pub returns-in_default : goal.returns-in_default
returns-in_default c =
    total-missing c.args.s.now c.args.set.now c.args.name.now (part-told c.args.s.now c.args.set.now c.find_part.result c.find_part.ensures c.in_default.is)

pub slice_bounds-add_values-count : goal.slice_bounds-add_values-count
slice_bounds-add_values-count c =
    let f = (part-told c.args.s.now c.args.set.now c.find_part.result c.find_part.ensures c.in-Some.is).3 in f.begins

pub slice_bounds-add_values-start : goal.slice_bounds-add_values-start
slice_bounds-add_values-start c =
    let f = (part-told c.args.s.now c.args.set.now c.find_part.result c.find_part.ensures c.in-Some.is).3 in omega (arith, f.begins, f.inside)

pub slice_bounds-add_values-end : goal.slice_bounds-add_values-end
slice_bounds-add_values-end c =
    let f = (part-told c.args.s.now c.args.set.now c.find_part.result c.find_part.ensures c.in-Some.is).3 in omega (arith, f.inside)

pub add_values-requires : goal.add_values-requires
add_values-requires c =
    let f = (part-told c.args.s.now c.args.set.now c.find_part.result c.find_part.ensures c.in-Some.is).3 in (f.members-readable, part-short c.args.s.now c.args.set.now c.args.name.now _ f c.requires.1)

pub returns-in_default-add_values : goal.returns-in_default-add_values
returns-in_default-add_values c =
    let f = (part-told c.args.s.now c.args.set.now c.find_part.result c.find_part.ensures c.in-Some.is).3 in total-found c.args.s.now c.args.set.now c.args.name.now _ f c.add_values.result c.add_values.ensures.0 c.in_default-add_values.is

pub hundredths-requires : goal.hundredths-requires
hundredths-requires c =
    seen-held c.in-Some-add_values.field-0.millionths (sum-held c.add_values.result c.in-Some-add_values.field-0.millionths c.in-Some-add_values.field-0.number c.add_values.ensures.1 c.in-Some-add_values.is)

pub returns : goal.returns
returns c =
    let f = (part-told c.args.s.now c.args.set.now c.find_part.result c.find_part.ensures c.in-Some.is).3 in
    let held = sum-held c.add_values.result c.in-Some-add_values.field-0.millionths c.in-Some-add_values.field-0.number c.add_values.ensures.1 c.in-Some-add_values.is in
    sum-answer c.in-Some-add_values.field-0.millionths c.hundredths.result c.in-Some-add_values.field-0.number held c.hundredths.ensures
    ∙ total-found c.args.s.now c.args.set.now c.args.name.now _ f c.add_values.result c.add_values.ensures.0 c.in-Some-add_values.is
