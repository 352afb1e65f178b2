-- `integrity::typed_well` meets its contract: its two calls ask the two parts of the definition, the second where the first says yes.
use borrow.Author.Tests.{not-true, not-false}
use native.Mathlib.Omega.{arith}
use mathlib.Core.Path.{sym, ap, ◌∙◌}
use mathlib.Core.Bool.{Bool, ◌&&◌}
use lib.ListN.{length}
use Rattle.format.specs.Bytes.{text}
use Rattle.format.specs.Numbers.{int_bounds}
use Rattle.format.specs.Rules.{autos_counted}
use Rattle.format.proofs.Limits.{rules-few}
use Rattle.records.specs.Walk.{record_in}
use Rattle.integrity.proofs.Granting.{defined-part}
use Rattle.integrity.proofs.Holding.{values-fit}
use mathlib.Core.Bool.{not}
use Rattle.integrity.proofs.typed_well.Goals as goal

pub types_well-requires : goal.types_well-requires
types_well-requires c =
    let m = length c.args.scratch.now in
    let d = record_in c.args.d.now in
    let f = c.requires.formed.0 in
    record { d_value = (f.reads, c.requires.formed.1); text_len_bound = ((rules-few d f.few).typedefs-few, values-fit m c.requires.value_bytes_in_bounds (text "%typedef") d f.fits); text_value = values-fit m c.requires.value_bytes_in_bounds (text "%type") d f.fits }

pub returns-then-not-types_well : goal.returns-then-not-types_well
returns-then-not-types_well c =
    let d = record_in c.args.d.now in
    sym (ap (λ (b : Bool). b && autos_counted int_bounds d) (sym c.types_well.ensures ∙ not-true c.types_well.result (ap not c.if-not-types_well.true)))

pub autos_counted-requires : goal.autos_counted-requires
autos_counted-requires c =
    (defined-part c.args.d.now c.requires.formed.0 c.requires.formed.1 (sym c.types_well.ensures ∙ not-false c.types_well.result (ap not c.if-not-types_well.false)), omega (arith, c.types_well.auto.scratch, c.requires.value_bytes_in_bounds))

pub returns : goal.returns
returns c =
    let d = record_in c.args.d.now in
    c.autos_counted.ensures
    ∙ sym (ap (λ (b : Bool). b && autos_counted int_bounds d) (sym c.types_well.ensures ∙ not-false c.types_well.result (ap not c.if-not-types_well.false)))
