-- `lookup::inside::fetch_in` meets its contract: what the searches tell is what questions 21, 22, 23 and 27 ask, and the value is decoded from its part of the text.
use Prim.Native.Nat.{◌-◌}
use native.Mathlib.Omega.{arith}
use mathlib.Core.Path.{sym, ap, ◌∙◌}
use lib.ListN.{drop}
use Rattle.format.specs.Bytes.{Bytes}
use Rattle.format.specs.Calls.{Answer}
use Rattle.records.proofs.Readings.{part-readable}
use Rattle.records.proofs.Members.{head-told, record-told}
use Rattle.records.specs.Places.{places_of, record_place}
use Rattle.lines.proofs.Cuts.{rest}
use Rattle.lookup.proofs.Meeting.{met, part-reads, field-missed, field-met}
use Rattle.lookup.proofs.Looking.{fetch-missing, fetch-past, fetch-none, fetch-long, fetch-found}
use Rattle.lookup.proofs.inside.fetch_in.Goals as goal

pub returns-in_default : goal.returns-in_default
returns-in_default c =
    fetch-missing c.args.s.now c.args.set.now c.args.row c.args.name.now c.args.occurrence c.args.out.now (head-told c.args.s.now c.args.set.now c.find_head.result c.requires c.find_head.ensures c.in_default.is)

pub slice_bounds-find_record-count : goal.slice_bounds-find_record-count
slice_bounds-find_record-count c =
    let t = head-told c.args.s.now c.args.set.now c.find_head.result c.requires c.find_head.ensures c.in-Some.is in omega (arith, t.set.inside)

pub slice_bounds-find_record-start : goal.slice_bounds-find_record-start
slice_bounds-find_record-start c =
    let t = head-told c.args.s.now c.args.set.now c.find_head.result c.requires c.find_head.ensures c.in-Some.is in omega (arith, t.set.inside)

pub find_record-requires : goal.find_record-requires
find_record-requires c =
    let t = head-told c.args.s.now c.args.set.now c.find_head.result c.requires c.find_head.ensures c.in-Some.is in (part-readable c.args.s.now c.in-Some.head.begin t.set.readable)

pub returns-in_default-find_record : goal.returns-in_default-find_record
returns-in_default-find_record c =
    let t = head-told c.args.s.now c.args.set.now c.find_head.result c.requires c.find_head.ensures c.in-Some.is in let x = c.find_record.ensures ∙ ap (λ (y : Bytes). record_place (places_of y) c.args.row) (rest c.args.s.now c.in-Some.head.begin) in let r = record-told (drop c.in-Some.head.begin c.args.s.now) c.args.row c.find_record.result t.set.readable x c.in_default-find_record.is in fetch-past c.args.s.now c.args.set.now c.args.row c.args.name.now c.args.occurrence c.args.out.now c.in-Some.head t r

pub overflow_add-b : goal.overflow_add-b
overflow_add-b c =
    let w = met c.args.s.now c.args.set.now c.args.row c.requires c.in-Some.head c.in-Some.ensures c.in-Some-find_record.p c.in-Some-find_record.ensures in
    omega (arith, w.ordered, w.inside, c.well_formed.0.0)

pub overflow_add-e : goal.overflow_add-e
overflow_add-e c =
    let w = met c.args.s.now c.args.set.now c.args.row c.requires c.in-Some.head c.in-Some.ensures c.in-Some-find_record.p c.in-Some-find_record.ensures in
    omega (arith, w.ordered, w.inside, c.well_formed.0.0)

pub slice_bounds-find_field-count : goal.slice_bounds-find_field-count
slice_bounds-find_field-count c =
    let w = met c.args.s.now c.args.set.now c.args.row c.requires c.in-Some.head c.in-Some.ensures c.in-Some-find_record.p c.in-Some-find_record.ensures in
    omega (arith, w.ordered, w.inside)

pub slice_bounds-find_field-start : goal.slice_bounds-find_field-start
slice_bounds-find_field-start c =
    let w = met c.args.s.now c.args.set.now c.args.row c.requires c.in-Some.head c.in-Some.ensures c.in-Some-find_record.p c.in-Some-find_record.ensures in
    omega (arith, w.ordered, w.inside)

pub slice_bounds-find_field-end : goal.slice_bounds-find_field-end
slice_bounds-find_field-end c =
    let w = met c.args.s.now c.args.set.now c.args.row c.requires c.in-Some.head c.in-Some.ensures c.in-Some-find_record.p c.in-Some-find_record.ensures in
    omega (arith, w.ordered, w.inside)

pub find_field-requires : goal.find_field-requires
find_field-requires c =
    let w = met c.args.s.now c.args.set.now c.args.row c.requires c.in-Some.head c.in-Some.ensures c.in-Some-find_record.p c.in-Some-find_record.ensures in
    part-reads c.args.s.now c.args.set.now c.args.row c.in-Some.head c.in-Some-find_record.p w c.args.name.now c.args.occurrence

pub returns-in_default-find_field : goal.returns-in_default-find_field
returns-in_default-find_field c =
    let w = met c.args.s.now c.args.set.now c.args.row c.requires c.in-Some.head c.in-Some.ensures c.in-Some-find_record.p c.in-Some-find_record.ensures in
    fetch-none c.args.s.now c.args.set.now c.args.row c.args.name.now c.args.occurrence c.args.out.now c.in-Some.head w.head c.in-Some-find_record.p w.found (field-missed c.args.s.now c.args.set.now c.args.row c.in-Some.head c.in-Some-find_record.p w c.args.name.now c.args.occurrence c.in_default-find_field.ensures)

pub overflow_add-v : goal.overflow_add-v
overflow_add-v c =
    let w = met c.args.s.now c.args.set.now c.args.row c.requires c.in-Some.head c.in-Some.ensures c.in-Some-find_record.p c.in-Some-find_record.ensures in
    let k = field-met c.args.s.now c.args.set.now c.args.row c.in-Some.head c.in-Some-find_record.p w c.args.name.now c.args.occurrence c.in-Some-find_field.field-0 c.in-Some-find_field.ensures in
    omega (arith, k.ordered, k.inside, c.well_formed.0.0)

pub overflow_add-w : goal.overflow_add-w
overflow_add-w c =
    let w = met c.args.s.now c.args.set.now c.args.row c.requires c.in-Some.head c.in-Some.ensures c.in-Some-find_record.p c.in-Some-find_record.ensures in
    let k = field-met c.args.s.now c.args.set.now c.args.row c.in-Some.head c.in-Some-find_record.p w c.args.name.now c.args.occurrence c.in-Some-find_field.field-0 c.in-Some-find_field.ensures in
    omega (arith, k.ordered, k.inside, c.well_formed.0.0)

pub slice_bounds-value_len-count : goal.slice_bounds-value_len-count
slice_bounds-value_len-count c =
    let w = met c.args.s.now c.args.set.now c.args.row c.requires c.in-Some.head c.in-Some.ensures c.in-Some-find_record.p c.in-Some-find_record.ensures in
    let k = field-met c.args.s.now c.args.set.now c.args.row c.in-Some.head c.in-Some-find_record.p w c.args.name.now c.args.occurrence c.in-Some-find_field.field-0 c.in-Some-find_field.ensures in
    omega (arith, k.ordered, k.inside)

pub slice_bounds-value_len-start : goal.slice_bounds-value_len-start
slice_bounds-value_len-start c =
    let w = met c.args.s.now c.args.set.now c.args.row c.requires c.in-Some.head c.in-Some.ensures c.in-Some-find_record.p c.in-Some-find_record.ensures in
    let k = field-met c.args.s.now c.args.set.now c.args.row c.in-Some.head c.in-Some-find_record.p w c.args.name.now c.args.occurrence c.in-Some-find_field.field-0 c.in-Some-find_field.ensures in
    omega (arith, k.ordered, k.inside)

pub slice_bounds-value_len-end : goal.slice_bounds-value_len-end
slice_bounds-value_len-end c =
    let w = met c.args.s.now c.args.set.now c.args.row c.requires c.in-Some.head c.in-Some.ensures c.in-Some-find_record.p c.in-Some-find_record.ensures in
    let k = field-met c.args.s.now c.args.set.now c.args.row c.in-Some.head c.in-Some-find_record.p w c.args.name.now c.args.occurrence c.in-Some-find_field.field-0 c.in-Some-find_field.ensures in
    omega (arith, k.ordered, k.inside)

pub returns-then-out-n : goal.returns-then-out-n
returns-then-out-n c =
    let w = met c.args.s.now c.args.set.now c.args.row c.requires c.in-Some.head c.in-Some.ensures c.in-Some-find_record.p c.in-Some-find_record.ensures in
    let k = field-met c.args.s.now c.args.set.now c.args.row c.in-Some.head c.in-Some-find_record.p w c.args.name.now c.args.occurrence c.in-Some-find_field.field-0 c.in-Some-find_field.ensures in
    fetch-long c.args.s.now c.args.set.now c.args.row c.args.name.now c.args.occurrence c.args.out.now c.in-Some.head w.head c.in-Some-find_record.p w.found c.in-Some-find_field.field-0.start c.in-Some-find_field.field-0.value c.in-Some-find_field.field-0.end k.found _ k.bytes (omega (arith, c.value_len-n.ensures, c.if-out-n.true))

pub slice_bounds-copy_value-count : goal.slice_bounds-copy_value-count
slice_bounds-copy_value-count c =
    let w = met c.args.s.now c.args.set.now c.args.row c.requires c.in-Some.head c.in-Some.ensures c.in-Some-find_record.p c.in-Some-find_record.ensures in
    let k = field-met c.args.s.now c.args.set.now c.args.row c.in-Some.head c.in-Some-find_record.p w c.args.name.now c.args.occurrence c.in-Some-find_field.field-0 c.in-Some-find_field.ensures in
    omega (arith, k.ordered, k.inside)

pub slice_bounds-copy_value-start : goal.slice_bounds-copy_value-start
slice_bounds-copy_value-start c =
    let w = met c.args.s.now c.args.set.now c.args.row c.requires c.in-Some.head c.in-Some.ensures c.in-Some-find_record.p c.in-Some-find_record.ensures in
    let k = field-met c.args.s.now c.args.set.now c.args.row c.in-Some.head c.in-Some-find_record.p w c.args.name.now c.args.occurrence c.in-Some-find_field.field-0 c.in-Some-find_field.ensures in
    omega (arith, k.ordered, k.inside)

pub slice_bounds-copy_value-end : goal.slice_bounds-copy_value-end
slice_bounds-copy_value-end c =
    let w = met c.args.s.now c.args.set.now c.args.row c.requires c.in-Some.head c.in-Some.ensures c.in-Some-find_record.p c.in-Some-find_record.ensures in
    let k = field-met c.args.s.now c.args.set.now c.args.row c.in-Some.head c.in-Some-find_record.p w c.args.name.now c.args.occurrence c.in-Some-find_field.field-0 c.in-Some-find_field.ensures in
    omega (arith, k.ordered, k.inside)

pub copy_value-requires : goal.copy_value-requires
copy_value-requires c =
    omega (arith, c.value_len-n.ensures, c.if-out-n.false)

pub returns : goal.returns
returns c =
    let w = met c.args.s.now c.args.set.now c.args.row c.requires c.in-Some.head c.in-Some.ensures c.in-Some-find_record.p c.in-Some-find_record.ensures in
    let k = field-met c.args.s.now c.args.set.now c.args.row c.in-Some.head c.in-Some-find_record.p w c.args.name.now c.args.occurrence c.in-Some-find_field.field-0 c.in-Some-find_field.ensures in
    fetch-found c.args.s.now c.args.set.now c.args.row c.args.name.now c.args.occurrence c.args.out.now c.in-Some.head w.head c.in-Some-find_record.p w.found c.in-Some-find_field.field-0.start c.in-Some-find_field.field-0.value c.in-Some-find_field.field-0.end k.found _ k.bytes (omega (arith, c.value_len-n.ensures, c.if-out-n.false))
    ∙ (λ i. record { result = Answer.value (sym c.value_len-n.ensures i); out = sym c.copy_value.ensures.1 i })
