-- `lookup::inside::descriptor_name` meets its contract: the first word of the first `%rec` value is measured and copied.
use native.Mathlib.Omega.{arith}
use Prim.Native.Nat.{◌-◌}
use mathlib.Core.Path.{sym, ap, ◌∙◌}
use lib.ListN.{take, drop}
use Rattle.format.specs.Lists.{front}
use Rattle.format.specs.Bytes.{Bytes, text}
use Rattle.format.specs.Calls.{Answer}
use Rattle.format.specs.Sets.{values_of}
use Rattle.format.specs.Words.{not_gap}
use Rattle.values.specs.Value.{value_from}
use Rattle.records.specs.Walk.{record_in}
use Rattle.records.proofs.Fields.{field_told}
use Rattle.lookup.proofs.Names.{titled-none, titled-long, titled-first}
use Rattle.lookup.proofs.inside.descriptor_name.Goals as goal

pub find_field-requires : goal.find_field-requires
find_field-requires c =
    c.requires

pub returns-in_default : goal.returns-in_default
returns-in_default c =
    titled-none (values_of (text "%rec") (record_in c.args.d.now)) c.args.out.now (field_told (text "%rec") c.args.d.now 0 c.find_field.result c.requires c.find_field.ensures c.in_default.is)

pub slice_bounds-word_start-count : goal.slice_bounds-word_start-count
slice_bounds-word_start-count c =
    let p = field_told (text "%rec") c.args.d.now 0 c.find_field.result c.requires c.find_field.ensures c.in-Some.is in omega (arith, p.within, p.inside)

pub slice_bounds-word_start-start : goal.slice_bounds-word_start-start
slice_bounds-word_start-start c =
    let p = field_told (text "%rec") c.args.d.now 0 c.find_field.result c.requires c.find_field.ensures c.in-Some.is in omega (arith, p.within, p.inside)

pub slice_bounds-word_start-end : goal.slice_bounds-word_start-end
slice_bounds-word_start-end c =
    let p = field_told (text "%rec") c.args.d.now 0 c.find_field.result c.requires c.find_field.ensures c.in-Some.is in omega (arith, p.within, p.inside)

pub slice_bounds-word_len-count : goal.slice_bounds-word_len-count
slice_bounds-word_len-count c =
    let p = field_told (text "%rec") c.args.d.now 0 c.find_field.result c.requires c.find_field.ensures c.in-Some.is in omega (arith, p.within, p.inside)

pub slice_bounds-word_len-start : goal.slice_bounds-word_len-start
slice_bounds-word_len-start c =
    let p = field_told (text "%rec") c.args.d.now 0 c.find_field.result c.requires c.find_field.ensures c.in-Some.is in omega (arith, p.within, p.inside)

pub slice_bounds-word_len-end : goal.slice_bounds-word_len-end
slice_bounds-word_len-end c =
    let p = field_told (text "%rec") c.args.d.now 0 c.find_field.result c.requires c.find_field.ensures c.in-Some.is in omega (arith, p.within, p.inside)

pub returns-then-out-n : goal.returns-then-out-n
returns-then-out-n c =
    let p = field_told (text "%rec") c.args.d.now 0 c.find_field.result c.requires c.find_field.ensures c.in-Some.is in let w : Bytes = front not_gap (value_from (drop c.word_start-i.result (take (c.in-Some.field-0.end - c.in-Some.field-0.value) (drop c.in-Some.field-0.value c.args.d.now)))) in titled-long c.args.d.now (values_of (text "%rec") (record_in c.args.d.now)) c.in-Some.field-0.start c.in-Some.field-0.value c.in-Some.field-0.end c.args.out.now w p (ap (front not_gap) c.word_start-i.ensures) (omega (arith, c.word_len-n.ensures, c.if-out-n.true))

pub slice_bounds-copy_word-count : goal.slice_bounds-copy_word-count
slice_bounds-copy_word-count c =
    let p = field_told (text "%rec") c.args.d.now 0 c.find_field.result c.requires c.find_field.ensures c.in-Some.is in omega (arith, p.within, p.inside)

pub slice_bounds-copy_word-start : goal.slice_bounds-copy_word-start
slice_bounds-copy_word-start c =
    let p = field_told (text "%rec") c.args.d.now 0 c.find_field.result c.requires c.find_field.ensures c.in-Some.is in omega (arith, p.within, p.inside)

pub slice_bounds-copy_word-end : goal.slice_bounds-copy_word-end
slice_bounds-copy_word-end c =
    let p = field_told (text "%rec") c.args.d.now 0 c.find_field.result c.requires c.find_field.ensures c.in-Some.is in omega (arith, p.within, p.inside)

pub copy_word-requires : goal.copy_word-requires
copy_word-requires c =
    omega (arith, c.word_len-n.ensures, c.if-out-n.false)

pub returns : goal.returns
returns c =
    let p = field_told (text "%rec") c.args.d.now 0 c.find_field.result c.requires c.find_field.ensures c.in-Some.is in let w : Bytes = front not_gap (value_from (drop c.word_start-i.result (take (c.in-Some.field-0.end - c.in-Some.field-0.value) (drop c.in-Some.field-0.value c.args.d.now)))) in titled-first c.args.d.now (values_of (text "%rec") (record_in c.args.d.now)) c.in-Some.field-0.start c.in-Some.field-0.value c.in-Some.field-0.end c.args.out.now w p (ap (front not_gap) c.word_start-i.ensures) (omega (arith, c.word_len-n.ensures, c.if-out-n.false)) ∙ (λ i. record { result = Answer.value (sym c.word_len-n.ensures i); out = sym c.copy_word.ensures i })
