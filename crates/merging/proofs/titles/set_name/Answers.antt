-- `merging::titles::set_name` meets its contract: the first word of the first `%rec` value is copied.
use native.Mathlib.Omega.{arith}
use mathlib.Core.Path.{ap, ◌∙◌}
use lib.ListN.{length}
use Rattle.format.specs.Bytes.{Bytes, text}
use Rattle.format.specs.Calls.{over}
use Rattle.records.specs.Walk.{record_in}
use Rattle.records.proofs.Fields.{field_told}
use Rattle.merging.proofs.HeadNames.{head-there, head-word, word_fits}
use Rattle.merging.proofs.titles.set_name.Goals as goal

pub find_field-requires : goal.find_field-requires
find_field-requires c =
    c.requires.0

pub returns-in_default : goal.returns-in_default
returns-in_default c =
    absurd (head-there (record_in c.args.d.now) c.requires.1 (field_told (text "%rec") c.args.d.now 0 c.find_field.result c.requires.0 c.find_field.ensures c.in_default.is))

pub slice_bounds-word_start-count : goal.slice_bounds-word_start-count
slice_bounds-word_start-count c =
    let p = (field_told (text "%rec") c.args.d.now 0 c.find_field.result c.requires.0 c.find_field.ensures c.in-Some.is) in omega (arith, p.within, p.inside)

pub slice_bounds-word_start-start : goal.slice_bounds-word_start-start
slice_bounds-word_start-start c =
    let p = (field_told (text "%rec") c.args.d.now 0 c.find_field.result c.requires.0 c.find_field.ensures c.in-Some.is) in omega (arith, p.within, p.inside)

pub slice_bounds-word_start-end : goal.slice_bounds-word_start-end
slice_bounds-word_start-end c =
    let p = (field_told (text "%rec") c.args.d.now 0 c.find_field.result c.requires.0 c.find_field.ensures c.in-Some.is) in omega (arith, p.within, p.inside)

pub slice_bounds-word_len-count : goal.slice_bounds-word_len-count
slice_bounds-word_len-count c =
    let p = (field_told (text "%rec") c.args.d.now 0 c.find_field.result c.requires.0 c.find_field.ensures c.in-Some.is) in omega (arith, p.within, p.inside)

pub slice_bounds-word_len-start : goal.slice_bounds-word_len-start
slice_bounds-word_len-start c =
    let p = (field_told (text "%rec") c.args.d.now 0 c.find_field.result c.requires.0 c.find_field.ensures c.in-Some.is) in omega (arith, p.within, p.inside)

pub slice_bounds-word_len-end : goal.slice_bounds-word_len-end
slice_bounds-word_len-end c =
    let p = (field_told (text "%rec") c.args.d.now 0 c.find_field.result c.requires.0 c.find_field.ensures c.in-Some.is) in omega (arith, p.within, p.inside)

pub slice_bounds-copy_word-count : goal.slice_bounds-copy_word-count
slice_bounds-copy_word-count c =
    let p = (field_told (text "%rec") c.args.d.now 0 c.find_field.result c.requires.0 c.find_field.ensures c.in-Some.is) in omega (arith, p.within, p.inside)

pub slice_bounds-copy_word-start : goal.slice_bounds-copy_word-start
slice_bounds-copy_word-start c =
    let p = (field_told (text "%rec") c.args.d.now 0 c.find_field.result c.requires.0 c.find_field.ensures c.in-Some.is) in omega (arith, p.within, p.inside)

pub slice_bounds-copy_word-end : goal.slice_bounds-copy_word-end
slice_bounds-copy_word-end c =
    let p = (field_told (text "%rec") c.args.d.now 0 c.find_field.result c.requires.0 c.find_field.ensures c.in-Some.is) in omega (arith, p.within, p.inside)

pub copy_word-requires : goal.copy_word-requires
copy_word-requires c =
    omega (arith, word_fits c.args.d.now c.in-Some.v.start c.in-Some.v.value c.in-Some.v.end c.word_start-i.result (field_told (text "%rec") c.args.d.now 0 c.find_field.result c.requires.0 c.find_field.ensures c.in-Some.is) c.word_start-i.ensures c.requires.2, c.requires.3)

pub returns : goal.returns
returns c =
    (c.word_len-n.ensures ∙ ap length (head-word c.args.d.now c.in-Some.v.start c.in-Some.v.value c.in-Some.v.end c.word_start-i.result (field_told (text "%rec") c.args.d.now 0 c.find_field.result c.requires.0 c.find_field.ensures c.in-Some.is) c.word_start-i.ensures), c.copy_word.ensures ∙ ap (λ (t : Bytes). over t c.args.out.now) (head-word c.args.d.now c.in-Some.v.start c.in-Some.v.value c.in-Some.v.end c.word_start-i.result (field_told (text "%rec") c.args.d.now 0 c.find_field.result c.requires.0 c.find_field.ensures c.in-Some.is) c.word_start-i.ensures), omega (arith, c.word_len-n.ensures, word_fits c.args.d.now c.in-Some.v.start c.in-Some.v.value c.in-Some.v.end c.word_start-i.result (field_told (text "%rec") c.args.d.now 0 c.find_field.result c.requires.0 c.find_field.ensures c.in-Some.is) c.word_start-i.ensures c.requires.2))
