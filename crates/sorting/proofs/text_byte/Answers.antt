-- `sorting::text_byte` meets its contract: a text goes on with the value's next byte, or ends before it.
use mathlib.Core.Path.{sym, ◌∙◌}
use Rattle.values.proofs.Decoding.{ended, goes_on}
use Rattle.sorting.proofs.Texts.{text-ended, text-stop, text-on}
use Rattle.sorting.proofs.text_byte.Goals as goal

pub returns-in_default : goal.returns-in_default
returns-in_default c =
    text-ended c.args.words c.args.s.now c.args.i (ended c.args.s.now c.args.i c.value_byte-d.result c.value_byte-d.ensures c.in_default.is)

pub returns-then-ends_at : goal.returns-then-ends_at
returns-then-ends_at c =
    let e = goes_on c.args.s.now c.args.i c.value_byte-d.result c.value_byte-d.ensures c.in-Some.is in
    text-stop c.args.words c.args.s.now c.args.i c.in-Some.field-0.byte c.in-Some.field-0.next e.0 (sym c.ends_at.ensures ∙ c.if-ends_at.true)

pub returns : goal.returns
returns c =
    let e = goes_on c.args.s.now c.args.i c.value_byte-d.result c.value_byte-d.ensures c.in-Some.is in
    text-on c.args.words c.args.s.now c.args.i c.in-Some.field-0.byte c.in-Some.field-0.next e.0 (sym c.ends_at.ensures ∙ c.if-ends_at.false) e.1 e.2
