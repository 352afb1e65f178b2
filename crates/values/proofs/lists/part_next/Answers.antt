use native.Mathlib.Omega.{arith}
use mathlib.Core.Path.{refl, sym, ap, ◌∙◌}
use borrow.Author.Tests.{eq-eqb, ne_eqb}
use lib.ListN.{drop}
use Rattle.format.specs.Lists.{front}
use Rattle.format.specs.Words.{not_gap}
use Rattle.values.specs.Value.{value_from}
use Rattle.values.proofs.Decoding.{ended, goes_on}
use Rattle.values.proofs.Words.{word-ended, word_on}
use Rattle.values.specs.Words.{word_from}
use Rattle.values.proofs.Parts.{parts_none, parts-comma, parts-on}
use Rattle.values.proofs.lists.part_next.Goals as goal

pub loop-byte-init : goal.loop-byte-init
loop-byte-init c = (omega arith, refl)

pub returns-in_default : goal.returns-in_default
returns-in_default c =
    let s = c.args.s.now in
    let e = ended s c.loop-byte.at c.value_byte.result c.value_byte.ensures c.in_default.is in
    c.loop-byte.invariant.1 ∙ (parts_none (word_from s c.loop-byte.at) (ap (front not_gap) e)).1

pub returns-then-is_gap : goal.returns-then-is_gap
returns-then-is_gap c =
    let s = c.args.s.now in
    let e = goes_on s c.loop-byte.at c.value_byte.result c.value_byte.ensures c.in-Some.is in
    let f = word-ended (value_from (drop c.loop-byte.at s)) (value_from (drop c.in-Some.field-0.next s)) c.in-Some.field-0.byte e.0 (sym c.is_gap.ensures ∙ c.if-is_gap.true) in
    c.loop-byte.invariant.1 ∙ (parts_none (word_from s c.loop-byte.at) f).1

pub returns-then-byte-eq44 : goal.returns-then-byte-eq44
returns-then-byte-eq44 c =
    let s = c.args.s.now in
    let e = goes_on s c.loop-byte.at c.value_byte.result c.value_byte.ensures c.in-Some.is in
    let f = word_on (value_from (drop c.loop-byte.at s)) (value_from (drop c.in-Some.field-0.next s)) c.in-Some.field-0.byte e.0 (sym c.is_gap.ensures ∙ c.if-is_gap.false) in
    let g = parts-comma (word_from s c.loop-byte.at) c.in-Some.field-0.byte (word_from s c.in-Some.field-0.next) f (eq-eqb _ _ c.if-byte-eq44.true) in
    (omega (arith, c.loop-byte.invariant.0, e.1), e.2, c.loop-byte.invariant.1 ∙ g.1)

pub loop-byte-smaller : goal.loop-byte-smaller
loop-byte-smaller c =
    let e = goes_on c.args.s.now c.loop-byte.at c.value_byte.result c.value_byte.ensures c.in-Some.is in
    omega (arith, e.1, e.2)

pub loop-byte-preserved : goal.loop-byte-preserved
loop-byte-preserved c =
    let s = c.args.s.now in
    let e = goes_on s c.loop-byte.at c.value_byte.result c.value_byte.ensures c.in-Some.is in
    let f = word_on (value_from (drop c.loop-byte.at s)) (value_from (drop c.in-Some.field-0.next s)) c.in-Some.field-0.byte e.0 (sym c.is_gap.ensures ∙ c.if-is_gap.false) in
    let g = parts-on (word_from s c.loop-byte.at) c.in-Some.field-0.byte (word_from s c.in-Some.field-0.next) f (ne_eqb _ _ c.if-byte-eq44.false) in
    (omega (arith, c.loop-byte.invariant.0, e.1), c.loop-byte.invariant.1 ∙ g.1)
