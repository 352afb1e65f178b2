use Rattle.std.proofs.Common.{rules, tests}
use Rattle.values.specs.Stretches.{is_word_byte}
use borrow.Author.Rules.{rules}
use Prim.Native.Nat.{◌-◌}
use native.Mathlib.Omega.{arith}
use mathlib.Core.Path.{sym, ◌∙◌}
use Rattle.values.proofs.Decoding.{ended, goes_on}
use Rattle.enums.proofs.Reading.{symbols-start, symbols-end, symbols-gap, comment-sound, symbols-comment, symbols-room, symbols-more}
use Rattle.enums.proofs.add_symbols.Goals as goal

pub symbols_start-at-requires : goal.symbols_start-at-requires
symbols_start-at-requires c =
    (c.requires.v_in_bounds.0, c.requires.v_value)

pub loop-byte-init : goal.loop-byte-init
loop-byte-init c =
    symbols-start c.args.d.now c.args.entries.now c.args.n c.args.tag c.args.v c.symbols_start-at.result c.symbols_start-at.ensures c.requires.v_in_bounds_2

pub shape_of-entries-in_default : goal.shape_of-entries-in_default
shape_of-entries-in_default c =
    c.loop-byte.invariant.adding.long

pub returns-in_default : goal.returns-in_default
returns-in_default c =
    let e = ended c.args.d.now c.loop-byte.at c.value_byte.result c.value_byte.ensures c.in_default.is in
    symbols-end c.args.d.now c.args.entries.now c.args.n c.args.tag c.args.v c.loop-byte.entries c.loop-byte.k c.loop-byte.at c.loop-byte.invariant e

pub loop-byte-smaller-then-is_gap : goal.loop-byte-smaller-then-is_gap
loop-byte-smaller-then-is_gap c =
    let e = goes_on c.args.d.now c.loop-byte.at c.value_byte.result c.value_byte.ensures c.in-Some.is in
    omega (arith, e.1, e.2)

pub loop-byte-preserved-then-is_gap : goal.loop-byte-preserved-then-is_gap
loop-byte-preserved-then-is_gap c =
    let e = goes_on c.args.d.now c.loop-byte.at c.value_byte.result c.value_byte.ensures c.in-Some.is in
    symbols-gap c.args.d.now c.args.entries.now c.args.n c.args.tag c.args.v c.loop-byte.entries c.loop-byte.k c.loop-byte.at c.loop-byte.invariant c.in-Some.field-0.byte c.in-Some.field-0.next e.0 e.2 (sym c.is_gap.ensures ∙ c.if-is_gap.true)

pub comment_end-at-requires : goal.comment_end-at-requires
comment_end-at-requires c =
    let e = goes_on c.args.d.now c.loop-byte.at c.value_byte.result c.value_byte.ensures c.in-Some.is in
    record { i_in_bounds = e.2; d_value = comment-sound c.args.d.now c.args.entries.now c.args.n c.args.tag c.args.v c.loop-byte.entries c.loop-byte.k c.loop-byte.at c.loop-byte.invariant c.in-Some.field-0.byte c.in-Some.field-0.next e.0 e.2 c.if-byte-eq40.true }

pub loop-byte-smaller-then-byte-eq40 : goal.loop-byte-smaller-then-byte-eq40
loop-byte-smaller-then-byte-eq40 c =
    let e = goes_on c.args.d.now c.loop-byte.at c.value_byte.result c.value_byte.ensures c.in-Some.is in
    omega (arith, e.1, e.2, c.comment_end-at.ensures.0, c.comment_end-at.ensures.1)

pub loop-byte-preserved-then-byte-eq40 : goal.loop-byte-preserved-then-byte-eq40
loop-byte-preserved-then-byte-eq40 c =
    let e = goes_on c.args.d.now c.loop-byte.at c.value_byte.result c.value_byte.ensures c.in-Some.is in
    symbols-comment c.args.d.now c.args.entries.now c.args.n c.args.tag c.args.v c.loop-byte.entries c.loop-byte.k c.loop-byte.at c.loop-byte.invariant c.in-Some.field-0.byte c.in-Some.field-0.next e.0 e.2 c.if-byte-eq40.true c.comment_end-at.result c.comment_end-at.ensures.1 c.comment_end-at.ensures.2

pub entry-requires : goal.entry-requires
entry-requires c =
    let e = goes_on c.args.d.now c.loop-byte.at c.value_byte.result c.value_byte.ensures c.in-Some.is in
    (omega (arith, e.1, e.2, c.requires.v_in_bounds.1), c.requires.v_in_bounds.2)

pub offset_bounds-entries-k : goal.offset_bounds-entries-k
offset_bounds-entries-k c =
    let e = goes_on c.args.d.now c.loop-byte.at c.value_byte.result c.value_byte.ensures c.in-Some.is in
    let h = symbols-room c.args.d.now c.args.entries.now c.args.n c.args.tag c.args.v c.loop-byte.entries c.loop-byte.k c.loop-byte.at c.loop-byte.invariant c.in-Some.field-0.byte c.in-Some.field-0.next e.0 e.2 (sym c.is_gap.ensures ∙ c.if-is_gap.false) c.if-byte-eq40.false in
    search rules

pub bounds-entries-k : goal.bounds-entries-k
bounds-entries-k c =
    let e = goes_on c.args.d.now c.loop-byte.at c.value_byte.result c.value_byte.ensures c.in-Some.is in
    symbols-room c.args.d.now c.args.entries.now c.args.n c.args.tag c.args.v c.loop-byte.entries c.loop-byte.k c.loop-byte.at c.loop-byte.invariant c.in-Some.field-0.byte c.in-Some.field-0.next e.0 e.2 (sym c.is_gap.ensures ∙ c.if-is_gap.false) c.if-byte-eq40.false

pub overflow_add-k : goal.overflow_add-k
overflow_add-k c =
    let e = goes_on c.args.d.now c.loop-byte.at c.value_byte.result c.value_byte.ensures c.in-Some.is in
    let h = symbols-room c.args.d.now c.args.entries.now c.args.n c.args.tag c.args.v c.loop-byte.entries c.loop-byte.k c.loop-byte.at c.loop-byte.invariant c.in-Some.field-0.byte c.in-Some.field-0.next e.0 e.2 (sym c.is_gap.ensures ∙ c.if-is_gap.false) c.if-byte-eq40.false in
    omega (arith, c.loop-byte.invariant.adding.long)

pub pass-at-requires-clause-i_in_bounds : goal.pass-at-requires-clause-i_in_bounds
pass-at-requires-clause-i_in_bounds c =
    let e = goes_on c.args.d.now c.loop-byte.at c.value_byte.result c.value_byte.ensures c.in-Some.is in
    e.2

pub loop-byte-smaller : goal.loop-byte-smaller
loop-byte-smaller c =
    let e = goes_on c.args.d.now c.loop-byte.at c.value_byte.result c.value_byte.ensures c.in-Some.is in
    omega (arith, e.1, e.2, c.pass-at.ensures.inside.0, c.pass-at.ensures.inside.1)

pub loop-byte-preserved : goal.loop-byte-preserved
loop-byte-preserved c =
    let e = goes_on c.args.d.now c.loop-byte.at c.value_byte.result c.value_byte.ensures c.in-Some.is in
    symbols-more c.args.d.now c.args.entries.now c.args.n c.args.tag c.args.v c.loop-byte.entries c.loop-byte.k c.loop-byte.at c.loop-byte.invariant c.in-Some.field-0.byte c.in-Some.field-0.next e.0 e.2 (sym c.is_gap.ensures ∙ c.if-is_gap.false) c.if-byte-eq40.false c.entry.result c.pass-at.result (c.entry.ensures.1, c.entry.ensures.2) c.pass-at.ensures.inside.1 (c.pass-at.ensures.passed is_word_byte (λ b r k. search (rules, tests)))
