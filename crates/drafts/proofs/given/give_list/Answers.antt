use Prim.Native.Nat.{◌+◌, ◌-◌, ◌≤◌}
use native.Mathlib.Omega.{arith}
use mathlib.Core.Path.{refl, sym, ap, ◌∙◌, subst}
use lib.ListN.{length, take}
use Rattle.format.specs.Bytes.{Bytes}
use Rattle.format.specs.Words.{words as words_of}
use Rattle.format.specs.Rules.{listed}
use Rattle.values.specs.Value.{value_from}
use Rattle.lines.proofs.Cuts.{rest}
use Rattle.words.specs.Spans.{span}
use Rattle.words.proofs.Decoded.{decoded-all, decoded-length, decoded-inside}
use Rattle.records.specs.Walk.{record_in}
use Rattle.records.proofs.Readings.{part-readable}
use Rattle.records.proofs.Named.{value-told}
use Rattle.drafts.proofs.Giving.{going_start, going_end, going_on}
use Rattle.drafts.proofs.Listing.{words_from, short-start, short-here, short_on, words-cut, words-none}
use Rattle.drafts.proofs.given.give_list.Goals as goal

pub loop-value-init : goal.loop-value-init
loop-value-init c =
    (omega arith, c.requires.described.0.reads, short-start c.args.d.now c.args.name.now c.requires.described.0, refl, going_start c.args.d.now c.args.l (listed c.args.name.now (record_in c.args.d.now)) c.args.set)

pub next_named-requires : goal.next_named-requires
next_named-requires c =
    part-readable c.args.d.now c.loop-value.i c.loop-value.invariant.1

pub shape_of-scratch-in_default : goal.shape_of-scratch-in_default
shape_of-scratch-in_default c =
    c.loop-value.invariant.3

pub returns-in_default : goal.returns-in_default
returns-in_default c =
    going_end c.args.d.now c.args.l (listed c.args.name.now (record_in c.args.d.now)) c.args.set c.loop-value.given (words_from c.args.d.now c.args.name.now c.loop-value.i) c.loop-value.invariant.4 (words-none c.args.d.now c.args.name.now c.loop-value.i (value-told c.args.d.now c.args.name.now c.loop-value.i c.next_named.result c.next_named.ensures c.in_default.is))

pub overflow_add-i : goal.overflow_add-i
overflow_add-i c =
    let h = value-told c.args.d.now c.args.name.now c.loop-value.i c.next_named.result c.next_named.ensures c.in-Some.is in omega (arith, h.value_there)

pub slice_bounds-copy_value-count : goal.slice_bounds-copy_value-count
slice_bounds-copy_value-count c =
    let h = value-told c.args.d.now c.args.name.now c.loop-value.i c.next_named.result c.next_named.ensures c.in-Some.is in omega (arith, h.value_there)

pub slice_bounds-copy_value-start : goal.slice_bounds-copy_value-start
slice_bounds-copy_value-start c =
    let h = value-told c.args.d.now c.args.name.now c.loop-value.i c.next_named.result c.next_named.ensures c.in-Some.is in omega (arith, h.value_there)

pub copy_value-n-requires : goal.copy_value-n-requires
copy_value-n-requires c =
    let h = value-told c.args.d.now c.args.name.now c.loop-value.i c.next_named.result c.next_named.ensures c.in-Some.is in
    subst (λ (x : Bytes). length (value_from x) ≤ length c.loop-value.scratch) (sym (rest c.args.d.now (c.loop-value.i + c.in-Some.field-0.value))) (omega (arith, short-here c.args.d.now c.args.name.now c.loop-value.i _ _ h _ refl c.loop-value.invariant.2, c.loop-value.invariant.3, c.requires.described.1))

pub slice_bounds-give_words-end : goal.slice_bounds-give_words-end
slice_bounds-give_words-end c =
    let h = value-told c.args.d.now c.args.name.now c.loop-value.i c.next_named.result c.next_named.ensures c.in-Some.is in
    decoded-inside (value_from (span (c.loop-value.i + c.in-Some.field-0.value) (length c.args.d.now) c.args.d.now)) c.loop-value.scratch _ c.copy_value-n.result c.copy_value-n.ensures.0 c.copy_value-n.ensures.1 (subst (λ (x : Bytes). length (value_from x) ≤ length c.loop-value.scratch) (sym (rest c.args.d.now (c.loop-value.i + c.in-Some.field-0.value))) (omega (arith, short-here c.args.d.now c.args.name.now c.loop-value.i _ _ h _ refl c.loop-value.invariant.2, c.loop-value.invariant.3, c.requires.described.1)))

pub slice_bounds-give_words-end-in-loop-value : goal.slice_bounds-give_words-end-in-loop-value
slice_bounds-give_words-end-in-loop-value c =
    decoded-length (value_from (span (c.loop-value.i + c.in-Some.field-0.value) (length c.args.d.now) c.args.d.now)) c.loop-value.scratch _ c.copy_value-n.result c.copy_value-n.ensures.0 c.copy_value-n.ensures.1

pub give_words-given-requires : goal.give_words-given-requires
give_words-given-requires c =
    c.requires.listed

pub overflow_add-i-in-loop-value : goal.overflow_add-i-in-loop-value
overflow_add-i-in-loop-value c =
    let h = value-told c.args.d.now c.args.name.now c.loop-value.i c.next_named.result c.next_named.ensures c.in-Some.is in omega (arith, h.inside, c.well_formed.0.0)

pub loop-value-smaller : goal.loop-value-smaller
loop-value-smaller c =
    let h = value-told c.args.d.now c.args.name.now c.loop-value.i c.next_named.result c.next_named.ensures c.in-Some.is in omega (arith, h.moves, h.inside)

pub loop-value-preserved : goal.loop-value-preserved
loop-value-preserved c =
    let h = value-told c.args.d.now c.args.name.now c.loop-value.i c.next_named.result c.next_named.ensures c.in-Some.is in
    let x = take c.copy_value-n.result c.copy_value-n.new.out in
    let q = decoded-all (value_from (span (c.loop-value.i + c.in-Some.field-0.value) (length c.args.d.now) c.args.d.now)) c.loop-value.scratch c.copy_value-n.new.out c.copy_value-n.result c.copy_value-n.ensures.0 c.copy_value-n.ensures.1 ∙ ap value_from (rest c.args.d.now (c.loop-value.i + c.in-Some.field-0.value)) in
    (h.inside, h.readable, short_on c.args.d.now c.args.name.now c.loop-value.i _ _ h x q c.loop-value.invariant.2, c.copy_value-n.auto.out ∙ c.loop-value.invariant.3, going_on c.args.d.now c.args.l (listed c.args.name.now (record_in c.args.d.now)) c.args.set c.loop-value.given c.give_words-given.result (words_from c.args.d.now c.args.name.now c.loop-value.i) (words_of x) (words_from c.args.d.now c.args.name.now (c.loop-value.i + c.in-Some.field-0.end)) c.loop-value.invariant.4 (words-cut c.args.d.now c.args.name.now c.loop-value.i _ _ h x q) c.give_words-given.ensures)
