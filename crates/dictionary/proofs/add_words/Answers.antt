use borrow.Author.Rules.{rules}
use native.Mathlib.Omega.{arith}
use Rattle.values.proofs.Splitting.{cuts-told}
use Rattle.dictionary.proofs.Reading.{words-start, words-end, words-room, words_more}
use Rattle.dictionary.proofs.add_words.Goals as goal

pub loop-start-init : goal.loop-start-init
loop-start-init c =
    words-start c.args.d.now c.args.entries.now c.args.n c.args.tag c.args.i c.requires.i_in_bounds.0 c.requires.d_in_bounds c.requires.d_value

pub next_word-requires : goal.next_word-requires
next_word-requires c =
    c.loop-start.invariant.inside

pub shape_of-entries-in_default : goal.shape_of-entries-in_default
shape_of-entries-in_default c =
    c.loop-start.invariant.adding.long

pub returns-in_default : goal.returns-in_default
returns-in_default c =
    let e = cuts-told c.args.d.now c.loop-start.from c.next_word.result c.next_word.ensures c.in_default.is in
    words-end c.args.d.now c.args.entries.now c.args.n c.args.tag c.args.i c.loop-start.entries c.loop-start.k c.loop-start.from c.loop-start.invariant e

pub entry-requires : goal.entry-requires
entry-requires c =
    let e = cuts-told c.args.d.now c.loop-start.from c.next_word.result c.next_word.ensures c.in-Some.is in
    (omega (arith, e.2, e.3, c.requires.i_in_bounds.1), c.requires.i_in_bounds.2)

pub offset_bounds-entries-k : goal.offset_bounds-entries-k
offset_bounds-entries-k c =
    let e = cuts-told c.args.d.now c.loop-start.from c.next_word.result c.next_word.ensures c.in-Some.is in
    let h = words-room c.args.d.now c.args.entries.now c.args.n c.args.tag c.args.i c.loop-start.entries c.loop-start.k c.loop-start.from c.loop-start.invariant _ _ e in
    search rules

pub bounds-entries-k : goal.bounds-entries-k
bounds-entries-k c =
    let e = cuts-told c.args.d.now c.loop-start.from c.next_word.result c.next_word.ensures c.in-Some.is in
    words-room c.args.d.now c.args.entries.now c.args.n c.args.tag c.args.i c.loop-start.entries c.loop-start.k c.loop-start.from c.loop-start.invariant _ _ e

pub overflow_add-k : goal.overflow_add-k
overflow_add-k c =
    let e = cuts-told c.args.d.now c.loop-start.from c.next_word.result c.next_word.ensures c.in-Some.is in
    let h = words-room c.args.d.now c.args.entries.now c.args.n c.args.tag c.args.i c.loop-start.entries c.loop-start.k c.loop-start.from c.loop-start.invariant _ _ e in
    omega (arith, c.loop-start.invariant.adding.long)

pub loop-start-smaller : goal.loop-start-smaller
loop-start-smaller c =
    let e = cuts-told c.args.d.now c.loop-start.from c.next_word.result c.next_word.ensures c.in-Some.is in
    omega (arith, e.1, e.2, e.3)

pub loop-start-preserved : goal.loop-start-preserved
loop-start-preserved c =
    let e = cuts-told c.args.d.now c.loop-start.from c.next_word.result c.next_word.ensures c.in-Some.is in
    words_more c.args.d.now c.args.entries.now c.args.n c.args.tag c.args.i c.loop-start.entries c.loop-start.k c.loop-start.from c.loop-start.invariant _ _ e c.entry.result (c.entry.ensures.1, c.entry.ensures.2)
