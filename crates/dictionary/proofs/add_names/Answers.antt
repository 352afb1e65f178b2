use Rattle.std.proofs.Common.{rules, tests}
use Rattle.format.specs.Words.{is_gap}
use borrow.Author.Rules.{rules}
use native.Mathlib.Omega.{arith}
use Rattle.values.proofs.Parts.{behind-told}
use Rattle.dictionary.proofs.Reading.{names-start, names-there, names-room, names-end, names_more}
use Rattle.dictionary.proofs.add_names.Goals as goal

pub pass-at-requires-clause-i_in_bounds : goal.pass-at-requires-clause-i_in_bounds
pass-at-requires-clause-i_in_bounds c =
    c.requires.i_in_bounds.0

pub loop-next-init : goal.loop-next-init
loop-next-init c =
    names-start c.args.d.now c.args.entries.now c.args.n c.args.tag c.args.i c.pass-at.result c.pass-at.ensures.inside.1 (c.pass-at.ensures.passed is_gap (λ b r k. search (rules, tests))) c.requires.d_in_bounds c.requires.d_value

pub entry-requires : goal.entry-requires
entry-requires c =
    let h = names-there c.args.d.now c.args.entries.now c.args.n c.args.tag c.args.i c.loop-next.entries c.loop-next.k c.loop-next.at c.loop-next.invariant in
    (omega (arith, c.requires.i_in_bounds.1), c.requires.i_in_bounds.2)

pub offset_bounds-entries-k : goal.offset_bounds-entries-k
offset_bounds-entries-k c =
    let h = names-room c.args.d.now c.args.entries.now c.args.n c.args.tag c.args.i c.loop-next.entries c.loop-next.k c.loop-next.at c.loop-next.invariant in
    search rules

pub bounds-entries-k : goal.bounds-entries-k
bounds-entries-k c =
    names-room c.args.d.now c.args.entries.now c.args.n c.args.tag c.args.i c.loop-next.entries c.loop-next.k c.loop-next.at c.loop-next.invariant

pub overflow_add-k : goal.overflow_add-k
overflow_add-k c =
    let h = names-room c.args.d.now c.args.entries.now c.args.n c.args.tag c.args.i c.loop-next.entries c.loop-next.k c.loop-next.at c.loop-next.invariant in
    omega (arith, c.loop-next.invariant.adding.long)

pub shape_of-entries-in_default : goal.shape_of-entries-in_default
shape_of-entries-in_default c =
    let b = behind-told c.args.d.now c.loop-next.at c.part_next.result c.part_next.ensures c.in_default.is in
    (names-end c.args.d.now c.args.entries.now c.args.n c.args.tag c.args.i c.loop-next.entries c.loop-next.k c.loop-next.at c.loop-next.invariant c.entry.result (c.entry.ensures.1, c.entry.ensures.2) b).long

pub returns-in_default : goal.returns-in_default
returns-in_default c =
    let b = behind-told c.args.d.now c.loop-next.at c.part_next.result c.part_next.ensures c.in_default.is in
    names-end c.args.d.now c.args.entries.now c.args.n c.args.tag c.args.i c.loop-next.entries c.loop-next.k c.loop-next.at c.loop-next.invariant c.entry.result (c.entry.ensures.1, c.entry.ensures.2) b

pub loop-next-smaller : goal.loop-next-smaller
loop-next-smaller c =
    let b = behind-told c.args.d.now c.loop-next.at c.part_next.result c.part_next.ensures c.in-Some.is in
    omega (arith, b.0, b.1)

pub loop-next-preserved : goal.loop-next-preserved
loop-next-preserved c =
    let b = behind-told c.args.d.now c.loop-next.at c.part_next.result c.part_next.ensures c.in-Some.is in
    names_more c.args.d.now c.args.entries.now c.args.n c.args.tag c.args.i c.loop-next.entries c.loop-next.k c.loop-next.at c.loop-next.invariant c.entry.result (c.entry.ensures.1, c.entry.ensures.2) _ b
