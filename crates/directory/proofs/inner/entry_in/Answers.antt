-- `directory::inner::entry_in` meets its contract.
use native.Mathlib.Omega.{arith}
use Rattle.std.specs.Prelude.{◌≡◌, drop}
use mathlib.Core.Path.{sym, ap, ◌∙◌}
use Rattle.format.specs.declared.Entry.{Entry}
use Rattle.lines.proofs.Cuts.{rest}
use Rattle.directory.specs.Blocks.{next_entry, raise_entry, entry_in}
use Rattle.records.proofs.Readings.{part-readable}
use Rattle.directory.proofs.Entries.{first_entry, entry-begins, next-entry, place_inside}
use Rattle.directory.proofs.inner.entry_in.Goals as goal

pub returns-then-k-eq0 : goal.returns-then-k-eq0
returns-then-k-eq0 c =
    first_entry c.args.s.now c.next_members-m.result c.next_members-m.ensures ∙ ap (entry_in c.args.s.now) (sym c.if-k-eq0.true)

pub slice_bounds-next_entry-count : goal.slice_bounds-next_entry-count
slice_bounds-next_entry-count c =
    let b = entry-begins c.args.s.now c.requires.0 c.args.k c.args.at c.if-k-eq0.false c.requires.1 c.requires.2 in
    b.inside

pub slice_bounds-next_entry-start : goal.slice_bounds-next_entry-start
slice_bounds-next_entry-start c =
    let b = entry-begins c.args.s.now c.requires.0 c.args.k c.args.at c.if-k-eq0.false c.requires.1 c.requires.2 in
    b.inside

pub next_entry-e-requires : goal.next_entry-e-requires
next_entry-e-requires c =
    let b = entry-begins c.args.s.now c.requires.0 c.args.k c.args.at c.if-k-eq0.false c.requires.1 c.requires.2 in
    part-readable c.args.s.now c.args.at b.readable

pub overflow_add-result : goal.overflow_add-result
overflow_add-result c =
    let b = entry-begins c.args.s.now c.requires.0 c.args.k c.args.at c.if-k-eq0.false c.requires.1 c.requires.2 in
    let e : c.next_entry-e.result ≡ next_entry (drop c.args.at c.args.s.now) = c.next_entry-e.ensures ∙ ap next_entry (rest c.args.s.now c.args.at) in
    omega (arith, place_inside c.args.s.now c.args.at b.inside b.readable, ap (λ (x : Entry). x.place) e)

pub overflow_add-result-2 : goal.overflow_add-result-2
overflow_add-result-2 c =
    let b = entry-begins c.args.s.now c.requires.0 c.args.k c.args.at c.if-k-eq0.false c.requires.1 c.requires.2 in
    let e : c.next_entry-e.result ≡ next_entry (drop c.args.at c.args.s.now) = c.next_entry-e.ensures ∙ ap next_entry (rest c.args.s.now c.args.at) in
    let n = next-entry c.args.s.now c.requires.0 c.args.k c.args.at b c.requires.1 in
    omega (arith, n.behind.inside, ap (λ (x : Entry). x.end) n.is, ap (λ (x : Entry). x.end) e)

pub returns : goal.returns
returns c =
    let b = entry-begins c.args.s.now c.requires.0 c.args.k c.args.at c.if-k-eq0.false c.requires.1 c.requires.2 in
    let e : c.next_entry-e.result ≡ next_entry (drop c.args.at c.args.s.now) = c.next_entry-e.ensures ∙ ap next_entry (rest c.args.s.now c.args.at) in
    let n = next-entry c.args.s.now c.requires.0 c.args.k c.args.at b c.requires.1 in
    ap (raise_entry c.args.at) e ∙ sym n.is
