-- `terms::find` meets its contract: the table's entries are its first ones.
use mathlib.Core.Path.{sym}
use lib.Seq.{length-take-le}
use Rattle.terms.proofs.Prints.{entries-front}
use Rattle.terms.proofs.Search.{none_found, rising-front}
use Rattle.terms.proofs.find.Goals as goal

pub returns-then-n-eq0 : goal.returns-then-n-eq0
returns-then-n-eq0 c =
    none_found c.args.s.now c.args.w.now c.args.entries.now c.args.t.count c.if-n-eq0.true

pub slice_bounds-find_sorted-end : goal.slice_bounds-find_sorted-end
slice_bounds-find_sorted-end c =
    sym (length-take-le c.args.t.count c.args.entries.now c.requires.room)

pub find_sorted-requires : goal.find_sorted-requires
find_sorted-requires c =
    let l = c.args.entries.now in
    record { entries = entries-front c.args.s.now l c.args.t.count c.requires.room c.requires.entries; print_value = (c.word_print-print.ensures, rising-front c.args.s.now l c.args.t.count c.requires.room (c.requires.rising c.if-t.true)) }

pub returns-then-t : goal.returns-then-t
returns-then-t c =
    c.find_sorted.ensures

pub slice_bounds-find_all-end : goal.slice_bounds-find_all-end
slice_bounds-find_all-end c =
    sym (length-take-le c.args.t.count c.args.entries.now c.requires.room)

pub find_all-requires : goal.find_all-requires
find_all-requires c =
    let l = c.args.entries.now in
    record { entries = entries-front c.args.s.now l c.args.t.count c.requires.room c.requires.entries; print_value = c.word_print-print.ensures }

pub returns : goal.returns
returns c =
    c.find_all.ensures
