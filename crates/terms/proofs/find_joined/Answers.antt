-- `terms::find_joined` meets its contract: the table's entries are its first ones.
use native.Mathlib.Omega.{arith}
use mathlib.Core.Path.{sym}
use lib.Seq.{length-take-le}
use Rattle.terms.proofs.Prints.{entries-front}
use Rattle.terms.proofs.Search.{rising-front, none_found}
use Rattle.terms.proofs.find_joined.Goals as goal

pub returns-then-n-eq0 : goal.returns-then-n-eq0
returns-then-n-eq0 c =
    none_found c.args.s.now c.args.w.now c.args.entries.now c.args.t.count c.if-n-eq0.true

pub slice_bounds-find_first-end : goal.slice_bounds-find_first-end
slice_bounds-find_first-end c =
    sym (length-take-le c.args.t.count c.args.entries.now c.requires.table.room)

pub find_first-requires : goal.find_first-requires
find_first-requires c =
    let l = c.args.entries.now in
    let t = c.requires.table in
    let n = length-take-le c.args.t.count l t.room in
    let r = c.requires.room in
    record { entries = entries-front c.args.s.now l c.args.t.count t.room t.entries; print_value = (c.word_print-print.ensures, rising-front c.args.s.now l c.args.t.count t.room (t.rising c.if-t.true)); entries_in_bounds = (omega arith, c.requires.joined c.if-t.true) }

pub returns-then-t : goal.returns-then-t
returns-then-t c =
    c.find_first.ensures

pub slice_bounds-find_all-end : goal.slice_bounds-find_all-end
slice_bounds-find_all-end c =
    sym (length-take-le c.args.t.count c.args.entries.now c.requires.table.room)

pub find_all-requires : goal.find_all-requires
find_all-requires c =
    let l = c.args.entries.now in
    let t = c.requires.table in
    record { entries = entries-front c.args.s.now l c.args.t.count t.room t.entries; print_value = c.word_print-print.ensures }

pub returns : goal.returns
returns c =
    c.find_all.ensures
