-- `terms::join` meets its contract: the table's entries are its first ones.
use native.Mathlib.Omega.{arith}
use mathlib.Core.Path.{sym, ◌∙◌}
use mathlib.Core.Bool.{false≢true}
use lib.Seq.{length-take-le}
use Rattle.terms.proofs.Prints.{entries-front}
use Rattle.terms.proofs.Search.{rising-front}
use Rattle.terms.proofs.join.Goals as goal

pub slice_bounds-join_rising-end : goal.slice_bounds-join_rising-end
slice_bounds-join_rising-end c =
    sym (length-take-le c.args.t.count c.args.entries.now c.requires.0.room)

pub join_rising-requires : goal.join_rising-requires
join_rising-requires c =
    let l = c.args.entries.now in
    let t = c.requires.0 in
    let n = length-take-le c.args.t.count l t.room in
    let r = c.requires.1 in
    record { entries = (entries-front c.args.s.now l c.args.t.count t.room t.entries, rising-front c.args.s.now l c.args.t.count t.room (t.rising c.if-t.true)); entries_in_bounds = omega arith }

pub returns-else-t : goal.returns-else-t
returns-else-t c =
    record { table = c.requires.0; room = c.requires.1; joined = λ e. absurd (false≢true (sym c.if-t.false ∙ e)) }
