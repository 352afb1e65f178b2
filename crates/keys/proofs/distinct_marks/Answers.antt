-- `keys::distinct_marks` meets its contract: the first n entries are a part of their own.
use mathlib.Core.Path.{sym}
use lib.Seq.{length-take-le}
use Rattle.keys.proofs.Prints.{inside-front}
use Rattle.keys.proofs.distinct_marks.Goals as goal

pub slice_bounds-distinct_entries-end-2 : goal.slice_bounds-distinct_entries-end-2
slice_bounds-distinct_entries-end-2 c =
    sym (length-take-le c.args.n c.args.entries.now c.requires.n_in_bounds)

pub distinct_entries-requires : goal.distinct_entries-requires
distinct_entries-requires c =
    inside-front c.args.s.now c.args.entries.now c.args.n c.requires.n_in_bounds c.requires.inside
