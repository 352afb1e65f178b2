-- `terms::build` meets its contract: sorting and merging keep what is said, and the look afterwards tells whether the table rises.
use mathlib.Core.Path.{sym, ◌∙◌}
use lib.Seq.{length-take-le}
use Rattle.terms.proofs.Moves.{moved-entries, moved-kept}
use Rattle.terms.proofs.Prints.{entries-front}
use Rattle.terms.proofs.Search.{rising-back}
use Rattle.terms.proofs.build.Goals as goal

pub merge-count-requires : goal.merge-count-requires
merge-count-requires c =
    moved-entries c.args.s.now c.args.entries.now c.sort.new.entries c.sort.ensures (c.requires)

pub slice_bounds-rising-end-2 : goal.slice_bounds-rising-end-2
slice_bounds-rising-end-2 c =
    sym (length-take-le c.merge-count.result c.merge-count.new.entries c.merge-count.ensures.0)

pub rising-sorted-requires : goal.rising-sorted-requires
rising-sorted-requires c =
    entries-front c.args.s.now c.merge-count.new.entries c.merge-count.result c.merge-count.ensures.0 c.merge-count.ensures.1

pub returns : goal.returns
returns c =
    record {
      table = record {
        room = c.merge-count.ensures.0;
        entries = c.merge-count.ensures.1;
        rising = λ e. rising-back c.args.s.now c.merge-count.new.entries c.merge-count.result c.merge-count.ensures.0 (c.rising-sorted.ensures e);
      };
      kept = λ w k. c.merge-count.ensures.2 w k ∙ moved-kept c.args.s.now c.args.entries.now c.sort.new.entries c.sort.ensures w k;
    }
