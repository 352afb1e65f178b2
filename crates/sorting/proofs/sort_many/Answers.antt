-- `sorting::sort_many` meets its contract: entries move into their buckets, and within them.
use Rattle.sorting.proofs.Moves.{moved_length, moved_on}
use Rattle.sorting.proofs.sort_many.Goals as goal

pub shape_of-entries : goal.shape_of-entries
shape_of-entries c =
    moved_length c.args.entries.now c.sort_buckets.new.entries (moved_on c.args.entries.now c.fill_buckets.new.entries c.sort_buckets.new.entries c.fill_buckets.ensures c.sort_buckets.ensures)

pub returns : goal.returns
returns c =
    moved_on c.args.entries.now c.fill_buckets.new.entries c.sort_buckets.new.entries c.fill_buckets.ensures c.sort_buckets.ensures
