-- `test_dump::dump` meets its contract: what is dumped was seen to be readable.
use mathlib.Core.Path.{sym, ◌∙◌}
use Rattle.test_dump.proofs.dump.Goals as goal

pub dump_records-requires : goal.dump_records-requires
dump_records-requires c =
    (sym c.is_readable.ensures ∙ c.if-is_readable.true)
