-- `rules::judge_rows` meets its contract: the tables and the symbols stand in their regions of the entries, and the records are asked by them.
use Prim.Native.Nat.{◌-◌}
use native.Mathlib.Omega.{arith}
use mathlib.Core.Path.{◌≡◌, refl, ◌∙◌}
use lib.ListN.{length}
use borrow.Rule.Slice.PartMut.{mid_len}
use Rattle.format.specs.Pieces.{read_of}
use Rattle.format.proofs.Records.{records}
use Rattle.rules.specs.Tables.{symbols_at, entries_end}
use Rattle.rules.proofs.Rulebooks.{next-few, texts-to, rulebook, chunked}
use Rattle.rules.proofs.judge_rows.Goals as goal

pub read-tables-requires : goal.read-tables-requires
read-tables-requires c =
    record { described = (c.requires.book.0.described, omega (arith, c.requires.book.1, c.requires.book.0.kinds-are.count)); entries_end_in_bounds = (c.requires.entries_end_in_bounds, omega arith) }

pub read-symbols-requires : goal.read-symbols-requires
read-symbols-requires c =
    let d = c.args.d.now in
    let few = next-few d c.args.b c.requires.book.0 c.args.from c.read-tables.new.entries c.read-tables.new.sets c.read-tables.result c.read-tables.ensures.0 c.read-tables.ensures.1 in
    let to = texts-to d c.args.b c.requires.book.0 c.args.from c.read-tables.new.entries c.read-tables.new.sets c.read-tables.result c.read-tables.ensures.0 c.read-tables.ensures.1 in
    let long = mid_len symbols_at entries_end c.read-tables.new.entries c.read-tables.ensures.0.entries-long in
    record { d_len_bound = (c.requires.book.0.described.short, omega (arith, c.read-tables.ensures.1, c.read-tables.ensures.0.names-are.begins), few.1, omega (arith, few.1, c.requires.book.0.kinds-are.texts-long)); texts = (to, omega (arith, long)) }

pub judge_part-a-requires : goal.judge_part-a-requires
judge_part-a-requires c =
    let d = c.args.d.now in
    let long : length c.read-symbols.new.entries ≡ entries_end - symbols_at = c.read-symbols.auto.entries ∙ mid_len symbols_at entries_end c.read-tables.new.entries c.read-tables.ensures.0.entries-long in
    record { rulebook = rulebook d c.args.b c.requires.book.0 c.args.from c.read-tables.new.entries c.read-tables.new.sets c.read-tables.result c.read-tables.ensures.0 c.read-tables.ensures.1 c.read-symbols.new.entries long c.read-symbols.result c.read-symbols.ensures.0 c.read-symbols.ensures.1; s_value = c.requires.part_value }

pub returns : goal.returns
returns c =
    let d = c.args.d.now in
    let long : length c.read-symbols.new.entries ≡ entries_end - symbols_at = c.read-symbols.auto.entries ∙ mid_len symbols_at entries_end c.read-tables.new.entries c.read-tables.ensures.0.entries-long in
    chunked d c.args.b c.requires.book.0 c.args.from c.read-tables.new.entries c.read-tables.new.sets c.read-tables.result c.read-tables.ensures.0 c.read-tables.ensures.1 c.read-symbols.new.entries long c.read-symbols.result c.read-symbols.ensures.0 c.read-symbols.ensures.1 (records (read_of c.args.part.now)) _ refl c.judge_part-a.ensures.0 c.judge_part-a.ensures.1
