-- `directory::inner::block_start` meets its contract. The invariant: the part from i on is readable, and where its block begins is what is looked for.
-- The measure is what is left of the length.
use Rattle.std.specs.Prelude.{◌≡◌, ◌-◌, ◌≤◌, true, length, drop}
use Rattle.format.specs.Pieces.{read_of}
use Rattle.records.specs.Places.{is_readable}
use Rattle.directory.specs.Blocks.{block_from}
use Rattle.directory.proofs.Blocks.{block_at}
use Rattle.directory.proofs.inner.block_start.Given as goal

abbrev pub invariant-loop-size : goal.invariant-loop-size
invariant-loop-size l = (l.i ≤ length l.s) × (is_readable (drop l.i l.s) ≡ true) × (block_from 0 0 (read_of l.s) ≡ block_at l.s l.start l.i)

abbrev pub decreases-loop-size : goal.decreases-loop-size
decreases-loop-size l = length l.s - l.i
