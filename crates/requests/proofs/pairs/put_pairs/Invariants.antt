-- `requests::pairs::put_pairs` meets its contract. The invariant: at and the text of the pairs from i on make up the whole length, and writing that text at it gives what writing the whole one gives.
-- The measure is what is left of the request.
use Prim.Native.Nat.{◌+◌, ◌-◌}
use mathlib.Core.Path.{◌≡◌}
use mathlib.Core.Bool.{true}
use lib.ListN.{length}
use lib.Seq.{sets}
use Rattle.format.specs.Bytes.{is_some}
use Rattle.format.specs.Written.{written_all}
use Rattle.requests.specs.Pairs.{pairs_from, pairs_at}
use Rattle.requests.proofs.pairs.put_pairs.Given as goal

abbrev pub invariant-loop-name : goal.invariant-loop-name
invariant-loop-name l = (length l.out ≡ length l.initial.out) × (is_some (pairs_from l.req l.i) ≡ true) × (l.at + length (written_all (pairs_at l.req l.i)) ≡ length (written_all (pairs_at l.req l.from))) × (sets l.out l.at (written_all (pairs_at l.req l.i)) ≡ sets l.initial.out 0 (written_all (pairs_at l.req l.from)))

abbrev pub decreases-loop-name : goal.decreases-loop-name
decreases-loop-name l = length l.req - l.i
