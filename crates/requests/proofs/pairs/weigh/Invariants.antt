-- `requests::pairs::weigh` meets its contract. The invariant: what was summed and the pairs from i on make up the whole sums; the length is at most 3 for each byte passed.
-- The measure is what is left of the request.
use Prim.Native.Nat.{◌+◌, ◌-◌, ◌*◌, ◌≤◌}
use mathlib.Core.Path.{◌≡◌}
use mathlib.Core.Bool.{true}
use lib.ListN.{length}
use Rattle.format.specs.Bytes.{all, is_some}
use Rattle.format.specs.Written.{written_all, is_legal_pair}
use Rattle.requests.specs.Pairs.{pairs_from, pairs_at}
use Rattle.requests.proofs.pairs.weigh.Given as goal

abbrev pub invariant-loop-name : goal.invariant-loop-name
invariant-loop-name l = (l.i ≤ length l.req) × (is_some (pairs_from l.req l.i) ≡ true) × (l.len ≤ 3 * l.i) × (l.count ≤ l.i) × (all is_legal_pair (pairs_at l.req l.from) ≡ all is_legal_pair (pairs_at l.req l.i)) × (l.len + length (written_all (pairs_at l.req l.i)) ≡ length (written_all (pairs_at l.req l.from))) × (l.count + length (pairs_at l.req l.i) ≡ length (pairs_at l.req l.from))

abbrev pub decreases-loop-name : goal.decreases-loop-name
decreases-loop-name l = length l.req - l.i
