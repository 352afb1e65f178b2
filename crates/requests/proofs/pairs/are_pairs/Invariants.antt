-- `requests::pairs::are_pairs` meets its contract. The invariant: they are pairs if those from i on are. The measure is what is left of the request.
use Rattle.format.specs.Bytes.{is_some}
use Prim.Native.Nat.{◌-◌}
use mathlib.Core.Path.{◌≡◌}
use lib.ListN.{length}
use Rattle.requests.specs.Pairs.{pairs_from}
use Rattle.requests.proofs.pairs.are_pairs.Given as goal

abbrev pub invariant-loop-pair : goal.invariant-loop-pair
invariant-loop-pair l = is_some (pairs_from l.req l.from) ≡ is_some (pairs_from l.req l.i)

abbrev pub decreases-loop-pair : goal.decreases-loop-pair
decreases-loop-pair l = length l.req - l.i
