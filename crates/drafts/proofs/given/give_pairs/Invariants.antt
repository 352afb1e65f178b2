-- `drafts::given::give_pairs` meets its contract. The invariant: the names passed are given, and those of the pairs from i on are left. The measure is what is left of the request.
use Prim.Native.Nat.{◌-◌, ◌≤◌}
use mathlib.Core.Path.{◌≡◌}
use mathlib.Core.Bool.{true}
use lib.ListN.{length}
use Rattle.format.specs.Bytes.{is_some}
use Rattle.format.specs.Numbering.{pair_names}
use Rattle.requests.specs.Pairs.{pairs_from, pairs_at}
use Rattle.drafts.proofs.Giving.{Going}
use Rattle.drafts.proofs.given.give_pairs.Given as goal

abbrev pub invariant-loop-name : goal.invariant-loop-name
invariant-loop-name l = (l.i ≤ length l.req) × (is_some (pairs_from l.req l.i) ≡ true) × Going l.d l.l (pair_names (pairs_at l.req l.from)) l.set l.given (pair_names (pairs_at l.req l.i))

abbrev pub decreases-loop-name : goal.decreases-loop-name
decreases-loop-name l = length l.req - l.i
