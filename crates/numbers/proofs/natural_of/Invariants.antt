-- `numbers::natural_of` meets its contract. The invariant: the digits from i on, behind those that stand for m, give the answer, and m is at most the limit.
use mathlib.Core.Path.{◌≡◌}
use Prim.Native.Nat.{◌≤◌}
use lib.ListN.{drop}
use Rattle.format.specs.Numbers.{natural}
use Rattle.numbers.specs.Meaning.{up_to_limit}
use Rattle.numbers.proofs.Reading.{natural_on}
use Rattle.numbers.proofs.natural_of.Given as goal

abbrev pub invariant-loop-b : goal.invariant-loop-b
invariant-loop-b l = (l.m ≤ l.limit) × (up_to_limit l.limit (natural l.base (drop l.from l.s)) ≡ natural_on l.limit l.base l.m (drop l.b-index l.b-items))
