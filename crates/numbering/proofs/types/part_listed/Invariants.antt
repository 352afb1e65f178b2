-- `numbering::types::part_listed` meets its contract. The invariant: some part is listed if one of the rest is, and only then. The measure is the rest.
use Prim.Native.Nat.{◌≤◌}
use mathlib.Core.Path.{◌≡◌}
use lib.ListN.{length}
use Rattle.format.specs.Bytes.{Bytes, any, among}
use Rattle.format.specs.Words.{split}
use Rattle.format.specs.Rules.{auto}
use Rattle.records.specs.Walk.{record_in}
use Rattle.numbering.proofs.types.part_listed.Given as goal

abbrev pub invariant-loop-rest : goal.invariant-loop-rest
invariant-loop-rest l = (length l.rest ≤ length l.s) × (any (λ (n : Bytes). among n (auto (record_in l.d))) (split 44 l.s) ≡ any (λ (n : Bytes). among n (auto (record_in l.d))) (split 44 l.rest))

abbrev pub decreases-loop-rest : goal.decreases-loop-rest
decreases-loop-rest l = length l.rest
