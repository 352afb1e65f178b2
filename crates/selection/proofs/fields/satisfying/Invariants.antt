-- `selection::fields::satisfying` meets its contract. The invariant: of the comparisons below k those are marked that are asked and satisfied.
use Prim.Native.Nat.{ℕ}
use mathlib.Core.Bool.{◌&&◌}
use Rattle.terms.specs.Sets.{in_set}
use Rattle.selection.specs.Rows.{satisfies_at}
use Rattle.selection.proofs.Marking.{Marked}
use Rattle.selection.proofs.fields.satisfying.Given as goal

abbrev pub invariant-loop-k : goal.invariant-loop-k
invariant-loop-k l = Marked (λ (j : ℕ). in_set j l.hits && satisfies_at l.e l.p.rows j l.v) l.k l.set
