-- `selection::fields::named` meets its contract. The invariant: of the comparisons below k those are marked that have the name.
use Prim.Native.Nat.{ℕ}
use Rattle.format.specs.Bytes.{same}
use Rattle.selection.specs.Rows.{name_at}
use Rattle.selection.proofs.Marking.{Marked}
use Rattle.selection.proofs.fields.named.Given as goal

abbrev pub invariant-loop-k : goal.invariant-loop-k
invariant-loop-k l = Marked (λ (j : ℕ). same (name_at l.e l.p.rows j) l.name) l.k l.set
