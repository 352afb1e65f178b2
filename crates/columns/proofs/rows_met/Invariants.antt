-- `columns::rows_met` meets its contract. The invariant: what is left to ask are the rows from k on.
use Prim.Native.Nat.{◌-◌}
use mathlib.Core.Path.{◌≡◌}
use Rattle.columns.specs.Rows.{rows_ask}
use Rattle.columns.proofs.rows_met.Given as goal

abbrev pub invariant-loop-k : goal.invariant-loop-k
invariant-loop-k l = rows_ask l.typed.kinds l.typed.symbols.from l.found l.tags l.v l.typed.symbols.from (l.typed.symbols.next - l.typed.symbols.from) ≡ rows_ask l.typed.kinds l.typed.symbols.from l.found l.tags l.v l.k (l.typed.symbols.next - l.k)
