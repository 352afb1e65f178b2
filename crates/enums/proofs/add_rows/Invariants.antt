-- `enums::add_rows` meets its contract. The invariant: what is left are the symbols of the rows from a row on.
use Prim.Native.Nat.{◌≤◌}
use mathlib.Core.Path.{◌≡◌}
use lib.ListN.{length}
use Rattle.terms.specs.Adding.{Adding}
use Rattle.enums.specs.Rows.{rows_left}
use Rattle.enums.proofs.add_rows.Given as goal

abbrev pub invariant-loop-row : goal.invariant-loop-row
invariant-loop-row l = (l.n ≤ length l.entries) × (length l.entries ≡ length l.initial.entries) × (l.row ≡ l.from → l.n ≡ 0) × Adding l.d l.initial.entries 0 (rows_left l.d l.texts l.from l.to l.from) (rows_left l.d l.texts l.from l.to l.row) l.entries l.n
