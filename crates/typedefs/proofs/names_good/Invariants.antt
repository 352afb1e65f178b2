-- `typedefs::names_good` meets its contract. The invariant: all names are good if those from i on are, and only then. The measure is what is left of the length.
use Prim.Native.Nat.{◌-◌, ◌≤◌}
use mathlib.Core.Path.{◌≡◌}
use mathlib.Core.Bool.{true}
use lib.ListN.{length, drop}
use Rattle.format.specs.Bytes.{text, all}
use Rattle.format.specs.Rules.{is_typedef_name}
use Rattle.records.specs.Places.{is_readable}
use Rattle.typedefs.specs.Walks.{names_from, fit_from}
use Rattle.typedefs.proofs.names_good.Given as goal

abbrev pub invariant-loop-value : goal.invariant-loop-value
invariant-loop-value l = (l.i ≤ length l.d) × (is_readable (drop l.i l.d) ≡ true) × (length l.scratch ≡ length l.initial.scratch) × (fit_from (length l.initial.scratch) l.d (text "%typedef") l.i ≡ true) × (all is_typedef_name (names_from l.d 0) ≡ all is_typedef_name (names_from l.d l.i))

abbrev pub decreases-loop-value : goal.decreases-loop-value
decreases-loop-value l = length l.d - l.i
