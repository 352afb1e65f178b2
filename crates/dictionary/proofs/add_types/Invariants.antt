-- `dictionary::add_types` meets its contract. The invariant: what is left are the names of the fields from a row on. The measure is what is left of the text.
use Prim.Native.Nat.{◌-◌, ◌≤◌}
use mathlib.Core.Path.{◌≡◌}
use lib.ListN.{length, drop}
use Rattle.format.specs.Bytes.{text}
use Rattle.records.specs.Named.{values_from}
use Rattle.terms.specs.Adding.{Adding}
use Rattle.dictionary.specs.Terms.{row_terms}
use Rattle.typedefs.proofs.Placing.{Passed}
use Rattle.dictionary.proofs.add_types.Given as goal

abbrev pub invariant-loop-value : goal.invariant-loop-value
invariant-loop-value l = (l.from ≤ l.row) × (l.row ≤ length (values_from l.d (text "%type") 0)) × Passed l.d (text "%type") l.row l.i × (l.k ≤ length l.entries) × (length l.entries ≡ length l.initial.entries) × (l.row ≡ l.from → l.k ≡ l.n) × Adding l.d l.initial.entries l.n (row_terms l.from (drop l.from (values_from l.d (text "%type") 0))) (row_terms l.row (drop l.row (values_from l.d (text "%type") 0))) l.entries l.k

abbrev pub decreases-loop-value : goal.decreases-loop-value
decreases-loop-value l = length l.d - l.i
