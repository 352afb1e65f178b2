-- `numbering::adding::add_lists` meets its contract. The invariant: from the fields added so far the words of the lists that are left lead where all lead. The measure is what is left of the descriptor.
use Prim.Native.Nat.{◌-◌, ◌≤◌}
use mathlib.Core.Path.{◌≡◌}
use mathlib.Core.Bool.{true}
use mathlib.Core.List.{List}
use lib.ListN.{length, drop}
use Rattle.format.specs.Bytes.{Bytes}
use Rattle.format.specs.Rules.{auto}
use Rattle.records.specs.Places.{is_readable}
use Rattle.records.specs.Walk.{record_in}
use Rattle.numbering.specs.Adding.{unadded, pair_by, step_all, Seen}
use Rattle.numbering.proofs.Stepping.{Going}
use Rattle.numbering.proofs.Lists.{words_from, ListedFrom}
use Rattle.numbering.proofs.adding.add_lists.Given as goal

abbrev pub invariant-loop-value : goal.invariant-loop-value
invariant-loop-value l = (l.i ≤ length l.d) × (is_readable (drop l.i l.d) ≡ true) × ListedFrom l.d l.i × (length l.scratch ≡ length l.initial.scratch) × (length l.out ≡ length l.initial.out) × ((ns : List Bytes) → Seen (auto (record_in l.d)) ns l.seen → Going (pair_by (auto (record_in l.d)) l.bounds.floors l.bounds.limits) (auto (record_in l.d)) l.out l.sums (words_from l.d l.i) (step_all (pair_by (auto (record_in l.d)) l.bounds.floors l.bounds.limits) (unadded ns) (auto (record_in l.d))))

abbrev pub decreases-loop-value : goal.decreases-loop-value
decreases-loop-value l = length l.d - l.i
