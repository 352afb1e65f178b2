-- `numbering::adding::add_words` meets its contract. The invariant: from the fields added so far the words that are left lead where all lead. The measure is what is left of the text.
use Prim.Native.Nat.{◌+◌, ◌≤◌}
use mathlib.Core.Path.{◌≡◌}
use mathlib.Core.Bool.{true}
use lib.ListN.{length}
use Rattle.format.specs.Bytes.{Bytes, all, among}
use Rattle.format.specs.Words.{words as words_of}
use Rattle.format.specs.Rules.{auto}
use Rattle.records.specs.Walk.{record_in}
use Rattle.numbering.specs.Adding.{State, pair_by, step_all, Sums}
use Rattle.numbering.proofs.Stepping.{Going}
use Rattle.numbering.proofs.adding.add_words.Given as goal

abbrev pub invariant-loop-start : goal.invariant-loop-start
invariant-loop-start l = (length l.rest ≤ length l.s) × (all (λ (n : Bytes). among n (auto (record_in l.d))) (words_of l.rest) ≡ true) × (length l.out ≡ length l.initial.out) × ((t : State) → Sums (auto (record_in l.d)) t l.initial.out l.initial.sums → t.passed + length (words_of l.s) ≤ 64 → Going (pair_by (auto (record_in l.d)) l.bounds.floors l.bounds.limits) (auto (record_in l.d)) l.out l.sums (words_of l.rest) (step_all (pair_by (auto (record_in l.d)) l.bounds.floors l.bounds.limits) t (words_of l.s)))

abbrev pub decreases-loop-start : goal.decreases-loop-start
decreases-loop-start l = length l.rest
