-- The number of an edit, from the touched record and the fresh fields alone.
use Prim.Native.Nat.{ℕ, zero, suc, ◌≤◌, ◌<◌}
use native.Mathlib.Omega.{arith}
use mathlib.Core.Path.{◌≡◌, refl, ap, ◌∙◌}
use mathlib.Core.List.{List, ◌++◌}
use lib.Dec.{eqb}
use lib.ListN.{length}
use borrow.Author.Tests.{ne_eqb}
use Rattle.format.specs.Bytes.{pick, all}
use Rattle.format.specs.Lists.{nth}
use Rattle.format.specs.Sets.{RecSet}
use Rattle.format.specs.Numbers.{Bounds}
use Rattle.format.specs.Rules.{key}
use Rattle.format.specs.Questions.{first_no, fits_record, limit_rows, rule_rows}
use Rattle.format.specs.Edits.{Edit, in_set}
use Rattle.format.specs.Plain.{set_at}
use Rattle.format.proofs.Judging.{record_no, whole_rows, set_no}
use Rattle.spoiling.specs.Effects.{touched_by, keys_stay_apart, size_stays_met, singular_stay_apart, touched_no, spoiled_no}
use Rattle.spoiling.proofs.Passing.{AllPass, SetPasses}
use Rattle.spoiling.proofs.Touching.{leasts-touched, keys-distinct-after, singular-after, edited-passed, only-edited-set}
use Rattle.spoiling.proofs.Counting.{Applies, size-met-after}

module _ (b : Bounds) (e : Edit) (s : RecSet) (g : SetPasses b s) (few : length (key s.rules) ≤ 1) (h : Applies e s.members) where
  -- of 13, 14 and 30, which ask more than one record
  rest : ℕ
  rest = pick (keys_stay_apart e s) (pick (size_stays_met b e s) (pick (singular_stay_apart e s) 0 30) 14) 13

  number_by : (k : ℕ) → touched_no b e s ≡ k → pick (eqb k 0) (first_no (whole_rows b) (in_set e s)) k ≡ pick (eqb k 0) rest k
  unfolding rest
  number_by zero q = (λ i. pick (keys-distinct-after b e s few g.keys q i) (pick (size-met-after b e s h i) (pick (singular-after e s g.singular i) 0 30) 14) 13)
  number_by (suc k) q = rw (ne_eqb (suc k) 0 (λ z. omega arith))

  pub set-number-after : set_no b (in_set e s) ≡ pick (eqb (touched_no b e s) 0) (pick (keys_stay_apart e s) (pick (size_stays_met b e s) (pick (singular_stay_apart e s) 0 30) 14) 13) (touched_no b e s)
  unfolding set_no rest
  set-number-after =
      ap (λ (k : ℕ). pick (eqb k 0) (first_no (whole_rows b) (in_set e s)) k) (leasts-touched (record_no b s.rules) e s.members g.records)
      ∙ number_by (touched_no b e s) refl

-- Of sets that pass, an edit of set i has the number of what it spoils there.
pub number-spoiled : (b : Bounds) (e : Edit) (i : ℕ) (ss : List RecSet) → AllPass b ss → i < length ss → length (key (set_at i ss).rules) ≤ 1 → Applies e (set_at i ss).members
    → first_no (limit_rows ++ rule_rows b) (nth i (in_set e) ss) ≡ spoiled_no b e (set_at i ss)
unfolding spoiled_no
number-spoiled b e i ss p l few h =
    only-edited-set b e i ss p l
    ∙ ap (λ (n : ℕ). pick (all fits_record (touched_by e (set_at i ss).members)) n 4) (set-number-after b e (set_at i ss) (edited-passed b e i ss p l) few h)
