-- What it is for sets to pass 4, 8 to 14 and 30: the limits, and of each set its records, keys, size and singular names.
use Prim.Native.Nat.{ℕ, zero, suc}
use native.Mathlib.Omega.{arith}
use mathlib.Core.Path.{◌≡◌, refl, sym, ap, ◌∙◌}
use mathlib.Core.Bool.{Bool, true, false, ◌&&◌, and-eq-true_iff}
use mathlib.Core.List.{List, [], ◌∷◌, ◌++◌, map}
use lib.Dec.{eqb, leb}
use lib.ListN.{length}
use borrow.Author.Tests.{ne_eqb}
use Rattle.format.specs.Bytes.{pick, all}
use Rattle.format.specs.Lists.{is_filled, filter}
use Rattle.format.specs.Sets.{RecSet}
use Rattle.format.specs.Limits.{descriptors}
use Rattle.format.specs.Numbers.{Bounds, int_bounds}
use Rattle.format.specs.Rules.{distinct}
use Rattle.format.specs.Questions.{Row, first_no, fits_record, fits_rules, fits_limits, keys_of, size_met, singular_met, limit_rows, rule_rows}
use Rattle.format.proofs.Elements.{Each}
use Rattle.format.proofs.Questions.{Yes, first-yes}
use Rattle.format.proofs.Passing.{SetsPass}
use Rattle.format.proofs.Least.{leasts}
use Rattle.format.proofs.Judging.{record_no, set_no, whole_rows, rules-no}

-- all questions that an edit asks of its result
abbrev pub AllPass : Bounds → List RecSet → Type 0
AllPass b ss = first_no (limit_rows ++ rule_rows b) ss ≡ 0

all_yes : {A : Type 0} (rs : List (Row A)) (a : A) → Each (Yes a) rs → first_no rs a ≡ 0
all_yes [] a h = refl
all_yes (r ∷ rs) a h = ap (λ (t : Bool). pick t (first_no rs a) r.number) h.0 ∙ all_yes rs a h.1

-- a file that passes
pub sets-passing : (ss : List RecSet) → SetsPass ss → AllPass int_bounds ss
sets-passing ss h = all_yes (limit_rows ++ rule_rows int_bounds) ss (h.0, h.1.1.1.1)

-- one set: 8 to 12 of its records, 13, 14 and 30
pub record SetPasses (b : Bounds) (s : RecSet) : Type 0 where
  pub records : leasts (map (record_no b s.rules) s.members) ≡ 0
  pub keys : distinct (keys_of s) ≡ true
  pub size : size_met b s ≡ true
  pub singular : singular_met s ≡ true

picked-yes : (t : Bool) (n k : ℕ) → pick t n (suc k) ≡ 0 → (t ≡ true) × (n ≡ 0)
picked-yes true n k e = (refl, e)
picked-yes false n k e = absurd (omega arith)

module _ (b : Bounds) (s : RecSet) where
  passes-by : (k : ℕ) → leasts (map (record_no b s.rules) s.members) ≡ k → pick (eqb k 0) (first_no (whole_rows b) s) k ≡ 0 → SetPasses b s
  passes-by zero e h =
      let y = first-yes (whole_rows b) s refl h in
      record { records = e; keys = y.0; size = y.1.0; singular = y.1.1.0 }
  passes-by (suc k) e h = let z : suc k ≡ 0 = rw (ne_eqb (suc k) 0 (λ q. omega arith)) at h in absurd (omega arith)

  pub number-passes : set_no b s ≡ 0 → SetPasses b s
  unfolding set_no
  number-passes h = passes-by (leasts (map (record_no b s.rules) s.members)) refl h

  pub passes-number : SetPasses b s → set_no b s ≡ 0
  unfolding set_no
  passes-number g = (λ i. pick (eqb (g.records i) 0) (pick (g.keys i) (pick (g.size i) (pick (g.singular i) 0 30) 14) 13) (g.records i))

-- question 4 of one set
abbrev pub set_fits : RecSet → Bool
set_fits s = fits_record s.rules && all fits_record s.members && fits_rules s.rules

abbrev pub with_rules : List RecSet → List RecSet
with_rules ss = filter (λ (s : RecSet). is_filled s.rules) ss

pub record PassingParts (b : Bounds) (ss : List RecSet) : Type 0 where
  pub fits : all set_fits ss ≡ true
  pub few : leb (length (with_rules ss)) descriptors ≡ true
  pub numbers : leasts (map (set_no b) ss) ≡ 0

pub parts-of-passing : (b : Bounds) (ss : List RecSet) → AllPass b ss → PassingParts b ss
parts-of-passing b ss h =
    let k = picked-yes (fits_limits ss) (first_no (rule_rows b) ss) 3 h in
    let l = (and-eq-true_iff (all set_fits ss) (leb (length (with_rules ss)) descriptors)).0 k.0 in
    record { fits = l.0; few = l.1; numbers = sym (rules-no b ss) ∙ k.1 }

pub passing-of-parts : (b : Bounds) (ss : List RecSet) → PassingParts b ss → AllPass b ss
passing-of-parts b ss p = (λ i. pick ((and-eq-true_iff (all set_fits ss) (leb (length (with_rules ss)) descriptors)).1 (p.fits, p.few) i) ((rules-no b ss ∙ p.numbers) i) 4)
