-- Question 4 of a file: of its records, of its descriptors, and of their number; and the first of questions 3, 4 and 5 that says no.
use Prim.Native.Nat.{ℕ, ◌≤◌, ◌<◌}
use mathlib.Core.Path.{◌≡◌, ap, ◌∙◌}
use mathlib.Core.Bool.{Bool, true, false, ◌&&◌, ◌||◌, not, and-false}
use mathlib.Core.List.{List}
use borrow.Author.Tests.{le-leb, lt-leb}
use lib.Dec.{leb}
use lib.ListN.{length}
use Rattle.format.specs.Bytes.{Bytes, pick, all}
use Rattle.format.specs.Limits.{descriptors}
use Rattle.format.specs.Pieces.{read_of}
use Rattle.format.specs.Questions.{fits_record, fits_rules}
use Rattle.format.specs.Records.{Record}
use Rattle.format.proofs.Elements.{all_both}
use Rattle.format.proofs.Records.{records}
use Rattle.format.proofs.Walking.{is_head, heads, walk_fits, walk_once}
use Rattle.records.specs.Places.{is_readable}
use Rattle.records.proofs.Rows.{heads-asked}
use Rattle.limits.specs.Bounds.{bounds_no}

module _ (rs : List Record) where
  fits_by : walk_fits rs ≡ ((all fits_record rs && all fits_rules (heads rs)) && leb (length (heads rs)) descriptors)
  fits_by =
      ap (λ (b : Bool). b && leb (length (heads rs)) descriptors)
      (all_both fits_record (λ (r : Record). not (is_head r) || fits_rules r) rs ∙ ap (λ (b : Bool). all fits_record rs && b) (heads-asked fits_rules rs))

  pub past-told : all fits_record rs ≡ false → walk_fits rs ≡ false
  past-told e = fits_by ∙ ap (λ (b : Bool). (b && all fits_rules (heads rs)) && leb (length (heads rs)) descriptors) e

  pub rules-told : all fits_rules (heads rs) ≡ false → walk_fits rs ≡ false
  rules-told e =
      fits_by
      ∙ ap (λ (b : Bool). (all fits_record rs && b) && leb (length (heads rs)) descriptors) e
      ∙ ap (λ (b : Bool). b && leb (length (heads rs)) descriptors) (and-false (all fits_record rs))

  pub many-told : descriptors < length (heads rs) → walk_fits rs ≡ false
  many-told h =
      fits_by ∙ ap (λ (b : Bool). (all fits_record rs && all fits_rules (heads rs)) && b) (lt-leb (length (heads rs)) descriptors h) ∙ and-false (all fits_record rs && all fits_rules (heads rs))

  pub all_told : all fits_record rs ≡ true → all fits_rules (heads rs) ≡ true → length (heads rs) ≤ descriptors → walk_fits rs ≡ true
  all_told e f h = fits_by ∙ (λ i. (e i && f i) && le-leb (length (heads rs)) descriptors h i)

-- questions 3, 4 and 5 say no, one behind the other
module _ (s : Bytes) where
  pub line-no : is_readable s ≡ false → bounds_no s ≡ 3
  unfolding bounds_no
  line-no e = ap (λ (b : Bool). pick b (pick (walk_fits (records (read_of s))) (pick (walk_once (records (read_of s))) 0 5) 4) 3) e

  pub limit-no : is_readable s ≡ true → walk_fits (records (read_of s)) ≡ false → bounds_no s ≡ 4
  unfolding bounds_no
  limit-no e f = λ i. pick (e i) (pick (f i) (pick (walk_once (records (read_of s))) 0 5) 4) 3

  pub rec-no : is_readable s ≡ true → walk_fits (records (read_of s)) ≡ true → walk_once (records (read_of s)) ≡ false → bounds_no s ≡ 5
  unfolding bounds_no
  rec-no e f g = λ i. pick (e i) (pick (f i) (pick (g i) 0 5) 4) 3

  pub none-no : is_readable s ≡ true → walk_fits (records (read_of s)) ≡ true → walk_once (records (read_of s)) ≡ true → bounds_no s ≡ 0
  unfolding bounds_no
  none-no e f g = λ i. pick (e i) (pick (f i) (pick (g i) 0 5) 4) 3
