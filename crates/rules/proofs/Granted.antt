-- What the limits and the forms of a descriptor grant: a key; values that fit a scratch.
use Prim.Native.Nat.{ℕ, suc, ◌≤◌}
use native.Mathlib.Omega.{arith}
use mathlib.Core.Path.{◌≡◌, refl, sym, ap, ◌∙◌}
use mathlib.Core.Bool.{Bool, true, not}
use mathlib.Core.List.{List, [], ◌∷◌}
use lib.Dec.{eqb}
use lib.ListN.{length}
use borrow.Author.Tests.{le-leb, ne_eqb}
use Rattle.format.specs.Lists.{is_filled}
use Rattle.format.specs.Bytes.{Bytes, text, all}
use Rattle.format.specs.Pieces.{read_of}
use Rattle.format.specs.Records.{Field, Record}
use Rattle.format.specs.Sets.{values_of}
use Rattle.format.specs.Limits.{value_bytes}
use Rattle.format.specs.Rules.{key}
use Rattle.format.specs.Questions.{fits_field, fits_record}
use Rattle.format.proofs.Elements.{each_all, each-imp, all-each}
use Rattle.format.proofs.Records.{records}
use Rattle.records.specs.Walk.{record_in}
use Rattle.records.proofs.Cuts.{fields-records}
use Rattle.descriptors.proofs.Limits.{fits-fields, fits-value}
use Rattle.dictionary.specs.Known.{Described}
use Rattle.dictionary.proofs.Typing.{all-shaped}
use Rattle.dictionary.proofs.Counting.{key-length}
use Rattle.rules.specs.Members.{fits_in}
use Rattle.rules.proofs.Walking.{all_join}
use Rattle.rules.specs.Described.{IsRules, AllFit}

pub described-by : (d : Bytes) → IsRules d → length d ≤ 65536 → Described d
described-by d r h = record { reads = r.reads; short = h; fits = r.fits; few = r.few; well = r.well; typed = r.typed }

-- every value of records that hold their limits fits
module _ (m : ℕ) (room : value_bytes ≤ m) where
  fields_fit : (r : Record) → fits_record r ≡ true → all (fits_in m) r ≡ true
  fields_fit r e =
      each_all (fits_in m) r
      (each-imp (λ (f : Field). fits_field f ≡ true) (λ (f : Field). fits_in m f ≡ true) (λ f h. le-leb (length f.value) m (omega (arith, fits-value f h))) r (all-each fits_field r (fits-fields r e)))

  pub values-fit : (s : Bytes) → AllFit (records (read_of s)) → all (fits_in m) (record_in s) ≡ true
  values-fit s h =
      let rs : List Record = records (read_of s) in
      ap (all (fits_in m)) (fields-records (read_of s))
      ∙ all_join (fits_in m) rs
      ∙ each_all (all (fits_in m)) rs (each-imp (λ (r : Record). fits_record r ≡ true) (λ (r : Record). all (fits_in m) r ≡ true) (λ r e. fields_fit r e) rs (all-each fits_record rs h))

module _ (d : Bytes) (h : Described d) where
  abbrev rules : Record
  rules = record_in d

  -- a key is named where there is a field that names it
  filled-by : (ws : List Bytes) → not (eqb (length ws) 0) ≡ is_filled ws
  filled-by [] = refl
  filled-by (w ∷ ws) = ap not (ne_eqb (suc (length ws)) 0 (λ z. omega arith))

  pub key-there : (t : Bool) → t ≡ not (eqb (length (values_of (text "%key") rules)) 0) → t ≡ is_filled (key rules)
  key-there t e = e ∙ ap (λ (n : ℕ). not (eqb n 0)) (sym (key-length rules (all-shaped d h))) ∙ filled-by (key rules)
