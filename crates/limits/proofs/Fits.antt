-- The limits of a record, field by field: each field is asked with the number of fields up to it.
use Prim.Native.Nat.{ℕ, ◌+◌, ◌-◌, ◌≤◌}
use native.Mathlib.Omega.{arith}
use mathlib.Core.Path.{◌≡◌, refl, sym, ap, ◌∙◌}
use mathlib.Core.Bool.{Bool, true, false, ◌&&◌, and-eq-true_iff, false≢true}
use mathlib.Core.List.{[], ◌∷◌}
use lib.Dec.{leb}
use lib.ListN.{length}
use borrow.Author.Tests.{le-leb, lt-leb, leb-true, leb-false}
use Rattle.format.specs.Bytes.{Bytes, all}
use Rattle.format.specs.Records.{Field, Record}
use Rattle.format.specs.Limits.{record_fields, name_bytes, value_bytes}
use Rattle.format.specs.Questions.{fits_field, fits_record}
use Rattle.values.specs.Value.{value_from}
use Rattle.values.proofs.Decoding.{value-length}

-- n fields stand before these
unfoldable pub fits_from : ℕ → Record → Bool
fits_from n r = leb (n + length r) record_fields && all fits_field r

pub fits-start : (r : Record) → fits_record r ≡ fits_from 0 r
unfolding fits_from
fits-start r = let e : length r ≡ 0 + length r = omega arith in ap (λ (k : ℕ). leb k record_fields && all fits_field r) e

pub fits-end : (n : ℕ) → n ≤ record_fields → fits_from n [] ≡ true
unfolding fits_from
fits-end n h = let k : n + 0 ≤ record_fields = omega arith in ap (λ (b : Bool). b && true) (le-leb (n + 0) record_fields k)

-- what the first field is asked
abbrev pub fits_here : ℕ → Field → Bool
fits_here n f = leb (n + 1) record_fields && leb (length f.name) name_bytes && leb (length f.value) value_bytes

stops-by : (x a b c rest : Bool) → (a ≡ false → x ≡ false) → (a && b && c) ≡ false → (x && (b && c && rest)) ≡ false
stops-by false a b c rest h e = refl
stops-by true false b c rest h e = absurd (false≢true (sym (h refl)))
stops-by true true false c rest h e = refl
stops-by true true true false rest h e = refl
stops-by true true true true rest h e = absurd (false≢true (sym e))

module _ (n : ℕ) (f : Field) (fs : Record) where
  pub fits_on : fits_here n f ≡ true → (n + 1 ≤ record_fields) × (fits_from n (f ∷ fs) ≡ fits_from (n + 1) fs)
  unfolding fits_from
  fits_on e =
      let a : Bool = leb (n + 1) record_fields in
      let b : Bool = leb (length f.name) name_bytes in
      let c : Bool = leb (length f.value) value_bytes in
      let both = (and-eq-true_iff (a && b) c).0 e in
      let front = (and-eq-true_iff a b).0 both.0 in
      let more : n + length (f ∷ fs) ≡ (n + 1) + length fs = omega arith in
      (leb-true (n + 1) record_fields front.0, λ i. leb (more i) record_fields && (front.1 i && both.1 i && all fits_field fs))

  pub fits-stop : fits_here n f ≡ false → fits_from n (f ∷ fs) ≡ false
  unfolding fits_from
  fits-stop e =
      stops-by (leb (n + length (f ∷ fs)) record_fields) (leb (n + 1) record_fields) (leb (length f.name) name_bytes) (leb (length f.value) value_bytes) (all fits_field fs)
      (λ h. lt-leb (n + length (f ∷ fs)) record_fields (omega (arith, leb-false (n + 1) record_fields h))) e

-- a part within the limit of a value holds one that is
pub value-within : (s : Bytes) → length s ≤ value_bytes → leb (length s) value_bytes ≡ leb (length (value_from s)) value_bytes
value-within s h = le-leb (length s) value_bytes h ∙ sym (le-leb (length (value_from s)) value_bytes (omega (arith, value-length s)))
