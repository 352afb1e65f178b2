-- What the limits grant of a descriptor: its values fit a scratch.
use Prim.Native.Nat.{ℕ, ◌≤◌}
use native.Mathlib.Omega.{arith}
use mathlib.Core.Path.{◌≡◌, refl}
use mathlib.Core.Bool.{Bool, true, false, and-eq-true_iff}
use mathlib.Core.List.{List, [], ◌∷◌}
use lib.Dec.{leb}
use lib.ListN.{length}
use borrow.Author.Tests.{le-leb}
use Rattle.format.specs.Bytes.{Bytes, all, same, pick}
use Rattle.format.specs.Records.{Field, Record}
use Rattle.format.specs.Sets.{values_of}
use Rattle.format.specs.Limits.{value_bytes}
use Rattle.format.specs.Questions.{fits_field, fits_record}
use Rattle.format.proofs.Elements.{Each, all-each}
use Rattle.descriptors.proofs.Limits.{fits-fields, fits-value}
use Rattle.typedefs.specs.Walks.{fits}

module _ (m : ℕ) (room : value_bytes ≤ m) where
  -- every value of a record that holds its limits fits
  value-short : (f : Field) → fits_field f ≡ true → leb (length f.value) m ≡ true
  value-short f e = le-leb (length f.value) m (omega (arith, fits-value f e))

  keep-fit : (b : Bool) (v : Bytes) (vs : List Bytes) → fits m v ≡ true → all (fits m) vs ≡ true → all (fits m) (pick b (v ∷ vs) vs) ≡ true
  keep-fit true v vs h k = (and-eq-true_iff (fits m v) (all (fits m) vs)).1 (h, k)
  keep-fit false v vs h k = k

  each-fit : (n : Bytes) (r : Record) → Each (λ (f : Field). fits_field f ≡ true) r → all (fits m) (values_of n r) ≡ true
  each-fit n [] h = refl
  each-fit n (f ∷ fs) h = keep-fit (same n f.name) f.value (values_of n fs) (value-short f h.0) (each-fit n fs h.1)

  pub values-fit : (n : Bytes) (r : Record) → fits_record r ≡ true → all (fits m) (values_of n r) ≡ true
  values-fit n r e = each-fit n r (all-each fits_field r (fits-fields r e))
