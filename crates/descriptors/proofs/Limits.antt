-- A record that holds the limits: each of its values is short.
use Prim.Native.Nat.{◌≤◌}
use native.Mathlib.Omega.{arith}
use mathlib.Core.Path.{◌≡◌, refl}
use mathlib.Core.Bool.{Bool, true, false, and-eq-true_iff}
use mathlib.Core.List.{List, [], ◌∷◌}
use borrow.Author.Tests.{leb-true}
use lib.Dec.{leb}
use lib.ListN.{length, get_or}
use Rattle.format.specs.Bytes.{Bytes, all, same, pick}
use Rattle.format.specs.Limits.{name_bytes, value_bytes, record_fields}
use Rattle.format.specs.Questions.{fits_field, fits_record}
use Rattle.format.specs.Records.{Field, Record}
use Rattle.format.specs.Sets.{values_of}

pub fits-fields : (r : Record) → fits_record r ≡ true → all fits_field r ≡ true
fits-fields r e = ((and-eq-true_iff (leb (length r) record_fields) (all fits_field r)).0 e).1

pub fits-value : (f : Field) → fits_field f ≡ true → length f.value ≤ value_bytes
fits-value f e = leb-true (length f.value) value_bytes ((and-eq-true_iff (leb (length f.name) name_bytes) (leb (length f.value) value_bytes)).0 e).1

-- so are those of one name
abbrev pub is_short : Bytes → Bool
is_short v = leb (length v) value_bytes

all-short-by : (t : Bool) (v : Bytes) (vs : List Bytes) → is_short v ≡ true → all is_short vs ≡ true → all is_short (pick t (v ∷ vs) vs) ≡ true
all-short-by true v vs h k = rw (h, k)
all-short-by false v vs h k = k

pub values-short : (n : Bytes) (r : Record) → all fits_field r ≡ true → all is_short (values_of n r) ≡ true
values-short n [] e = refl
values-short n (f ∷ fs) e =
    let h = (and-eq-true_iff (fits_field f) (all fits_field fs)).0 e in
    let k = (and-eq-true_iff (leb (length f.name) name_bytes) (leb (length f.value) value_bytes)).0 h.0 in
    all-short-by (same n f.name) f.value (values_of n fs) k.1 (values-short n fs h.1)

short-by : (t : Bool) (v : Bytes) (vs : List Bytes) → length v ≤ value_bytes → length (get_or vs 0 []) ≤ value_bytes → length (get_or (pick t (v ∷ vs) vs) 0 []) ≤ value_bytes
short-by true v vs h k = h
short-by false v vs h k = k

pub first_short : (n : Bytes) (r : Record) → all fits_field r ≡ true → length (get_or (values_of n r) 0 []) ≤ value_bytes
first_short n [] e = omega arith
first_short n (f ∷ fs) e =
    let h = (and-eq-true_iff (fits_field f) (all fits_field fs)).0 e in
    short-by (same n f.name) f.value (values_of n fs) (fits-value f h.0) (first_short n fs h.1)
