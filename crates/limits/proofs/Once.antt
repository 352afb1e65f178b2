-- A `%` name and the number of `%rec` fields, field by field.
use Prim.Native.Nat.{ℕ, ◌+◌}
use native.Mathlib.Omega.{arith}
use mathlib.Core.Path.{◌≡◌, refl, sym, ap}
use mathlib.Core.Bool.{Bool, true, false, ◌||◌, not, or_assoc}
use mathlib.Core.List.{[], ◌∷◌}
use lib.Dec.{eqb}
use lib.ListN.{length}
use Rattle.format.specs.Lines.{is_special}
use Rattle.format.specs.Bytes.{text, pick, same, any}
use Rattle.format.specs.Records.{Field, Record}
use Rattle.format.specs.Sets.{values_of}
use Rattle.format.specs.Questions.{has_rec_once}
use Rattle.limits.proofs.Tallies.{values_one}

-- special: a `%` name stands before these fields; n: so many `%rec` do
unfoldable pub once_from : Bool → ℕ → Record → Bool
once_from special n r = not (special || any (λ (f : Field). is_special f.name) r) || eqb (n + length (values_of (text "%rec") r)) 1

pub once-start : (r : Record) → has_rec_once r ≡ once_from false 0 r
unfolding once_from
once-start r = let e : length (values_of (text "%rec") r) ≡ 0 + length (values_of (text "%rec") r) = omega arith in ap (λ (k : ℕ). not (any (λ (f : Field). is_special f.name) r) || eqb k 1) e

pub once-end : (special : Bool) (n : ℕ) → once_from special n [] ≡ pick special (eqb n 1) true
unfolding once_from
once-end true n = let e : n + 0 ≡ n = omega arith in ap (λ (k : ℕ). eqb k 1) e
once-end false n = refl

pub once-on : (special : Bool) (n : ℕ) (f : Field) (fs : Record) → once_from special n (f ∷ fs) ≡ once_from (special || is_special f.name) (n + pick (same (text "%rec") f.name) 1 0) fs
unfolding once_from
once-on special n f fs =
    let here : Bool = is_special f.name in
    let later : Bool = any (λ (g : Field). is_special g.name) fs in
    let k : n + length (values_of (text "%rec") (f ∷ fs)) ≡ (n + pick (same (text "%rec") f.name) 1 0) + length (values_of (text "%rec") fs) = omega (arith, values_one (same (text "%rec") f.name) f.value (values_of (text "%rec") fs)) in
    λ i. not (sym (or_assoc special here later) i) || eqb (k i) 1
