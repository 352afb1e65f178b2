-- A walk that adds the values of a name: n of them are added, those of the fields from byte i on are to come.
use Rattle.std.specs.Prelude.{Option as Maybe, Some, None}
use Prim.Native.Nat.{ℕ, ◌+◌, ◌-◌, ◌*◌, ◌≤◌, ◌<◌}
use native.Mathlib.Nat.{add-zero, zero-add}
use native.Mathlib.Omega.{arith}
use mathlib.Core.Path.{◌≡◌, refl, sym, ap, ◌∙◌, subst}
use mathlib.Core.Bool.{true}
use mathlib.Core.List.{List, [], ◌∷◌}
use mathlib.Core.Option.{Option, none, some, map}
use lib.IntN.{ℤ, pos, nat_abs, ◌+ℤ◌, +ℤ_idl, +ℤ_idr, +ℤ_assoc}
use lib.ListN.{length, take, drop}
use mir.Syntax.{w64}
use mir.Val.{to_z, of_z}
use Rattle.format.specs.Bytes.{Bytes}
use Rattle.format.specs.Lists.{onward}
use Rattle.format.specs.Limits.{file_bytes}
use Rattle.format.specs.Numbering.{every}
use Rattle.lines.proofs.Cuts.{rest}
use Rattle.values.specs.Value.{value_from}
use Rattle.records.specs.Places.{is_readable}
use Rattle.records.specs.Named.{values_from, ValueHere}
use Rattle.totals.specs.Totals.{millionths_of, sum_of}
use Rattle.totals.specs.Figures.{counted}
use Rattle.totals.specs.Adding.{Sum, summed, added}
use Rattle.totals.proofs.Digits.{value-small}
use Rattle.totals.proofs.Fitting.{abs-add}
use Rattle.totals.proofs.Bits.{seen-is}

-- what has been added, and values that are to come
abbrev pub added_to : ℤ → ℕ → Option (List ℤ) → Option Sum
added_to z n none = none
added_to z n (some zs) = some (record { millionths = z +ℤ sum_of zs; number = n + length zs })

from_zero : (x : Option (List ℤ)) → added_to (pos 0) 0 x ≡ summed x
from_zero none = refl
from_zero (some zs) = λ i. some (record { millionths = +ℤ_idl (sum_of zs) i; number = zero-add (length zs) i })

one_more : (z y : ℤ) (n : ℕ) (x : Option (List ℤ)) → added_to z n (map (λ (ys : List ℤ). y ∷ ys) x) ≡ added_to (z +ℤ y) (n + 1) x
one_more z y n none = refl
one_more z y n (some zs) =
    let e : n + length (y ∷ zs) ≡ n + 1 + length zs = omega arith in
    (λ i. some (record { millionths = sym (+ℤ_assoc z y (sum_of zs)) i; number = e i }))

pub record Adds (name s : Bytes) (z : ℤ) (n i : ℕ) : Type 0 where
  pub inside : i ≤ length s
  pub readable : is_readable (drop i s) ≡ true
  pub few : n ≤ i
  pub small : nat_abs z ≤ n * 100000000000000
  pub all : summed (every millionths_of (values_from s name 0)) ≡ added_to z n (every millionths_of (values_from s name i))

pub adds-start : (name s : Bytes) → is_readable s ≡ true → Adds name s (pos 0) 0 0
adds-start name s e = record { inside = omega arith; readable = e; few = omega arith; small = omega arith; all = sym (from_zero (every millionths_of (values_from s name 0))) }

module _ (name s : Bytes) (z : ℤ) (n i : ℕ) (a : Adds name s z n i) where
  pub adds_fit : length s ≤ file_bytes → nat_abs z < 9223372036854775808
  adds_fit h = omega (arith, h, a.inside, a.few, a.small)

  pub adds-end : values_from s name i ≡ [] → added (Some (record { millionths = z; number = n })) ≡ summed (every millionths_of (values_from s name 0))
  adds-end e = sym (a.all ∙ ap (λ (vs : List Bytes). added_to z n (every millionths_of vs)) e ∙ (λ i. some (record { millionths = +ℤ_idr z i; number = add-zero n i })))

  module _ (v e : ℕ) (f : ValueHere s name i v e) where
    -- by what the next value adds
    next-adds : (x : Option ℤ) → millionths_of (value_from (drop v s)) ≡ x
        → summed (every millionths_of (values_from s name 0)) ≡ added_to z n (onward (λ (y : ℤ). map (λ (ys : List ℤ). y ∷ ys) (every millionths_of (values_from s name e))) x)
    next-adds x h =
        a.all
        ∙ ap (λ (vs : List Bytes). added_to z n (every millionths_of vs)) f.values
        ∙ ap (λ (o : Option ℤ). added_to z n (onward (λ (y : ℤ). map (λ (ys : List ℤ). y ∷ ys) (every millionths_of (values_from s name e))) o)) (ap millionths_of (sym f.ends-itself) ∙ h)

    -- it does not count
    pub adds-not : millionths_of (value_from (drop v s)) ≡ none → added None ≡ summed (every millionths_of (values_from s name 0))
    adds-not h = sym (next-adds none h)

    -- it counts; numbers as the machine has them
    module _ (y : ℤ) (h : millionths_of (value_from (drop v s)) ≡ some y) (short : length s ≤ file_bytes) where
      value-below : nat_abs y < 100000000000000
      value-below = (value-small (value_from (drop v s)) y h).0

      value-seen : to_z w64 (of_z w64 y) ≡ y
      value-seen = seen-is y (omega (arith, value-below))

      one-fits : nat_abs z + nat_abs y < 9223372036854775808
      one-fits = omega (arith, short, a.few, a.small, f.moves, f.inside, value-below)

      pub more-fits : nat_abs z + nat_abs (to_z w64 (of_z w64 y)) < 9223372036854775808
      more-fits = omega (arith, one-fits, ap nat_abs value-seen)

      one-added : Adds name s (z +ℤ y) (n + 1) e
      one-added = record {
        inside = f.inside;
        readable = f.readable;
        few = omega (arith, a.few, f.moves);
        small = omega (arith, a.small, abs-add z y, value-below);
        all = next-adds (some y) h ∙ one_more z y n (every millionths_of (values_from s name e));
      }

      pub adds-more : (r : ℤ) → r ≡ z +ℤ to_z w64 (of_z w64 y) → Adds name s (to_z w64 (of_z w64 r)) (n + 1) e
      adds-more r q =
          let is : r ≡ z +ℤ y = q ∙ ap (λ (x : ℤ). z +ℤ x) value-seen in
          let seen : to_z w64 (of_z w64 r) ≡ z +ℤ y = seen-is r (omega (arith, one-fits, abs-add z y, ap nat_abs is)) ∙ is in
          subst (λ (x : ℤ). Adds name s x (n + 1) e) (sym seen) one-added

-- what is told of a value where it stands
pub value-counted : (s : Bytes) (v : ℕ) (x : Maybe ℤ) {y : Maybe ℤ} → counted x ≡ millionths_of (value_from (take (length s - v) (drop v s))) → x ≡ y → millionths_of (value_from (drop v s)) ≡ counted y
value-counted s v x h e = sym (sym (ap counted e) ∙ h ∙ ap (λ (t : Bytes). millionths_of (value_from t)) (rest s v))
