-- Signed numbers of 64 bits: what the machine's operations make of them, where the results fit.
use Prim.Native.Nat.{ℕ, zero, suc, ◌+◌, ◌<◌}
use native.Mathlib.Omega.{arith}
use mathlib.Core.Path.{◌≡◌, refl, sym, ap, ◌∙◌, subst}
use mathlib.Core.Bool.{Bool, true, false, false≢true}
use mathlib.Core.Option.{Option, some}
use lib.Dec.{T}
use borrow.Author.Tests.{ltb-true, le-ltb}
use lib.IntN.{ℤ, pos, negsuc, neg_ℤ, nat_abs, ◌+ℤ◌, ◌-ℤ◌, +ℤ_idl}
use lib.Signed.{mag, lt_z, non_neg}
use mir.Syntax.{w64}
use mir.Val.{Fits, SFits, to_z, of_z}
use mir.Facts.{to_z-of_z}
use Rattle.totals.specs.Totals.{signed, rounded, is_below0, hundredths_of}
use Rattle.totals.proofs.Digits.{abs-signed}
use Rattle.totals.proofs.Fitting.{abs-add}

abbrev pub Held : ℤ → Type 0
Held z = nat_abs z < 9223372036854775808

mag-abs : (z : ℤ) → Held z → mag z < 9223372036854775808
mag-abs (pos n) h = h
mag-abs (negsuc n) h = omega arith

pub held_fits : (z : ℤ) → Held z → SFits w64 z
held_fits z h = record { sfits = mag-abs z h }

-- a number as the machine has it
abbrev seen : ℤ → ℤ
seen z = to_z w64 (of_z w64 z)

pub seen-is : (z : ℤ) → Held z → to_z w64 (of_z w64 z) ≡ z
seen-is z h = to_z-of_z (held_fits z h)

pub seen-held : (z : ℤ) → Held z → Held (to_z w64 (of_z w64 z))
seen-held z h = omega (arith, h, ap nat_abs (seen-is z h))

-- a sum
module _ (a b : ℤ) (h : nat_abs a + nat_abs b < 9223372036854775808) where
  operands : to_z w64 (of_z w64 a) +ℤ to_z w64 (of_z w64 b) ≡ a +ℤ b
  operands = λ i. seen-is a (omega arith) i +ℤ seen-is b (omega arith) i

  sum-held : Held (a +ℤ b)
  sum-held = omega (arith, abs-add a b)

  pub sum_fits : SFits w64 (to_z w64 (of_z w64 a) +ℤ to_z w64 (of_z w64 b))
  sum_fits = subst (SFits w64) (sym operands) (held_fits (a +ℤ b) sum-held)

  pub sum_is : to_z w64 (of_z w64 (to_z w64 (of_z w64 a) +ℤ to_z w64 (of_z w64 b))) ≡ a +ℤ b
  sum_is = ap seen operands ∙ seen-is (a +ℤ b) sum-held

-- a number with the other sign
abs_neg : (z : ℤ) → nat_abs (neg_ℤ z) ≡ nat_abs z
abs_neg (pos zero) = refl
abs_neg (pos (suc n)) = refl
abs_neg (negsuc n) = refl

module _ (z : ℤ) (h : Held z) where
  from_zero : pos 0 -ℤ to_z w64 (of_z w64 z) ≡ neg_ℤ z
  from_zero = ap (λ (x : ℤ). pos 0 -ℤ x) (seen-is z h) ∙ +ℤ_idl (neg_ℤ z)

  turned-held : Held (neg_ℤ z)
  turned-held = omega (arith, abs_neg z)

  pub turned-fits : SFits w64 (pos 0 -ℤ to_z w64 (of_z w64 z))
  turned-fits = subst (SFits w64) (sym from_zero) (held_fits (neg_ℤ z) turned-held)

  pub turned-is : to_z w64 (of_z w64 (pos 0 -ℤ to_z w64 (of_z w64 z))) ≡ neg_ℤ z
  turned-is = ap seen from_zero ∙ seen-is (neg_ℤ z) turned-held

  -- its magnitude
  abbrev Casts : ℤ → Type 0
  Casts x = T (non_neg x) × Fits w64 (nat_abs x)

  casts : (x : ℤ) → nat_abs x ≡ nat_abs z → non_neg x ≡ true → Casts x
  casts x e p = (subst T (sym p) tt, record { fits = omega (arith, e, h) })

  below : (x : ℤ) → lt_z x (pos 0) ≡ true → non_neg (neg_ℤ x) ≡ true
  below (pos n) e = absurd (omega (arith, ltb-true n 0 e))
  below (negsuc n) e = refl

  above : (x : ℤ) → lt_z x (pos 0) ≡ false → non_neg x ≡ true
  above (pos n) e = refl
  above (negsuc n) e = absurd (false≢true (sym e))

  pub cast-turned : lt_z (to_z w64 (of_z w64 z)) (pos 0) ≡ true → T (non_neg (to_z w64 (of_z w64 (pos 0 -ℤ to_z w64 (of_z w64 z))))) × Fits w64 (nat_abs (to_z w64 (of_z w64 (pos 0 -ℤ to_z w64 (of_z w64 z)))))
  cast-turned e = subst Casts (sym turned-is) (casts (neg_ℤ z) (abs_neg z) (below z (ap (λ (x : ℤ). lt_z x (pos 0)) (sym (seen-is z h)) ∙ e)))

  pub turned-abs : nat_abs (to_z w64 (of_z w64 (pos 0 -ℤ to_z w64 (of_z w64 z)))) ≡ nat_abs z
  turned-abs = ap nat_abs turned-is ∙ abs_neg z

  pub cast-seen : lt_z (to_z w64 (of_z w64 z)) (pos 0) ≡ false → T (non_neg (to_z w64 (of_z w64 z))) × Fits w64 (nat_abs (to_z w64 (of_z w64 z)))
  cast-seen e = subst Casts (sym (seen-is z h)) (casts z refl (above z (ap (λ (x : ℤ). lt_z x (pos 0)) (sym (seen-is z h)) ∙ e)))

  pub seen_below : lt_z (to_z w64 (of_z w64 z)) (pos 0) ≡ is_below0 z
  seen_below = ap (λ (x : ℤ). lt_z x (pos 0)) (seen-is z h) ∙ test z
    where
      test : (x : ℤ) → lt_z x (pos 0) ≡ is_below0 x
      test (pos n) = le-ltb n 0 (omega arith)
      test (negsuc n) = refl

-- a number of either sign
pub signed-minus : (b : Bool) (m : ℕ) → m < 9223372036854775808 → b ≡ true → to_z w64 (of_z w64 (pos 0 -ℤ to_z w64 m)) ≡ signed b m
signed-minus b m h e = turned-is (pos m) h ∙ ap (λ (c : Bool). signed c m) (sym e)

pub signed-plus : (b : Bool) (m : ℕ) → m < 9223372036854775808 → b ≡ false → to_z w64 m ≡ signed b m
signed-plus b m h e = seen-is (pos m) h ∙ ap (λ (c : Bool). signed c m) (sym e)

-- hundredths, by the number's sign and magnitude
rounded-below : (n : ℕ) → n < 9223372036854775808 → rounded n < 9223372036854775808
rounded-below n h = omega arith

pub hundredths-held : (z : ℤ) → Held z → Held (hundredths_of z)
unfolding hundredths_of
hundredths-held z h = omega (arith, abs-signed (is_below0 z) (rounded (nat_abs z)), rounded-below (nat_abs z) h)

pub hundredths-is : (z r : ℤ) (m k : ℕ) → Held z → m ≡ nat_abs (to_z w64 (of_z w64 z)) → k ≡ rounded m → r ≡ signed (lt_z (to_z w64 (of_z w64 z)) (pos 0)) k → to_z w64 (of_z w64 r) ≡ hundredths_of z
unfolding hundredths_of
hundredths-is z r m k h e f g =
    let n : k ≡ rounded (nat_abs z) = f ∙ ap rounded (e ∙ ap nat_abs (seen-is z h)) in
    let s : r ≡ hundredths_of z = g ∙ (λ i. signed (seen_below z h i) (n i)) in
    seen-is r (omega (arith, ap nat_abs s, hundredths-held z h)) ∙ s

-- the millionths of a value, by its sign and magnitude
pub signed-value : (n : Bool) (r : ℤ) (x m : ℕ) → (x ≡ m) × (x < 100000000000000) → r ≡ signed n x → ◌≡◌ {A = Option ℤ} (some (to_z w64 (of_z w64 r))) (some (signed n m))
signed-value n r x m (e, h) s =
    let b : Held r = omega (arith, h, ap nat_abs s, abs-signed n x) in
    ap {B = Option ℤ} (λ (z : ℤ). some z) (seen-is r b ∙ s ∙ ap (signed n) e)
