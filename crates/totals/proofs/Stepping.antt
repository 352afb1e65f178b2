-- One byte more of a value, case by case: what the code's tests say of it.
use Prim.Native.Nat.{ℕ, suc, ◌+◌, ◌-◌, ◌*◌, ◌^◌, ◌≤◌, ◌<◌}
use native.Mathlib.Nat.{pow-succ', pow-le-pow_right}
use native.Mathlib.Omega.{arith}
use mathlib.Core.Path.{◌≡◌, refl, sym, ap, ◌∙◌, subst}
use mathlib.Core.Bool.{Bool, true, false}
use lib.Dec.{ltb, eqb}
use lib.ListN.{replicate}
use borrow.Author.Tests.{lt-ltb, le-ltb, eq-eqb, ne_eqb}
use Rattle.format.specs.Bytes.{pick}
use Rattle.format.specs.Words.{is_gap}
use Rattle.format.specs.Numbers.{digit, is_digit_of, numeral}
use Rattle.totals.specs.Totals.{whole_digits, fraction_digits}
use Rattle.totals.specs.Figures.{begun, stepped, filled_from}
use Rattle.totals.specs.declared.figures.Figure.{Figure}

-- a digit is below 10, any other byte's number is not
module _ (b d : ℕ) (e : d ≡ digit b) where
  is_digit : d < 10 → is_digit_of 10 b ≡ true
  is_digit h = lt-ltb (digit b) 10 (subst (λ (x : ℕ). x < 10) e h)

  no_digit : 10 ≤ d → is_digit_of 10 b ≡ false
  no_digit h = le-ltb (digit b) 10 (subst (λ (x : ℕ). 10 ≤ x) e h)

  pub begun-yes : (n : Bool) → d < 10 → Figure.Whole n 1 d ≡ begun n b
  unfolding begun
  begun-yes n h = (λ i. Figure.Whole n 1 (e i)) ∙ sym (ap (λ (t : Bool). pick t (Figure.Whole n 1 (digit b)) Figure.Fault) (is_digit h))

  pub begun-not : (n : Bool) → 10 ≤ d → Figure.Fault ≡ begun n b
  unfolding begun
  begun-not n h = sym (ap (λ (t : Bool). pick t (Figure.Whole n 1 (digit b)) Figure.Fault) (no_digit h))

  module _ (n : Bool) (k m : ℕ) where
    abbrev grown : Figure
    grown = Figure.Whole n (k + 1) (m * 10 + digit b)

    -- by the tests in their order
    whole_by : (t u v w : Bool) → is_digit_of 10 b ≡ t → ltb k whole_digits ≡ u → eqb b 46 ≡ v → is_gap b ≡ w
        → pick t (pick u (Figure.Whole n (k + 1) (m * 10 + digit b)) Figure.Fault) (pick v (Figure.Dot n m) (pick w (Figure.Behind n 0 m) Figure.Fault)) ≡ stepped (Figure.Whole n k m) b
    unfolding stepped
    whole_by t u v w p q r s = λ i. pick (sym p i) (pick (sym q i) grown Figure.Fault) (pick (sym r i) (Figure.Dot n m) (pick (sym s i) (Figure.Behind n 0 m) Figure.Fault))

    pub whole-digit : d < 10 → k < whole_digits → Figure.Whole n (k + 1) (m * 10 + d) ≡ stepped (Figure.Whole n k m) b
    whole-digit h l = (λ i. Figure.Whole n (k + 1) (m * 10 + e i)) ∙ whole_by true true (eqb b 46) (is_gap b) (is_digit h) (lt-ltb k whole_digits l) refl refl

    pub whole-many : d < 10 → whole_digits ≤ k → Figure.Fault ≡ stepped (Figure.Whole n k m) b
    whole-many h l = whole_by true false (eqb b 46) (is_gap b) (is_digit h) (le-ltb k whole_digits l) refl refl

    pub whole-dot : 10 ≤ d → b ≡ 46 → Figure.Dot n m ≡ stepped (Figure.Whole n k m) b
    whole-dot h l = whole_by false (ltb k whole_digits) true (is_gap b) (no_digit h) refl (eq-eqb b 46 l) refl

    pub whole-gap : 10 ≤ d → (b ≡ 46 → ⊥) → is_gap b ≡ true → Figure.Behind n 0 m ≡ stepped (Figure.Whole n k m) b
    whole-gap h l g = whole_by false (ltb k whole_digits) false true (no_digit h) refl (ne_eqb b 46 l) g

    pub whole-other : 10 ≤ d → (b ≡ 46 → ⊥) → is_gap b ≡ false → Figure.Fault ≡ stepped (Figure.Whole n k m) b
    whole-other h l g = whole_by false (ltb k whole_digits) false false (no_digit h) refl (ne_eqb b 46 l) g

    fraction-by : (t u w : Bool) → is_digit_of 10 b ≡ t → ltb k fraction_digits ≡ u → is_gap b ≡ w
        → pick t (pick u (Figure.Fraction n (k + 1) (m * 10 + digit b)) Figure.Fault) (pick w (Figure.Behind n k m) Figure.Fault) ≡ stepped (Figure.Fraction n k m) b
    unfolding stepped
    fraction-by t u w p q s = λ i. pick (sym p i) (pick (sym q i) (Figure.Fraction n (k + 1) (m * 10 + digit b)) Figure.Fault) (pick (sym s i) (Figure.Behind n k m) Figure.Fault)

    pub fraction-digit : d < 10 → k < fraction_digits → Figure.Fraction n (k + 1) (m * 10 + d) ≡ stepped (Figure.Fraction n k m) b
    fraction-digit h l = (λ i. Figure.Fraction n (k + 1) (m * 10 + e i)) ∙ fraction-by true true (is_gap b) (is_digit h) (lt-ltb k fraction_digits l) refl

    pub fraction-many : d < 10 → fraction_digits ≤ k → Figure.Fault ≡ stepped (Figure.Fraction n k m) b
    fraction-many h l = fraction-by true false (is_gap b) (is_digit h) (le-ltb k fraction_digits l) refl

    pub fraction-gap : 10 ≤ d → is_gap b ≡ true → Figure.Behind n k m ≡ stepped (Figure.Fraction n k m) b
    fraction-gap h g = fraction-by false (ltb k fraction_digits) true (no_digit h) refl g

    pub fraction-other : 10 ≤ d → is_gap b ≡ false → Figure.Fault ≡ stepped (Figure.Fraction n k m) b
    fraction-other h g = fraction-by false (ltb k fraction_digits) false (no_digit h) refl g

  pub dot-digit : (n : Bool) (m : ℕ) → d < 10 → Figure.Fraction n 1 (m * 10 + d) ≡ stepped (Figure.Dot n m) b
  unfolding stepped
  dot-digit n m h = (λ i. Figure.Fraction n 1 (m * 10 + e i)) ∙ sym (ap (λ (t : Bool). pick t (Figure.Fraction n 1 (m * 10 + digit b)) Figure.Fault) (is_digit h))

  pub dot-other : (n : Bool) (m : ℕ) → 10 ≤ d → Figure.Fault ≡ stepped (Figure.Dot n m) b
  unfolding stepped
  dot-other n m h = sym (ap (λ (t : Bool). pick t (Figure.Fraction n 1 (m * 10 + digit b)) Figure.Fault) (no_digit h))

module _ (b : ℕ) where
  pub start-gap : is_gap b ≡ true → Figure.Start ≡ stepped Figure.Start b
  unfolding stepped
  start-gap g = sym (ap (λ (t : Bool). pick t Figure.Start (pick (eqb b 45) Figure.Sign (begun false b))) g)

  pub start-sign : is_gap b ≡ false → b ≡ 45 → Figure.Sign ≡ stepped Figure.Start b
  unfolding stepped
  start-sign g h = λ i. pick (sym g i) Figure.Start (pick (sym (eq-eqb b 45 h) i) Figure.Sign (begun false b))

  pub start-digit : is_gap b ≡ false → (b ≡ 45 → ⊥) → begun false b ≡ stepped Figure.Start b
  unfolding stepped
  start-digit g h = λ i. pick (sym g i) Figure.Start (pick (sym (ne_eqb b 45 h) i) Figure.Sign (begun false b))

  pub sign-digit : begun true b ≡ stepped Figure.Sign b
  unfolding stepped
  sign-digit = refl

  pub behind-gap : (n : Bool) (k m : ℕ) → is_gap b ≡ true → Figure.Behind n k m ≡ stepped (Figure.Behind n k m) b
  unfolding stepped
  behind-gap n k m g = sym (ap (λ (t : Bool). pick t (Figure.Behind n k m) Figure.Fault) g)

  pub behind-other : (n : Bool) (k m : ℕ) → is_gap b ≡ false → Figure.Fault ≡ stepped (Figure.Behind n k m) b
  unfolding stepped
  behind-other n k m g = sym (ap (λ (t : Bool). pick t (Figure.Behind n k m) Figure.Fault) g)

  pub fault-stays : Figure.Fault ≡ stepped Figure.Fault b
  unfolding stepped
  fault-stays = refl

-- there is room for one digit more
pub power_below : (n j m : ℕ) → j ≤ n → m < 10 ^ j → m < 10 ^ n
power_below n j m h l = let p : 10 ^ j ≤ 10 ^ n = pow-le-pow_right (omega arith) h in omega (arith, l, p)

pub grown-below : (j m d : ℕ) → m < 10 ^ j → d < 10 → m * 10 + d < 10 ^ (j + 1)
grown-below j m d h l =
    let e : 10 ^ (j + 1) ≡ 10 * 10 ^ j = ap (λ (x : ℕ). 10 ^ x) (let z : j + 1 ≡ suc j = omega arith in z) ∙ pow-succ' 10 j in
    omega (arith, h, l, e)

-- zeros behind a number, one by one
pub fill_more : (k m : ℕ) → k < fraction_digits → filled_from k m ≡ filled_from (k + 1) (m * 10)
fill_more k m h =
    let e : fraction_digits - k ≡ suc (fraction_digits - (k + 1)) = omega arith in
    let z : m * 10 + 0 ≡ m * 10 = omega arith in
    ap (λ (x : ℕ). numeral 10 m (replicate x 48)) e ∙ ap (λ (x : ℕ). numeral 10 x (replicate (fraction_digits - (k + 1)) 48)) z

pub fill_end : (k m : ℕ) → fraction_digits ≤ k → filled_from k m ≡ m
fill_end k m h = let e : fraction_digits - k ≡ 0 = omega arith in ap (λ (x : ℕ). numeral 10 m (replicate x 48)) e

pub fill-below : (k m : ℕ) → m < 10 ^ (whole_digits + k) → m * 10 < 10 ^ (whole_digits + (k + 1))
fill-below k m h =
    let e : 10 ^ (whole_digits + (k + 1)) ≡ 10 * 10 ^ (whole_digits + k) = ap (λ (x : ℕ). 10 ^ x) (let z : whole_digits + (k + 1) ≡ suc (whole_digits + k) = omega arith in z) ∙ pow-succ' 10 (whole_digits + k) in
    omega (arith, h, e)
