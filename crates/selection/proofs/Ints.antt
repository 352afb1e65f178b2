-- How an int is spelt: a digit or `-` first, and behind it only bytes of names; with small laws of tests.
use Prim.Native.Nat.{ℕ, ◌≤◌, ◌<◌}
use native.Mathlib.Omega.{arith}
use mathlib.Core.Path.{◌≡◌, refl, sym, ap, subst, ◌∙◌}
use mathlib.Core.Bool.{Bool, true, false, ◌&&◌, ◌||◌, and-eq-true_iff}
use mathlib.Core.List.{[], ◌∷◌}
use mathlib.Core.Option.{Option, none, some}
use lib.Dec.{T, eqb, leb}
use borrow.Author.Tests.{eqb-true, ltb-true, leb-true, le-leb, lt-leb, ne_eqb}
use Rattle.format.specs.Bytes.{Bytes, pick, within, is_letter, is_digit, all}
use Rattle.format.specs.Lists.{only_if, onward}
use Rattle.format.specs.Lines.{is_first, is_later}
use Rattle.format.specs.Numbers.{Int, plus, minus, int_bounds, digit, is_digit_of, numeral, are_digits, natural, unsigned, int_of}
use Rattle.selection.specs.Reading.{is_int_first}

-- tests

or_left : (a b : Bool) → a ≡ true → a || b ≡ true
or_left a b e = ap (λ (t : Bool). t || b) e

or_right : (a b : Bool) → b ≡ true → a || b ≡ true
or_right true b e = refl
or_right false b e = e

pub or-either : {P : Type 0} (a b : Bool) → a || b ≡ true → (a ≡ true → P) → (b ≡ true → P) → P
or-either true b e h k = h refl
or-either false b e h k = k e

or-false : (a b : Bool) → a ≡ false → b ≡ false → a || b ≡ false
or-false a b e k = ap (λ (t : Bool). t || b) e ∙ k

pub no_truth : true ≡ false → ⊥
no_truth e = subst T e tt

-- what holds of both answers holds of the one that is picked
pub pick-either : {A : Type 0} (P : A → Type 0) (b : Bool) (x y : A) → (b ≡ true → P x) → (b ≡ false → P y) → P (pick b x y)
pick-either P true x y h k = h refl
pick-either P false x y h k = k refl

pub pick_true : {A : Type 0} (b : Bool) (x y : A) → b ≡ true → pick b x y ≡ x
pick_true b x y e = ap (λ (t : Bool). pick t x y) e

pub pick-false : {A : Type 0} (b : Bool) (x y : A) → b ≡ false → pick b x y ≡ y
pick-false b x y e = ap (λ (t : Bool). pick t x y) e

-- two bytes that a test tells apart
pub another-byte : (r : ℕ → Bool) (c d : ℕ) → r c ≡ true → r d ≡ false → eqb d c ≡ false
another-byte r c d e k = ne_eqb d c (λ q. no_truth (sym e ∙ ap r (sym q) ∙ k))

-- digits

digit-later : (c : ℕ) → is_digit c ≡ true → is_later c ≡ true
digit-later c e = or_left (is_letter c || is_digit c) (eqb c 95) (or_right (is_letter c) (is_digit c) e)

within-le : (a b c : ℕ) → within a b c ≡ true → (a ≤ c) × (c ≤ b)
within-le a b c e = let k = (and-eq-true_iff (leb a c) (leb c b)).0 e in (leb-true a c k.0, leb-true c b k.1)

letter-later : (c : ℕ) → is_letter c ≡ true → is_later c ≡ true
letter-later c e = or_left (is_letter c || is_digit c) (eqb c 95) (or_left (is_letter c) (is_digit c) e)

le-within : (a b c : ℕ) → a ≤ c → c ≤ b → within a b c ≡ true
le-within a b c h k = (and-eq-true_iff (leb a c) (leb c b)).1 (le-leb a c h, le-leb c b k)

base-later : (base : ℕ) → base ≤ 16 → (c : ℕ) → is_digit_of base c ≡ true → is_later c ≡ true
base-later base h c e =
    pick-either (λ (d : ℕ). d < base → is_later c ≡ true) (is_digit c) _ _ (λ q l. digit-later c q) (λ q.
    pick-either (λ (d : ℕ). d < base → is_later c ≡ true) (within 65 70 c) _ _ (λ q l. let w = within-le 65 70 c q in letter-later c (or_left (within 65 90 c) (within 97 122 c) (le-within 65 90 c w.0 (omega arith)))) (λ q.
    pick-either (λ (d : ℕ). d < base → is_later c ≡ true) (within 97 102 c) _ _ (λ q l. let w = within-le 97 102 c q in letter-later c (or_right (within 65 90 c) (within 97 122 c) (le-within 97 122 c w.0 (omega arith)))) (λ q l. absurd (omega arith))))
    (ltb-true (digit c) base e)

base-digit : (base : ℕ) → base ≤ 10 → (c : ℕ) → is_digit_of base c ≡ true → is_digit c ≡ true
base-digit base h c e =
    pick-either (λ (d : ℕ). d < base → is_digit c ≡ true) (is_digit c) _ _ (λ q l. q) (λ q.
    pick-either (λ (d : ℕ). d < base → is_digit c ≡ true) (within 65 70 c) _ _ (λ q l. let w = within-le 65 70 c q in absurd (omega arith)) (λ q.
    pick-either (λ (d : ℕ). d < base → is_digit c ≡ true) (within 97 102 c) _ _ (λ q l. let w = within-le 97 102 c q in absurd (omega arith)) (λ q l. absurd (omega arith))))
    (ltb-true (digit c) base e)

all-later : (base : ℕ) → base ≤ 16 → (s : Bytes) → all (is_digit_of base) s ≡ true → all is_later s ≡ true
all-later base h [] e = refl
all-later base h (c ∷ s) e = let k = (and-eq-true_iff (is_digit_of base c) (all (is_digit_of base) s)).0 e in (and-eq-true_iff (is_later c) (all is_later s)).1 (base-later base h c k.0, all-later base h s k.1)

-- a fact that an answer brings with it
abbrev If : {A : Type 0} → Type 0 → Option A → Type 0
If Q none = Unit {0}
If Q (some a) = Q

if-only : {A : Type 0} (Q : Type 0) (b : Bool) (a : A) → (b ≡ true → Q) → If Q (only_if b a)
if-only Q true a h = h refl
if-only Q false a h = tt

if-any : {A : Type 0} (Q : Type 0) (x : Option A) → Q → If Q x
if-any Q none h = tt
if-any Q (some a) h = h

if-onward : {A B : Type 0} (Q : Type 0) (f : A → Option B) (x : Option A) → If Q x → If Q (onward f x)
if-onward Q f none h = tt
if-onward Q f (some a) h = if-any Q (f a) h

-- the bytes of a number without a sign
abbrev Figures : Bytes → Type 0
Figures [] = ⊥
Figures (c ∷ s) = (is_digit c ≡ true) × (all is_later s ≡ true)

figures : (base : ℕ) → base ≤ 10 → (c : ℕ) (s : Bytes) → If (Figures (c ∷ s)) (natural base (c ∷ s))
figures base h c s =
    if-only (Figures (c ∷ s)) (are_digits base (c ∷ s)) (numeral base 0 (c ∷ s)) (λ e. let k = (and-eq-true_iff (is_digit_of base c) (all (is_digit_of base) s)).0 e in
    (base-digit base h c k.0, all-later base (omega arith) s k.1))

figures-hex : (c d : ℕ) (s : Bytes) → c ≡ 48 → d ≡ 120 → If (Figures (c ∷ d ∷ s)) (natural 16 s)
figures-hex c d s p q =
    if-only (Figures (c ∷ d ∷ s)) (are_digits 16 s) (numeral 16 0 s) (λ e. (ap is_digit p, ap (λ (x : ℕ). is_later x && all is_later s) q ∙ hex s e))
  where
    hex : (t : Bytes) → are_digits 16 t ≡ true → all is_later t ≡ true
    hex [] e = refl
    hex (x ∷ t) e = all-later 16 (omega arith) (x ∷ t) e

unsigned-figures : (s : Bytes) → If (Figures s) (unsigned s)
unsigned-figures [] = tt
unsigned-figures (c ∷ []) = pick-either (If (Figures (c ∷ []))) (eqb c 48) _ _ (λ e. figures 8 (omega arith) c []) (λ e. figures 10 (omega arith) c [])
unsigned-figures (c ∷ d ∷ s) =
    pick-either (If (Figures (c ∷ d ∷ s))) (eqb c 48) _ _
    (λ e. pick-either (If (Figures (c ∷ d ∷ s))) (eqb d 120) _ _ (λ q. figures-hex c d s (eqb-true c 48 e) (eqb-true d 120 q)) (λ q. figures 8 (omega arith) c (d ∷ s)))
    (λ e. figures 10 (omega arith) c (d ∷ s))

-- an int
abbrev pub IntBytes : Bytes → Type 0
IntBytes [] = ⊥
IntBytes (c ∷ s) = (is_int_first c ≡ true) × (all is_later s ≡ true)

if-then : {A : Type 0} (P Q : Type 0) (x : Option A) → (P → Q) → If P x → If Q x
if-then P Q none f h = tt
if-then P Q (some a) f h = f h

int-figures : (s : Bytes) → If (IntBytes s) (int_of int_bounds s)
int-figures [] = tt
int-figures (c ∷ s) =
    pick-either (If (IntBytes (c ∷ s))) (eqb c 45) _ _
    (λ e. if-onward (IntBytes (c ∷ s)) (λ (n : ℕ). only_if (leb n int_bounds.least) (minus n)) (unsigned s) (if-then (Figures s) (IntBytes (c ∷ s)) (unsigned s) (λ h. (or_right (is_digit c) (eqb c 45) e, more s h)) (unsigned-figures s)))
    (λ e. if-onward (IntBytes (c ∷ s)) (λ (n : ℕ). only_if (leb n int_bounds.greatest) (plus n)) (unsigned (c ∷ s)) (if-then (Figures (c ∷ s)) (IntBytes (c ∷ s)) (unsigned (c ∷ s)) (λ h. (or_left (is_digit c) (eqb c 45) h.0, h.1)) (unsigned-figures (c ∷ s))))
  where
    more : (t : Bytes) → Figures t → all is_later t ≡ true
    more [] h = absurd h
    more (d ∷ t) h = (and-eq-true_iff (is_later d) (all is_later t)).1 (digit-later d h.0, h.1)

pub int-bytes : (s : Bytes) (z : Int) → int_of int_bounds s ≡ some z → IntBytes s
int-bytes s z e = subst (If (IntBytes s)) e (int-figures s)

-- no name begins as an int does
int-range : (c : ℕ) → is_int_first c ≡ true → (45 ≤ c) × (c ≤ 57)
int-range c e = or-either (is_digit c) (eqb c 45) e (λ k. let w = within-le 48 57 c k in (omega arith, omega arith)) (λ k. let q = eqb-true c 45 k in (omega arith, omega arith))

pub begins-no-name : (c : ℕ) → is_int_first c ≡ true → is_first c ≡ false
begins-no-name c e =
    let r = int-range c e in
    or-false (is_letter c) (eqb c 37)
    (or-false (within 65 90 c) (within 97 122 c) (ap (λ (t : Bool). t && leb c 90) (lt-leb 65 c (omega arith))) (ap (λ (t : Bool). t && leb c 122) (lt-leb 97 c (omega arith))))
    (ne_eqb c 37 (λ q. omega arith))
