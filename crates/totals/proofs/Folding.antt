-- Reading a value byte by byte gives its millionths.
use Prim.Native.Nat.{ℕ, suc, ◌+◌, ◌-◌, ◌*◌, ◌^◌, ◌≤◌, ◌<◌}
use native.Mathlib.Nat.{mul_assoc, add-mul, pow-succ'}
use native.Mathlib.Omega.{arith}
use mathlib.Core.Path.{◌≡◌, refl, sym, ap, ◌∙◌, subst}
use mathlib.Core.Bool.{Bool, true, false, ◌&&◌, ◌||◌, not, false≢true}
use mathlib.Core.List.{[], ◌∷◌, ◌++◌, reverse, reverse-append}
use mathlib.Core.Option.{Option, none}
use lib.Dec.{leb, ltb, eqb}
use lib.IntN.{ℤ}
use lib.ListN.{length, replicate, length-append, length-replicate}
use borrow.Author.Tests.{ltb-true, ltb-false, le-leb, lt-leb, leb-true, eqb-true}
use Rattle.format.specs.Bytes.{Bytes, pick, all}
use Rattle.format.specs.Lists.{only_if, onward, is_filled, front, behind}
use Rattle.format.specs.Words.{is_gap, trim}
use Rattle.format.specs.Numbers.{digit, numeral, are_digits, Decimal, not_dot, decimal_by, decimal_in, decimal_of}
use Rattle.totals.specs.Totals.{whole_digits, fraction_digits, counts, signed, filled_up, millionths_in, millionths_of}
use Rattle.totals.specs.Figures.{begun, is_digit, stepped, filled_from, told_by, read_on, Within}
use Rattle.totals.specs.declared.figures.Figure.{Figure}
use Rattle.totals.proofs.Stepping.{power_below, grown-below}

-- a text without the gaps at its end
abbrev untail : Bytes → Bytes
untail [] = []
untail (c ∷ s) = pick (is_gap c && not (is_filled (untail s))) [] (c ∷ untail s)

-- trimming drops the gaps at the front, and those at the end
behind-last : (s : Bytes) (c : ℕ) → behind is_gap (s ++ (c ∷ [])) ≡ pick (is_filled (behind is_gap s)) (behind is_gap s ++ (c ∷ [])) (pick (is_gap c) [] (c ∷ []))
behind-last [] c = refl
behind-last (x ∷ s) c = go (is_gap x) (behind-last s c)
  where
    go : (b : Bool) → behind is_gap (s ++ (c ∷ [])) ≡ pick (is_filled (behind is_gap s)) (behind is_gap s ++ (c ∷ [])) (pick (is_gap c) [] (c ∷ []))
        → pick b (behind is_gap (s ++ (c ∷ []))) (x ∷ (s ++ (c ∷ []))) ≡ pick (is_filled (pick b (behind is_gap s) (x ∷ s))) (pick b (behind is_gap s) (x ∷ s) ++ (c ∷ [])) (pick (is_gap c) [] (c ∷ []))
    go true e = e
    go false e = refl

abbrev strip : Bytes → Bytes
strip s = reverse (behind is_gap (reverse s))

filled-last : (s : Bytes) (c : ℕ) → is_filled (s ++ (c ∷ [])) ≡ true
filled-last [] c = refl
filled-last (x ∷ s) c = refl

both_false : (b : Bool) → (b && false) ≡ false
both_false true = refl
both_false false = refl

untail-by : (c : ℕ) (t u : Bytes) (b : Bool) → reverse t ≡ u → reverse (pick (is_filled t) (t ++ (c ∷ [])) (pick b [] (c ∷ []))) ≡ pick (b && not (is_filled u)) [] (c ∷ u)
untail-by c [] u true e = ap (λ (x : Bytes). pick (not (is_filled x)) [] (c ∷ x)) e
untail-by c [] u false e = ap {B = Bytes} (λ (x : Bytes). c ∷ x) e
untail-by c (x ∷ t) u b e =
    let f : is_filled u ≡ true = ap is_filled (sym e ∙ reverse-append (x ∷ []) t) ∙ filled-last (reverse t) x in
    reverse-append (x ∷ t) (c ∷ []) ∙ ap {B = Bytes} (λ (y : Bytes). c ∷ y) e ∙ sym (ap (λ (z : Bool). pick (b && not z) [] (c ∷ u)) f ∙ ap (λ (z : Bool). pick z [] (c ∷ u)) (both_false b))

strip-untail : (s : Bytes) → strip s ≡ untail s
strip-untail [] = refl
strip-untail (c ∷ s) = ap (λ (t : Bytes). reverse (behind is_gap t)) (reverse-append (c ∷ []) s) ∙ ap reverse (behind-last (reverse s) c) ∙ untail-by c (behind is_gap (reverse s)) (untail s) (is_gap c) (strip-untail s)

trim-untail : (s : Bytes) → trim s ≡ untail (behind is_gap s)
trim-untail s = strip-untail (behind is_gap s)

-- What a text without gaps at its end makes of what has been seen before it.
abbrev whole_means : Bool → ℕ → ℕ → Bytes → Bytes → Option ℤ
whole_means n k m a [] = only_if (all is_digit a && leb (k + length a) whole_digits) (signed n (filled_from 0 (numeral 10 m a)))
whole_means n k m a (c ∷ d) = only_if (all is_digit a && leb (k + length a) whole_digits && (are_digits 10 d && leb (length d) fraction_digits)) (signed n (numeral 10 (numeral 10 m a) (filled_up d)))

abbrev counts_in : Option Decimal → Option ℤ
counts_in x = onward (λ (d : Decimal). only_if (counts d) (millionths_in d)) x

abbrev means : Figure → Bytes → Option ℤ
means Figure.Start t = counts_in (decimal_of t)
means Figure.Sign t = counts_in (decimal_in true t)
means (Figure.Whole n k m) t = whole_means n k m (front not_dot t) (behind not_dot t)
means (Figure.Dot n m) t = only_if (are_digits 10 t && leb (length t) fraction_digits) (signed n (numeral 10 m (filled_up t)))
means (Figure.Fraction n k m) t = only_if (all is_digit t && leb (k + length t) fraction_digits) (signed n (numeral 10 m (t ++ replicate (fraction_digits - (k + length t)) 48)))
means (Figure.Behind n k m) t = only_if (not (is_filled t)) (signed n (filled_from k m))
means Figure.Fault t = none

-- a gap is no digit, dot or sign
pub gap_is : (c : ℕ) → is_gap c ≡ true → (is_digit c ≡ false) × (not_dot c ≡ true) × (eqb c 46 ≡ false)
gap_is c e = go (eqb c 32) refl (eqb c 9) refl (eqb c 10) refl e
  where
    P : ℕ → Type 0
    P x = (is_digit x ≡ false) × (not_dot x ≡ true) × (eqb x 46 ≡ false)

    at : (n : ℕ) → c ≡ n → P n → P c
    at n q h = subst P (sym q) h

    go : (a : Bool) → eqb c 32 ≡ a → (b : Bool) → eqb c 9 ≡ b → (d : Bool) → eqb c 10 ≡ d → (a || b || d) ≡ true → P c
    go true p b q d r e = at 32 (eqb-true c 32 p) (refl, refl, refl)
    go false p true q d r e = at 9 (eqb-true c 9 q) (refl, refl, refl)
    go false p false q true r e = at 10 (eqb-true c 10 r) (refl, refl, refl)
    go false p false q false r e = absurd (false≢true e)

-- at the end
plus-zero : (k : ℕ) → k + 0 ≡ k
plus-zero k = omega arith

end-means : (f : Figure) → Within f → told_by f ≡ means f []
unfolding told_by
end-means Figure.Start h = refl
end-means Figure.Sign h = refl
end-means (Figure.Whole n k m) h = sym (ap (λ (b : Bool). only_if b (signed n (filled_from 0 m))) (le-leb (k + 0) whole_digits (omega (arith, h.0))))
end-means (Figure.Dot n m) h = refl
end-means (Figure.Fraction n k m) h =
    sym ((λ i. only_if (leb (plus-zero k i) fraction_digits) (signed n (numeral 10 m (replicate (fraction_digits - plus-zero k i) 48)))) ∙ ap (λ (b : Bool). only_if b (signed n (filled_from k m))) (le-leb k fraction_digits h.0))
end-means (Figure.Behind n k m) h = refl
end-means Figure.Fault h = refl

-- a gap behind which there is nothing else, once something has been seen
abbrev Seen : Figure → Type 0
Seen Figure.Start = ⊥
Seen Figure.Sign = Unit {0}
Seen (Figure.Whole n k m) = Unit {0}
Seen (Figure.Dot n m) = Unit {0}
Seen (Figure.Fraction n k m) = Unit {0}
Seen (Figure.Behind n k m) = Unit {0}
Seen Figure.Fault = Unit {0}

-- the digits that a value may have stay within their bounds
begun-within : (n : Bool) (c : ℕ) → Within (begun n c)
unfolding begun
begun-within n c = go (is_digit c) refl
  where
    go : (b : Bool) → is_digit c ≡ b → Within (pick b (Figure.Whole n 1 (digit c)) Figure.Fault)
    go true e = (omega arith, omega (arith, ltb-true (digit c) 10 e))
    go false e = tt

pub stepped_within : (f : Figure) (c : ℕ) → Within f → Within (stepped f c)
unfolding stepped
stepped_within Figure.Start c h = start (is_gap c) (eqb c 45)
  where
    start : (a b : Bool) → Within (pick a Figure.Start (pick b Figure.Sign (begun false c)))
    start true b = tt
    start false true = tt
    start false false = begun-within false c
stepped_within Figure.Sign c h = begun-within true c
stepped_within (Figure.Whole n k m) c h = go (is_digit c) refl (ltb k whole_digits) refl (eqb c 46) (is_gap c)
  where
    go : (t : Bool) → is_digit c ≡ t → (u : Bool) → ltb k whole_digits ≡ u → (v w : Bool) → Within (pick t (pick u (Figure.Whole n (k + 1) (m * 10 + digit c)) Figure.Fault) (pick v (Figure.Dot n m) (pick w (Figure.Behind n 0 m) Figure.Fault)))
    go true p true q v w = (omega (arith, ltb-true k whole_digits q), grown-below k m (digit c) h.1 (ltb-true (digit c) 10 p))
    go true p false q v w = tt
    go false p u q true w = power_below 8 k m h.0 h.1
    go false p u q false true = (omega arith, power_below 8 k m h.0 h.1)
    go false p u q false false = tt
stepped_within (Figure.Dot n m) c h = go (is_digit c) refl
  where
    go : (t : Bool) → is_digit c ≡ t → Within (pick t (Figure.Fraction n 1 (m * 10 + digit c)) Figure.Fault)
    go true p = (omega arith, grown-below 8 m (digit c) h (ltb-true (digit c) 10 p))
    go false p = tt
stepped_within (Figure.Fraction n k m) c h = go (is_digit c) refl (ltb k fraction_digits) refl (is_gap c)
  where
    z : whole_digits + (k + 1) ≡ (whole_digits + k) + 1
    z = omega arith

    go : (t : Bool) → is_digit c ≡ t → (u : Bool) → ltb k fraction_digits ≡ u → (w : Bool) → Within (pick t (pick u (Figure.Fraction n (k + 1) (m * 10 + digit c)) Figure.Fault) (pick w (Figure.Behind n k m) Figure.Fault))
    go true p true q w = (omega (arith, ltb-true k fraction_digits q), subst (λ (x : ℕ). m * 10 + digit c < 10 ^ x) (sym z) (grown-below (whole_digits + k) m (digit c) h.1 (ltb-true (digit c) 10 p)))
    go true p false q w = tt
    go false p u q true = h
    go false p u q false = tt
stepped_within (Figure.Behind n k m) c h = go (is_gap c)
  where
    go : (w : Bool) → Within (pick w (Figure.Behind n k m) Figure.Fault)
    go true = h
    go false = tt
stepped_within Figure.Fault c h = tt

-- a gap, where something has been seen
abbrev gapped : Figure → Figure
gapped Figure.Start = Figure.Start
gapped Figure.Sign = Figure.Fault
gapped (Figure.Whole n k m) = Figure.Behind n 0 m
gapped (Figure.Dot n m) = Figure.Fault
gapped (Figure.Fraction n k m) = Figure.Behind n k m
gapped (Figure.Behind n k m) = Figure.Behind n k m
gapped Figure.Fault = Figure.Fault

gap-stepped : (f : Figure) (c : ℕ) → is_gap c ≡ true → stepped f c ≡ gapped f
unfolding stepped begun
gap-stepped Figure.Start c g = ap (λ (b : Bool). pick b Figure.Start (pick (eqb c 45) Figure.Sign (begun false c))) g
gap-stepped Figure.Sign c g = ap (λ (b : Bool). pick b (Figure.Whole true 1 (digit c)) Figure.Fault) (gap_is c g).0
gap-stepped (Figure.Whole n k m) c g =
    λ i. pick ((gap_is c g).0 i) (pick (ltb k whole_digits) (Figure.Whole n (k + 1) (m * 10 + digit c)) Figure.Fault) (pick ((gap_is c g).2 i) (Figure.Dot n m) (pick (g i) (Figure.Behind n 0 m) Figure.Fault))
gap-stepped (Figure.Dot n m) c g = ap (λ (b : Bool). pick b (Figure.Fraction n 1 (m * 10 + digit c)) Figure.Fault) (gap_is c g).0
gap-stepped (Figure.Fraction n k m) c g = λ i. pick ((gap_is c g).0 i) (pick (ltb k fraction_digits) (Figure.Fraction n (k + 1) (m * 10 + digit c)) Figure.Fault) (pick (g i) (Figure.Behind n k m) Figure.Fault)
gap-stepped (Figure.Behind n k m) c g = ap (λ (b : Bool). pick b (Figure.Behind n k m) Figure.Fault) g
gap-stepped Figure.Fault c g = refl

-- at the end it changes nothing
gap_ends : (f : Figure) → Seen f → Within f → means (gapped f) [] ≡ means f []
unfolding told_by
gap_ends Figure.Start s h = absurd s
gap_ends Figure.Sign s h = refl
gap_ends (Figure.Whole n k m) s h = end-means (Figure.Whole n k m) h
gap_ends (Figure.Dot n m) s h = refl
gap_ends (Figure.Fraction n k m) s h = end-means (Figure.Fraction n k m) h
gap_ends (Figure.Behind n k m) s h = refl
gap_ends Figure.Fault s h = refl

-- and before anything else it is a fault
not-whole : (n : Bool) (k m : ℕ) (c : ℕ) (a b : Bytes) → is_digit c ≡ false → whole_means n k m (c ∷ a) b ≡ none
not-whole n k m c a [] e = ap (λ (t : Bool). only_if (t && all is_digit a && leb (k + suc (length a)) whole_digits) (signed n (filled_from 0 (numeral 10 m (c ∷ a))))) e
not-whole n k m c a (x ∷ d) e = ap (λ (t : Bool). only_if (t && all is_digit a && leb (k + suc (length a)) whole_digits && (are_digits 10 d && leb (length d) fraction_digits)) (signed n (numeral 10 (numeral 10 m (c ∷ a)) (filled_up d)))) e

not-decimal : (n : Bool) (c : ℕ) (a b : Bytes) → is_digit c ≡ false → counts_in (decimal_by n (c ∷ a) b) ≡ none
not-decimal n c a [] e = ap (λ (t : Bool). counts_in (only_if (t && all is_digit a) (record { negative = n; whole = c ∷ a; fraction = [] }))) e
not-decimal n c a (x ∷ d) e = ap (λ (t : Bool). counts_in (only_if (t && all is_digit a && are_digits 10 d) (record { negative = n; whole = c ∷ a; fraction = d }))) e

module _ (c : ℕ) (t : Bytes) (dot : not_dot c ≡ true) where
  front-on : front not_dot (c ∷ t) ≡ c ∷ front not_dot t
  front-on = ap (λ (b : Bool). pick b (c ∷ front not_dot t) []) dot

  behind-on : behind not_dot (c ∷ t) ≡ behind not_dot t
  behind-on = ap (λ (b : Bool). pick b (behind not_dot t) (c ∷ t)) dot

gap-inside : (f : Figure) (c : ℕ) (t : Bytes) → Seen f → is_gap c ≡ true → is_filled t ≡ true → means (gapped f) t ≡ means f (c ∷ t)
gap-inside Figure.Start c t s g h = absurd s
gap-inside Figure.Sign c t s g h = let k = gap_is c g in sym ((λ i. counts_in (decimal_by true (front-on c t k.1 i) (behind-on c t k.1 i))) ∙ not-decimal true c (front not_dot t) (behind not_dot t) k.0)
gap-inside (Figure.Whole n k m) c t s g h =
    let q = gap_is c g in
    ap (λ (b : Bool). only_if (not b) (signed n (filled_from 0 m))) h ∙ sym ((λ i. whole_means n k m (front-on c t q.1 i) (behind-on c t q.1 i)) ∙ not-whole n k m c (front not_dot t) (behind not_dot t) q.0)
gap-inside (Figure.Dot n m) c t s g h = sym (ap (λ (b : Bool). only_if (b && all is_digit t && leb (suc (length t)) fraction_digits) (signed n (numeral 10 m (filled_up (c ∷ t))))) (gap_is c g).0)
gap-inside (Figure.Fraction n k m) c t s g h =
    ap (λ (b : Bool). only_if (not b) (signed n (filled_from k m))) h
    ∙ sym (ap (λ (b : Bool). only_if (b && all is_digit t && leb (k + suc (length t)) fraction_digits) (signed n (numeral 10 m ((c ∷ t) ++ replicate (fraction_digits - (k + suc (length t))) 48)))) (gap_is c g).0)
gap-inside (Figure.Behind n k m) c t s g h = ap (λ (b : Bool). only_if (not b) (signed n (filled_from k m))) h
gap-inside Figure.Fault c t s g h = refl

-- Any other byte.

digit-not-dot : (c : ℕ) → is_digit c ≡ true → not_dot c ≡ true
digit-not-dot c e = go (eqb c 46) refl
  where
    go : (b : Bool) → eqb c 46 ≡ b → not b ≡ true
    go true q = absurd (false≢true (ap is_digit (sym (eqb-true c 46 q)) ∙ e))
    go false q = refl

both-no : (a b : Bool) → b ≡ false → (a && b) ≡ false
both-no a b e = ap (λ (x : Bool). a && x) e ∙ both_false a

-- digits behind those of m, and zeros to six
numeral-shift : (m : ℕ) (s : Bytes) → numeral 10 m s ≡ m * 10 ^ length s + numeral 10 0 s
numeral-shift m [] = omega arith
numeral-shift m (c ∷ s) =
    let p : 10 ^ suc (length s) ≡ 10 * 10 ^ length s = pow-succ' 10 (length s) in
    let a : (m * 10 + digit c) * 10 ^ length s ≡ (m * 10) * 10 ^ length s + digit c * 10 ^ length s = add-mul (m * 10) (digit c) (10 ^ length s) in
    let b : (m * 10) * 10 ^ length s ≡ m * 10 ^ suc (length s) = mul_assoc m 10 (10 ^ length s) ∙ ap (λ (x : ℕ). m * x) (sym p) in
    let d : 0 * 10 + digit c ≡ digit c = omega arith in
    omega (arith, numeral-shift (m * 10 + digit c) s, numeral-shift (digit c) s, ap (λ (x : ℕ). numeral 10 x s) d, a, b)

filled-six : (s : Bytes) → length s ≤ fraction_digits → length (filled_up s) ≡ 6
filled-six s h = omega (arith, length-append s (replicate (fraction_digits - length s) 48), length-replicate {A = ℕ} (fraction_digits - length s) 48, h)

in-millionths : (w : ℕ) (s : Bytes) → length s ≤ fraction_digits → w * 1000000 + numeral 10 0 (filled_up s) ≡ numeral 10 w (filled_up s)
in-millionths w s h = sym (numeral-shift w (filled_up s) ∙ ap (λ (x : ℕ). w * 10 ^ x + numeral 10 0 (filled_up s)) (filled-six s h))

-- two tests of a real, and its value where the second says yes
both-tests : (t l : Bool) (d : Decimal) (x : ℤ) → l ≡ counts d → (l ≡ true → x ≡ millionths_in d) → only_if (t && l) x ≡ counts_in (only_if t d)
both-tests true true d x p h = λ i. only_if (p i) (h refl i)
both-tests true false d x p h = ap (λ (b : Bool). only_if b (millionths_in d)) p
both-tests false l d x p h = refl

and-true : (b : Bool) → b ≡ (b && true)
and-true true = refl
and-true false = refl

turned : (a b c d : Bool) → (a && b && (c && d)) ≡ ((a && c) && (b && d))
turned true true c d = refl
turned true false true d = refl
turned true false false d = refl
turned false b c d = refl

second-of : (a b : Bool) → (a && b) ≡ true → b ≡ true
second-of true b e = e
second-of false b e = absurd (false≢true e)

-- the first digit
module _ (n : Bool) (c : ℕ) (a : Bytes) (e : is_digit c ≡ true) where
  begins-with : numeral 10 (digit c) a ≡ numeral 10 0 (c ∷ a)
  begins-with = ap (λ (x : ℕ). numeral 10 x a) (let z : digit c ≡ 0 * 10 + digit c = omega arith in z)

  one_more : leb (1 + length a) whole_digits ≡ leb (suc (length a)) whole_digits
  one_more = ap (λ (x : ℕ). leb x whole_digits) (let z : 1 + length a ≡ suc (length a) = omega arith in z)

  first_plain : whole_means n 1 (digit c) a [] ≡ counts_in (decimal_by n (c ∷ a) [])
  first_plain =
      let d : Decimal = record { negative = n; whole = c ∷ a; fraction = [] } in
      both-tests (all is_digit a) (leb (1 + length a) whole_digits) d (signed n (filled_from 0 (numeral 10 (digit c) a))) (one_more ∙ and-true (leb (suc (length a)) whole_digits))
      (λ q. ap (signed n) (ap (filled_from 0) begins-with ∙ sym (in-millionths (numeral 10 0 (c ∷ a)) [] (omega arith))))
      ∙ sym (ap (λ (b : Bool). counts_in (only_if (b && all is_digit a) d)) e)

  first-dotted : (x : ℕ) (f : Bytes) → whole_means n 1 (digit c) a (x ∷ f) ≡ counts_in (decimal_by n (c ∷ a) (x ∷ f))
  first-dotted x f =
      let d : Decimal = record { negative = n; whole = c ∷ a; fraction = f } in
      let v : ℤ = signed n (numeral 10 (numeral 10 (digit c) a) (filled_up f)) in
      let l : Bool = leb (1 + length a) whole_digits in
      let m : Bool = leb (length f) fraction_digits in
      ap (λ (b : Bool). only_if b v) (turned (all is_digit a) l (are_digits 10 f) m)
      ∙ both-tests (all is_digit a && are_digits 10 f) (l && m) d v (ap (λ (b : Bool). b && m) one_more)
      (λ q. ap (signed n) (ap (λ (w : ℕ). numeral 10 w (filled_up f)) begins-with ∙ sym (in-millionths (numeral 10 0 (c ∷ a)) f (leb-true (length f) fraction_digits (second-of l m q)))))
      ∙ sym (ap (λ (b : Bool). counts_in (only_if (b && all is_digit a && are_digits 10 f) d)) e)

  first-means-at : (b : Bytes) → whole_means n 1 (digit c) a b ≡ counts_in (decimal_by n (c ∷ a) b)
  first-means-at [] = first_plain
  first-means-at (x ∷ f) = first-dotted x f

first-means : (n : Bool) (c : ℕ) (t : Bytes) → means (begun n c) t ≡ counts_in (decimal_in n (c ∷ t))
unfolding begun
first-means n c t = go (is_digit c) refl (not_dot c) refl
  where
    go : (b : Bool) → is_digit c ≡ b → (q : Bool) → not_dot c ≡ q → means (pick b (Figure.Whole n 1 (digit c)) Figure.Fault) t ≡ counts_in (decimal_in n (c ∷ t))
    go true e true d = first-means-at n c (front not_dot t) e (behind not_dot t) ∙ sym (λ i. counts_in (decimal_by n (front-on c t d i) (behind-on c t d i)))
    go true e false d = absurd (false≢true (sym d ∙ digit-not-dot c e))
    go false e true d = sym ((λ i. counts_in (decimal_by n (front-on c t d i) (behind-on c t d i))) ∙ not-decimal n c (front not_dot t) (behind not_dot t) e)
    go false e false d = sym (λ i. counts_in (decimal_by n (pick (d i) (c ∷ front not_dot t) []) (pick (d i) (behind not_dot t) (c ∷ t))))

-- a digit more before the dot, and behind it
whole-grows : (n : Bool) (k m c : ℕ) (a b : Bytes) → is_digit c ≡ true → whole_means n (k + 1) (m * 10 + digit c) a b ≡ whole_means n k m (c ∷ a) b
whole-grows n k m c a [] e =
    let z : (k + 1) + length a ≡ k + suc (length a) = omega arith in
    λ i. only_if (sym e i && all is_digit a && leb (z i) whole_digits) (signed n (filled_from 0 (numeral 10 (m * 10 + digit c) a)))
whole-grows n k m c a (x ∷ d) e =
    let z : (k + 1) + length a ≡ k + suc (length a) = omega arith in
    λ i. only_if (sym e i && all is_digit a && leb (z i) whole_digits && (are_digits 10 d && leb (length d) fraction_digits)) (signed n (numeral 10 (numeral 10 (m * 10 + digit c) a) (filled_up d)))

whole-full : (n : Bool) (k m c : ℕ) (a b : Bytes) → whole_digits ≤ k → whole_means n k m (c ∷ a) b ≡ none
whole-full n k m c a [] h =
    let z : leb (k + suc (length a)) whole_digits ≡ false = lt-leb (k + suc (length a)) whole_digits (omega (arith, h)) in
    ap (λ (t : Bool). only_if t (signed n (filled_from 0 (numeral 10 m (c ∷ a))))) (both-no (all is_digit (c ∷ a)) (leb (k + suc (length a)) whole_digits) z)
whole-full n k m c a (x ∷ d) h =
    let z : leb (k + suc (length a)) whole_digits ≡ false = lt-leb (k + suc (length a)) whole_digits (omega (arith, h)) in
    ap (λ (t : Bool). only_if (t && (are_digits 10 d && leb (length d) fraction_digits)) (signed n (numeral 10 (numeral 10 m (c ∷ a)) (filled_up d)))) (both-no (all is_digit (c ∷ a)) (leb (k + suc (length a)) whole_digits) z)

-- One byte more is one byte of the text.
step-means : (f : Figure) (c : ℕ) (t : Bytes) → Within f → is_gap c ≡ false → means (stepped f c) t ≡ means f (c ∷ t)
unfolding stepped
step-means Figure.Start c t h g = ap (λ (b : Bool). means (pick b Figure.Start (pick (eqb c 45) Figure.Sign (begun false c))) t) g ∙ go (eqb c 45)
  where
    go : (b : Bool) → means (pick b Figure.Sign (begun false c)) t ≡ counts_in (pick b (decimal_in true t) (decimal_in false (c ∷ t)))
    go true = refl
    go false = first-means false c t
step-means Figure.Sign c t h g = first-means true c t
step-means (Figure.Whole n k m) c t h g = go (is_digit c) refl (ltb k whole_digits) refl (eqb c 46) refl
  where
    on : not_dot c ≡ true → whole_means n k m (c ∷ front not_dot t) (behind not_dot t) ≡ means (Figure.Whole n k m) (c ∷ t)
    on d = sym (λ i. whole_means n k m (front-on c t d i) (behind-on c t d i))

    go : (p : Bool) → is_digit c ≡ p → (q : Bool) → ltb k whole_digits ≡ q → (r : Bool) → eqb c 46 ≡ r
        → means (pick p (pick q (Figure.Whole n (k + 1) (m * 10 + digit c)) Figure.Fault) (pick r (Figure.Dot n m) (pick (is_gap c) (Figure.Behind n 0 m) Figure.Fault))) t ≡ means (Figure.Whole n k m) (c ∷ t)
    go true e true u r v = whole-grows n k m c (front not_dot t) (behind not_dot t) e ∙ on (digit-not-dot c e)
    go true e false u r v = sym (whole-full n k m c (front not_dot t) (behind not_dot t) (ltb-false k whole_digits u)) ∙ on (digit-not-dot c e)
    go false e q u true v =
        sym ((λ i. whole_means n k m (pick (not (v i)) (c ∷ front not_dot t) []) (pick (not (v i)) (behind not_dot t) (c ∷ t)))
        ∙ ap (λ (b : Bool). only_if (b && (are_digits 10 t && leb (length t) fraction_digits)) (signed n (numeral 10 m (filled_up t)))) (le-leb (k + 0) whole_digits (omega (arith, h.0))))
    go false e q u false v = ap (λ (b : Bool). means (pick b (Figure.Behind n 0 m) Figure.Fault) t) g ∙ sym (not-whole n k m c (front not_dot t) (behind not_dot t) e) ∙ on (ap not v)
step-means (Figure.Dot n m) c t h g = go (is_digit c) refl
  where
    z : 1 + length t ≡ suc (length t)
    z = omega arith

    go : (p : Bool) → is_digit c ≡ p → means (pick p (Figure.Fraction n 1 (m * 10 + digit c)) Figure.Fault) t ≡ means (Figure.Dot n m) (c ∷ t)
    go true e = λ i. only_if (sym e i && all is_digit t && leb (z i) fraction_digits) (signed n (numeral 10 (m * 10 + digit c) (t ++ replicate (fraction_digits - z i) 48)))
    go false e = sym (ap (λ (b : Bool). only_if (b && all is_digit t && leb (suc (length t)) fraction_digits) (signed n (numeral 10 m (filled_up (c ∷ t))))) e)
step-means (Figure.Fraction n k m) c t h g = go (is_digit c) refl (ltb k fraction_digits) refl
  where
    z : (k + 1) + length t ≡ k + suc (length t)
    z = omega arith

    value : ℤ
    value = signed n (numeral 10 m ((c ∷ t) ++ replicate (fraction_digits - (k + suc (length t))) 48))

    go : (p : Bool) → is_digit c ≡ p → (q : Bool) → ltb k fraction_digits ≡ q
        → means (pick p (pick q (Figure.Fraction n (k + 1) (m * 10 + digit c)) Figure.Fault) (pick (is_gap c) (Figure.Behind n k m) Figure.Fault)) t ≡ means (Figure.Fraction n k m) (c ∷ t)
    go true e true u = λ i. only_if (sym e i && all is_digit t && leb (z i) fraction_digits) (signed n (numeral 10 (m * 10 + digit c) (t ++ replicate (fraction_digits - z i) 48)))
    go true e false u =
        let l : leb (k + suc (length t)) fraction_digits ≡ false = lt-leb (k + suc (length t)) fraction_digits (omega (arith, ltb-false k fraction_digits u)) in
        sym (ap (λ (b : Bool). only_if b value) (both-no (all is_digit (c ∷ t)) (leb (k + suc (length t)) fraction_digits) l))
    go false e q u =
        ap (λ (b : Bool). means (pick b (Figure.Behind n k m) Figure.Fault) t) g
        ∙ sym (ap (λ (b : Bool). only_if (b && all is_digit t && leb (k + suc (length t)) fraction_digits) value) e)
step-means (Figure.Behind n k m) c t h g = ap (λ (b : Bool). means (pick b (Figure.Behind n k m) Figure.Fault) t) g
step-means Figure.Fault c t h g = refl

-- what has been seen stays seen
begun-seen : (n : Bool) (c : ℕ) → Seen (begun n c)
unfolding begun
begun-seen n c = go (is_digit c)
  where
    go : (b : Bool) → Seen (pick b (Figure.Whole n 1 (digit c)) Figure.Fault)
    go true = tt
    go false = tt

stepped-seen : (f : Figure) (c : ℕ) → Seen f → Seen (stepped f c)
unfolding stepped
stepped-seen Figure.Start c s = absurd s
stepped-seen Figure.Sign c s = begun-seen true c
stepped-seen (Figure.Whole n k m) c s = go (is_digit c) (ltb k whole_digits) (eqb c 46) (is_gap c)
  where
    go : (t u v w : Bool) → Seen (pick t (pick u (Figure.Whole n (k + 1) (m * 10 + digit c)) Figure.Fault) (pick v (Figure.Dot n m) (pick w (Figure.Behind n 0 m) Figure.Fault)))
    go true true v w = tt
    go true false v w = tt
    go false u true w = tt
    go false u false true = tt
    go false u false false = tt
stepped-seen (Figure.Dot n m) c s = go (is_digit c)
  where
    go : (t : Bool) → Seen (pick t (Figure.Fraction n 1 (m * 10 + digit c)) Figure.Fault)
    go true = tt
    go false = tt
stepped-seen (Figure.Fraction n k m) c s = go (is_digit c) (ltb k fraction_digits) (is_gap c)
  where
    go : (t u w : Bool) → Seen (pick t (pick u (Figure.Fraction n (k + 1) (m * 10 + digit c)) Figure.Fault) (pick w (Figure.Behind n k m) Figure.Fault))
    go true true w = tt
    go true false w = tt
    go false u true = tt
    go false u false = tt
stepped-seen (Figure.Behind n k m) c s = go (is_gap c)
  where
    go : (w : Bool) → Seen (pick w (Figure.Behind n k m) Figure.Fault)
    go true = tt
    go false = tt
stepped-seen Figure.Fault c s = tt

-- all bytes of a text
none_filled : (t : Bytes) → is_filled t ≡ false → t ≡ []
none_filled [] e = refl
none_filled (c ∷ t) e = absurd (false≢true (sym e))

byte-means : (f : Figure) (c : ℕ) (t : Bytes) → Seen f → Within f → means (stepped f c) t ≡ means f (pick (is_gap c && not (is_filled t)) [] (c ∷ t))
byte-means f c t s h = go (is_gap c) refl (is_filled t) refl
  where
    go : (a : Bool) → is_gap c ≡ a → (b : Bool) → is_filled t ≡ b → means (stepped f c) t ≡ means f (pick (a && not b) [] (c ∷ t))
    go false g b e = step-means f c t h g
    go true g true e = ap (λ (x : Figure). means x t) (gap-stepped f c g) ∙ gap-inside f c t s g e
    go true g false e = (λ i. means (gap-stepped f c g i) (none_filled t e i)) ∙ gap_ends f s h

fold-means : (s : Bytes) (f : Figure) → Seen f → Within f → read_on f s ≡ means f (untail s)
fold-means [] f s h = end-means f h
fold-means (c ∷ r) f s h = fold-means r (stepped f c) (stepped-seen f c s) (stepped_within f c h) ∙ byte-means f c (untail r) s h

-- from the start on, behind the gaps at the front
start_seen : (c : ℕ) → is_gap c ≡ false → Seen (stepped Figure.Start c)
unfolding stepped
start_seen c g = subst (λ (b : Bool). Seen (pick b Figure.Start (pick (eqb c 45) Figure.Sign (begun false c)))) (sym g) (go (eqb c 45))
  where
    go : (b : Bool) → Seen (pick b Figure.Sign (begun false c))
    go true = tt
    go false = begun-seen false c

start-means : (s : Bytes) → read_on Figure.Start s ≡ means Figure.Start (untail (behind is_gap s))
unfolding told_by
start-means [] = refl
start-means (c ∷ s) = go (is_gap c) refl (start-means s)
  where
    go : (b : Bool) → is_gap c ≡ b → read_on Figure.Start s ≡ means Figure.Start (untail (behind is_gap s)) → read_on (stepped Figure.Start c) s ≡ means Figure.Start (untail (pick b (behind is_gap s) (c ∷ s)))
    go true g ih = ap (λ (f : Figure). read_on f s) (gap-stepped Figure.Start c g) ∙ ih
    go false g ih =
        fold-means s (stepped Figure.Start c) (start_seen c g) (stepped_within Figure.Start c tt)
        ∙ step-means Figure.Start c (untail s) tt g
        ∙ ap (λ (b : Bool). means Figure.Start (pick (b && not (is_filled (untail s))) [] (c ∷ untail s))) (sym g)

-- A value read byte by byte gives its millionths, or none where it doesn't count.
pub read-millionths : (v : Bytes) → read_on Figure.Start v ≡ millionths_of v
unfolding millionths_of
read-millionths v = start-means v ∙ ap (λ (t : Bytes). counts_in (decimal_of t)) (sym (trim-untail v))
