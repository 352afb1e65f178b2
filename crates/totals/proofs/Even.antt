-- Halves to the even hundredth (document 02, order 10): no hundredth is nearer to a sum, on a tie it is the even one, and there is exactly one such number.
use Prim.Native.Nat.{ℕ, zero, suc, ◌+◌, ◌-◌, ◌*◌, ◌/◌, ◌%◌, ◌≤◌, ◌<◌}
use native.Mathlib.Nat.{div-add-mod'}
use native.Mathlib.Omega.{arith}
use mathlib.Core.Path.{◌≡◌, refl, sym, ap, ◌∙◌}
use mathlib.Core.Bool.{Bool, true, false, cond}
use mathlib.Core.List.{[], ◌∷◌, map}
use lib.Dec.{ltb, eqb}
use lib.IntN.{ℤ, pos, negsuc, neg_ℤ, nat_abs, ◌+ℤ◌, ◌-ℤ◌, ◌*ℤ◌, neg_ℤ-neg_ℤ, neg_ℤ-+ℤ}
use borrow.Author.Tests.{ltb-true, ltb-false, eqb-true, eqb-false}
use Rattle.format.specs.Bytes.{pick}
use Rattle.totals.specs.Totals.{signed, is_below0}
use Rattle.totals.proofs.Digits.{abs-signed}

-- so many millionths in hundredths: the nearest, and of two that are as near the even one
abbrev pub up : ℕ → ℕ → ℕ
up hundredths rest = pick (ltb 5000 rest) 1 (pick (eqb rest 5000) (hundredths % 2) 0)

abbrev pub to_even : ℕ → ℕ
to_even n = n / 10000 + up (n / 10000) (n % 10000)

abbrev pub even_hundredths : ℤ → ℤ
even_hundredths z = signed (is_below0 z) (to_even (nat_abs z))

-- the examples of the order, and both sides of halves
abbrev minus : ℕ → ℤ
minus n = neg_ℤ (pos n)

halves : map even_hundredths (pos 125000 ∷ pos 135000 ∷ pos 5000 ∷ minus 5000 ∷ pos 124999 ∷ pos 125001 ∷ pos 134999 ∷ pos 135001 ∷ pos 4999 ∷ pos 5001 ∷ pos 15000 ∷ pos 25000 ∷ [])
    ≡ pos 12 ∷ pos 14 ∷ pos 0 ∷ pos 0 ∷ pos 12 ∷ pos 13 ∷ pos 13 ∷ pos 14 ∷ pos 0 ∷ pos 1 ∷ pos 2 ∷ pos 2 ∷ []
halves = refl

halves-below : map even_hundredths (minus 15000 ∷ minus 25000 ∷ minus 14999 ∷ minus 15001 ∷ minus 24999 ∷ minus 25001 ∷ minus 4999 ∷ minus 5001 ∷ minus 10000 ∷ pos 0 ∷ [])
    ≡ minus 2 ∷ minus 2 ∷ minus 1 ∷ minus 2 ∷ minus 2 ∷ minus 3 ∷ pos 0 ∷ minus 1 ∷ minus 1 ∷ pos 0 ∷ []
halves-below = refl

-- how far two numbers are apart
abbrev apart : ℕ → ℕ → ℕ
apart n m = (n - m) + (m - n)

-- Without signs. The rest is what is left of whole hundredths.
abbrev Rounds : ℕ → ℕ → Type 0
Rounds n q = (apart n (q * 10000) ≤ 5000) × (apart n (q * 10000) ≡ 5000 → q % 2 ≡ 0)

by-rest : (n d r : ℕ) → n ≡ d * 10000 + r → r < 10000 → Rounds n (d + up d r)
by-rest n d r e h = go (ltb 5000 r) refl (eqb r 5000) refl
  where
    go : (a : Bool) → ltb 5000 r ≡ a → (b : Bool) → eqb r 5000 ≡ b → Rounds n (d + pick a 1 (pick b (d % 2) 0))
    go true p b q = let l : 5000 < r = ltb-true 5000 r p in (omega arith, λ t. absurd (omega (arith, t)))
    go false p true q =
        let s : r ≡ 5000 = eqb-true r 5000 q in
        (omega arith, λ t. omega arith)
    go false p false q =
        let l : r ≤ 5000 = ltb-false 5000 r p in
        let s : r ≡ 5000 → ⊥ = eqb-false r 5000 q in
        (omega arith, λ t. absurd (s (omega (arith, t))))

rounds : (n : ℕ) → Rounds n (to_even n)
rounds n = by-rest n (n / 10000) (n % 10000) (sym (div-add-mod' n 10000)) (omega arith)

-- any other is at least as far
no-nearer : (n q k : ℕ) → Rounds n q → apart n (q * 10000) ≤ apart n (k * 10000)
no-nearer n q k h = go (ltb k q) refl (ltb q k) refl
  where
    go : (a : Bool) → ltb k q ≡ a → (b : Bool) → ltb q k ≡ b → apart n (q * 10000) ≤ apart n (k * 10000)
    go true e b f = let l : k < q = ltb-true k q e in omega (arith, h.0)
    go false e true f = let l : q < k = ltb-true q k f in omega (arith, h.0)
    go false e false f = let s : k ≡ q = omega (arith, ltb-false k q e, ltb-false q k f) in omega (arith, ap (λ (x : ℕ). apart n (x * 10000)) s)

-- one that is as near, and even on a tie, is the same
only_one : (n q k : ℕ) → Rounds n q → Rounds n k → k ≡ q
only_one n q k h l = go (ltb k q) refl (ltb q k) refl
  where
    -- two that differ are both half a hundredth away, and neighbours
    differ : (x y : ℕ) → x < y → Rounds n x → Rounds n y → ⊥
    differ x y u (a, b) (c, d) =
        let s : apart n (x * 10000) ≡ 5000 = omega arith in
        let t : apart n (y * 10000) ≡ 5000 = omega arith in
        let z : y ≡ suc x = omega arith in
        omega (arith, b s, d t, z)

    go : (a : Bool) → ltb k q ≡ a → (b : Bool) → ltb q k ≡ b → k ≡ q
    go true e b f = absurd (differ k q (ltb-true k q e) l h)
    go false e true f = absurd (differ q k (ltb-true q k f) h l)
    go false e false f = omega (arith, ltb-false k q e, ltb-false q k f)

-- With signs: how far a hundredth is from a sum, in millionths.
abbrev pub far : ℤ → ℤ → ℕ
far z h = nat_abs (z -ℤ h *ℤ pos 10000)

scaled : (b : Bool) (k : ℕ) → signed b k *ℤ pos 10000 ≡ signed b (k * 10000)
scaled true zero = refl
scaled true (suc k) = refl
scaled false k = refl

abs_neg : (z : ℤ) → nat_abs (neg_ℤ z) ≡ nat_abs z
abs_neg (pos zero) = refl
abs_neg (pos (suc n)) = refl
abs_neg (negsuc n) = refl

apart-pos : (n m : ℕ) → nat_abs (pos n -ℤ pos m) ≡ apart n m
apart-pos n zero = omega arith
apart-pos n (suc m) = go (ltb n (suc m)) refl
  where
    go : (t : Bool) → ltb n (suc m) ≡ t → nat_abs (cond t (negsuc (suc m - suc n)) (pos (n - suc m))) ≡ apart n (suc m)
    go true e = let l : n < suc m = ltb-true n (suc m) e in omega arith
    go false e = let l : suc m ≤ n = ltb-false n (suc m) e in omega arith

both-turned : (x y : ℤ) → nat_abs (neg_ℤ x -ℤ neg_ℤ y) ≡ nat_abs (x -ℤ y)
both-turned x y = ap nat_abs (sym (neg_ℤ-+ℤ x (neg_ℤ y))) ∙ abs_neg (x -ℤ y)

one-turned : (n m : ℕ) → nat_abs (pos n -ℤ neg_ℤ (pos m)) ≡ n + m
one-turned n m = ap (λ (x : ℤ). nat_abs (pos n +ℤ x)) (neg_ℤ-neg_ℤ (pos m))

abbrev far_by : Bool → Bool → ℕ → ℕ → ℕ
far_by true true n m = apart n m
far_by true false n m = n + m
far_by false true n m = n + m
far_by false false n m = apart n m

by-signs : (b c : Bool) (n m : ℕ) → nat_abs (signed b n -ℤ signed c m) ≡ far_by b c n m
by-signs true true n m = both-turned (pos n) (pos m) ∙ apart-pos n m
by-signs true false n m = ap (λ (x : ℤ). nat_abs (neg_ℤ (pos n) -ℤ x)) (sym (neg_ℤ-neg_ℤ (pos m))) ∙ both-turned (pos n) (neg_ℤ (pos m)) ∙ one-turned n m
by-signs false true n m = one-turned n m
by-signs false false n m = apart-pos n m

far-by : (b c : Bool) (n k : ℕ) → far (signed b n) (signed c k) ≡ far_by b c n (k * 10000)
far-by b c n k = ap (λ (x : ℤ). nat_abs (signed b n -ℤ x)) (scaled c k) ∙ by-signs b c n (k * 10000)

-- a number is its sign and its magnitude
by_parts : (z : ℤ) → signed (is_below0 z) (nat_abs z) ≡ z
by_parts (pos n) = refl
by_parts (negsuc n) = refl

far-parts : (z h : ℤ) → far z h ≡ far_by (is_below0 z) (is_below0 h) (nat_abs z) (nat_abs h * 10000)
far-parts z h = (λ i. far (sym (by_parts z) i) (sym (by_parts h) i)) ∙ far-by (is_below0 z) (is_below0 h) (nat_abs z) (nat_abs h)

alike-far : (b : Bool) (n m : ℕ) → far_by b b n m ≡ apart n m
alike-far true n m = refl
alike-far false n m = refl

best-far : (z : ℤ) → far z (even_hundredths z) ≡ apart (nat_abs z) (to_even (nat_abs z) * 10000)
best-far z = ap (λ (x : ℤ). far x (even_hundredths z)) (sym (by_parts z)) ∙ far-by (is_below0 z) (is_below0 z) (nat_abs z) (to_even (nat_abs z)) ∙ alike-far (is_below0 z) (nat_abs z) (to_even (nat_abs z) * 10000)

-- a hundredth of the other sign is no nearer than 0
best-least : (b c : Bool) (n k : ℕ) → apart n (to_even n * 10000) ≤ far_by b c n (k * 10000)
best-least true true n k = no-nearer n (to_even n) k (rounds n)
best-least true false n k = omega (arith, no-nearer n (to_even n) 0 (rounds n))
best-least false true n k = omega (arith, no-nearer n (to_even n) 0 (rounds n))
best-least false false n k = no-nearer n (to_even n) k (rounds n)

-- "the nearest": no hundredth is nearer to the sum
pub none-nearer : (z h : ℤ) → far z (even_hundredths z) ≤ far z h
none-nearer z h = omega (arith, best-far z, far-parts z h, best-least (is_below0 z) (is_below0 h) (nat_abs z) (nat_abs h))

-- "an exact half goes to the even one"
pub tie-even : (z : ℤ) → far z (even_hundredths z) ≡ 5000 → nat_abs (even_hundredths z) % 2 ≡ 0
tie-even z e = ap (λ (n : ℕ). n % 2) (abs-signed (is_below0 z) (to_even (nat_abs z))) ∙ (rounds (nat_abs z)).1 (sym (best-far z) ∙ e)

-- negative sums mirror
pub negated : (z : ℤ) → even_hundredths (neg_ℤ z) ≡ neg_ℤ (even_hundredths z)
negated (pos zero) = refl
negated (pos (suc n)) = refl
negated (negsuc n) = sym (neg_ℤ-neg_ℤ (pos (to_even (suc n))))

-- There is exactly one such number.
signed-zero : (b c : Bool) → signed b 0 ≡ signed c 0
signed-zero true true = refl
signed-zero true false = refl
signed-zero false true = refl
signed-zero false false = refl

only-by : (b c : Bool) (n k : ℕ) → far_by b c n (k * 10000) ≤ apart n (to_even n * 10000) → (far_by b c n (k * 10000) ≡ 5000 → k % 2 ≡ 0) → signed c k ≡ signed b (to_even n)
only-by true true n k l t = ap (signed true) (only_one n (to_even n) k (rounds n) (omega (arith, l, (rounds n).0), t))
only-by false false n k l t = ap (signed false) (only_one n (to_even n) k (rounds n) (omega (arith, l, (rounds n).0), t))
only-by true false n k l t =
    let z : k ≡ 0 = omega (arith, l, no-nearer n (to_even n) 0 (rounds n)) in
    let q : 0 ≡ to_even n = only_one n (to_even n) 0 (rounds n) (omega (arith, l, (rounds n).0), λ e. refl) in
    ap (signed false) z ∙ signed-zero false true ∙ ap (signed true) q
only-by false true n k l t =
    let z : k ≡ 0 = omega (arith, l, no-nearer n (to_even n) 0 (rounds n)) in
    let q : 0 ≡ to_even n = only_one n (to_even n) 0 (rounds n) (omega (arith, l, (rounds n).0), λ e. refl) in
    ap (signed true) z ∙ signed-zero true false ∙ ap (signed false) q

pub one-such : (z h : ℤ) → ((k : ℤ) → far z h ≤ far z k) → (far z h ≡ 5000 → nat_abs h % 2 ≡ 0) → h ≡ even_hundredths z
one-such z h l t =
    sym (by_parts h)
    ∙ only-by (is_below0 z) (is_below0 h) (nat_abs z) (nat_abs h) (omega (arith, l (even_hundredths z), best-far z, far-parts z h)) (λ e. t (far-parts z h ∙ e))
