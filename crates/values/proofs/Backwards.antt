-- Decoding followed backwards: the bytes before a place that it comes to tell the step that led there.
use Rattle.std.specs.Prelude.{Option, Some, None}
use Rattle.values.specs.declared.Decoded.{Decoded}
use Prim.Native.Nat.{ℕ, zero, suc, ◌+◌, ◌-◌, ◌≤◌, ◌<◌}
use native.Mathlib.Omega.{arith}
use mathlib.Core.Path.{◌≡◌, refl, sym, ap, ◌∙◌, subst}
use mathlib.Core.Bool.{Bool, true, false, not, ◌&&◌, false≢true, and-eq-true_iff}
use mathlib.Core.List.{[], ◌∷◌, ◌++◌, append_assoc}
use mathlib.Core.Logic.{◌⊎◌, inl, inr, ⊎_elim}
use lib.Dec.{eqb}
use lib.ListN.{length, get_or, drop}
use borrow.Author.Tests.{eqb-true, eqb-false, eq-eqb, ne_eqb}
use Rattle.format.specs.Bytes.{Bytes}
use Rattle.values.specs.Value.{value_from, Step, joint, space, plus, plain, Reaches, here, further, Precedes, is_plus, is_plus_space}
use Rattle.values.proofs.Decoding.{byte_inside, joined_at, plain_at, space-at, plus-at}

-- what is not true
pub untrue : (t : Bool) → (t ≡ true → ⊥) → t ≡ false
untrue true h = absurd (h refl)
untrue false h = refl

not-false : (t : Bool) → not t ≡ true → t ≡ false
not-false true e = sym e
not-false false e = refl

module _ (s : Bytes) where
  -- the byte at a place that is written otherwise, and the value from there on
  pub byte_at : (i j : ℕ) → i ≡ j → get_or s i 0 ≡ get_or s j 0
  byte_at i j e = ap (λ (p : ℕ). get_or s p 0) e

  value-at : (i j : ℕ) → i ≡ j → value_from (drop i s) ≡ value_from (drop j s)
  value-at i j e = ap (λ (p : ℕ). value_from (drop p s)) e

  -- what a step adds to the value, and where it ends
  step_value : (j k : ℕ) → Step s j k → (g : Bytes) × (value_from (drop j s) ≡ g ++ value_from (drop k s))
  step_value j k (joint e a b) = ([], joined_at s j a b ∙ value-at (j + 2) k (sym e))
  step_value j k (space e a b c) = (10 ∷ [], space-at s j a b c ∙ ap {B = Bytes} (λ v. 10 ∷ v) (value-at (j + 3) k (sym e)))
  step_value j k (plus e a b c) = (10 ∷ [], plus-at s j a b c ∙ ap {B = Bytes} (λ v. 10 ∷ v) (value-at (j + 2) k (sym e)))
  step_value j k (plain e h a b) = (get_or s j 0 ∷ [], plain_at s j h a b ∙ ap {B = Bytes} (λ v. get_or s j 0 ∷ v) (value-at (j + 1) k (sym e)))

  step-inside : (j k : ℕ) → Step s j k → k ≤ length s
  step-inside j k (joint e a b) = omega (arith, byte_inside s (j + 1) 9 b)
  step-inside j k (space e a b c) = omega (arith, byte_inside s (j + 2) 31 c)
  step-inside j k (plus e a b c) = omega (arith, byte_inside s (j + 1) 42 b)
  step-inside j k (plain e h a b) = omega arith

  -- so a value is what was decoded on the way to a place and the value from there on
  pub reaches-value : (i k : ℕ) → Reaches s i k → (f : Bytes) × (value_from (drop i s) ≡ f ++ value_from (drop k s))
  reaches-value i k here = ([], refl)
  reaches-value i k (further {j} r t) =
      let f = reaches-value i j r in
      let g = step_value j k t in
      (f.0 ++ g.0, f.1 ∙ ap (λ (v : Bytes). f.0 ++ v) g.1 ∙ sym (append_assoc f.0 g.0 (value_from (drop k s))))

  pub reaches-inside : (k : ℕ) → Reaches s 0 k → k ≤ length s
  reaches-inside k here = omega arith
  reaches-inside k (further {j} r t) = step-inside j k t

  -- a step that ends with a newline is a joint
  newline-last : (j k : ℕ) → Step s j k → get_or s (k - 1) 0 ≡ 10 → (k ≡ j + 2) × (get_or s j 0 ≡ 92) × (get_or s (j + 1) 0 ≡ 10)
  newline-last j k (joint e a b) q = (e, a, b)
  newline-last j k (space e a b c) q = absurd (omega (arith, byte_at (k - 1) (j + 2) (omega arith)))
  newline-last j k (plus e a b c) q = absurd (omega (arith, byte_at (k - 1) (j + 1) (omega arith)))
  newline-last j k (plain e h a b) q = absurd (a (byte_at j (k - 1) (omega arith) ∙ q))

  newline-behind : (k : ℕ) → Reaches s 0 k → get_or s (k - 1) 0 ≡ 10 → (k ≡ 0) ⊎ (get_or s (k - 2) 0 ≡ 92)
  newline-behind k here q = inl refl
  newline-behind k (further {j} r t) q = let f = newline-last j k t q in let e = f.0 in inr (byte_at (k - 2) j (omega arith) ∙ f.1)

  pub joint-before : (k : ℕ) → Reaches s 0 k → 0 < k → get_or s (k - 1) 0 ≡ 10 → (2 ≤ k) × Reaches s 0 (k - 2) × (value_from (drop (k - 2) s) ≡ value_from (drop k s))
  joint-before k here h q = absurd (omega arith)
  joint-before k (further {j} r t) h q =
      let f = newline-last j k t q in
      let e = f.0 in
      let p : j ≡ k - 2 = omega arith in
      (omega arith, subst (Reaches s 0) p r, value-at (k - 2) j (sym p) ∙ joined_at s j f.1 f.2 ∙ value-at (j + 2) k (sym e))

  -- a newline that decoding comes to is no joint's
  newline-free : (k : ℕ) → Reaches s 0 k → get_or s k 0 ≡ 10 → get_or s (k - 1) 0 ≡ 92 → ⊥
  newline-free k here n q = omega (arith, byte_at (0 - 1) 0 (omega arith))
  newline-free k (further {j} r (joint e a b)) n q = omega (arith, byte_at (k - 1) (j + 1) (omega arith))
  newline-free k (further {j} r (space e a b c)) n q = omega (arith, byte_at (k - 1) (j + 2) (omega arith))
  newline-free k (further {j} r (plus e a b c)) n q = omega (arith, byte_at (k - 1) (j + 1) (omega arith))
  newline-free k (further {j} r (plain e h a b)) n q = b (byte_at j (k - 1) (omega arith) ∙ q) (byte_at (j + 1) k (sym e) ∙ n)

  -- the tests of a plus and of a space
  plus-told : (i : ℕ) → is_plus s i ≡ true → (get_or s i 0 ≡ 43) × (get_or s (i - 1) 0 ≡ 10) × (get_or s (i - 2) 0 ≡ 92 → ⊥)
  plus-told i e =
      let h = (and-eq-true_iff (eqb (get_or s i 0) 43 && eqb (get_or s (i - 1) 0) 10) (not (eqb (get_or s (i - 2) 0) 92))).0 e in
      let g = (and-eq-true_iff (eqb (get_or s i 0) 43) (eqb (get_or s (i - 1) 0) 10)).0 h.0 in
      (eqb-true (get_or s i 0) 43 g.0, eqb-true (get_or s (i - 1) 0) 10 g.1, eqb-false (get_or s (i - 2) 0) 92 (not-false (eqb (get_or s (i - 2) 0) 92) h.1))

  pub is-plus : (i : ℕ) → get_or s i 0 ≡ 43 → get_or s (i - 1) 0 ≡ 10 → (get_or s (i - 2) 0 ≡ 92 → ⊥) → is_plus s i ≡ true
  is-plus i a b c = rw (eq-eqb (get_or s i 0) 43 a, eq-eqb (get_or s (i - 1) 0) 10 b, ne_eqb (get_or s (i - 2) 0) 92 c)

  -- behind the first byte, and behind the second
  pub plus-far : (i : ℕ) → is_plus s i ≡ true → 1 ≤ i
  plus-far zero e = let h = plus-told 0 e in let a = h.0 in let b = h.1 in absurd (omega (arith, byte_at (0 - 1) 0 (omega arith)))
  plus-far (suc i) e = omega arith

  space-told : (i : ℕ) → is_plus_space s i ≡ true → (get_or s i 0 ≡ 32) × (is_plus s (i - 1) ≡ true)
  space-told i e = let h = (and-eq-true_iff (eqb (get_or s i 0) 32) (is_plus s (i - 1))).0 e in (eqb-true (get_or s i 0) 32 h.0, h.1)

  pub space-far : (i : ℕ) → is_plus_space s i ≡ true → 2 ≤ i
  space-far i e = omega (arith, plus-far (i - 1) (space-told i e).1)

  -- such a plus is not decoded by itself
  plus-unread : (k : ℕ) → Reaches s 0 k → is_plus s k ≡ true → ⊥
  plus-unread k r e =
      let p = plus-told k e in
      let a = p.0 in
      let b = p.1 in
      ⊎_elim (λ z. omega (arith, byte_at (k - 1) k (omega arith))) (λ q. p.2 q) (newline-behind k r b)

  is-space : (i : ℕ) → get_or s i 0 ≡ 32 → is_plus s (i - 1) ≡ true → is_plus_space s i ≡ true
  is-space i a b = rw (eq-eqb (get_or s i 0) 32 a) b

  -- the byte before a place, by these tests
  pub plus-before : (k : ℕ) → Reaches s 0 k → 0 < k → is_plus s (k - 1) ≡ true → Precedes s k (Some (record { byte = 10; next = k - 1 - 1 }))
  plus-before k here h e = absurd (omega arith)
  plus-before k (further {j} r (joint q a b)) h e = let p = (plus-told (k - 1) e).0 in absurd (omega (arith, byte_at (k - 1) (j + 1) (omega arith)))
  plus-before k (further {j} r (space q a b c)) h e = let p = (plus-told (k - 1) e).0 in absurd (omega (arith, byte_at (k - 1) (j + 2) (omega arith)))
  plus-before k (further {j} r (plus q a b c)) h e =
      let p : j ≡ k - 1 - 1 = omega arith in
      (value-at (k - 1 - 1) j (sym p) ∙ plus-at s j a b c ∙ ap {B = Bytes} (λ v. 10 ∷ v) (value-at (j + 2) k (sym q)), omega arith, subst (Reaches s 0) p r)
  plus-before k (further {j} r (plain q l a b)) h e = absurd (plus-unread j r (ap (is_plus s) (let p : j ≡ k - 1 = omega arith in p) ∙ e))

  -- a space that vanishes is not decoded by itself
  space-unread : (k : ℕ) → Reaches s 0 k → is_plus_space s k ≡ true → ⊥
  space-unread k here e = let h = space-told 0 e in let a = h.0 in let b = (plus-told (0 - 1) h.1).0 in omega (arith, byte_at (0 - 1) 0 (omega arith))
  space-unread k (further {j} r (joint q a b)) e = let p = (plus-told (k - 1) (space-told k e).1).0 in omega (arith, byte_at (k - 1) (j + 1) (omega arith))
  space-unread k (further {j} r (space q a b c)) e = let p = (plus-told (k - 1) (space-told k e).1).0 in omega (arith, byte_at (k - 1) (j + 2) (omega arith))
  space-unread k (further {j} r (plus q a b c)) e = c (byte_at (j + 2) k (sym q) ∙ (space-told k e).0)
  space-unread k (further {j} r (plain q l a b)) e = plus-unread j r (ap (is_plus s) (let p : j ≡ k - 1 = omega arith in p) ∙ (space-told k e).1)

  pub space-before : (k : ℕ) → Reaches s 0 k → 0 < k → is_plus_space s (k - 1) ≡ true → Precedes s k (Some (record { byte = 10; next = k - 1 - 2 }))
  space-before k here h e = absurd (omega arith)
  space-before k (further {j} r (joint q a b)) h e = let p = (space-told (k - 1) e).0 in absurd (omega (arith, byte_at (k - 1) (j + 1) (omega arith)))
  space-before k (further {j} r (plus q a b c)) h e = let p = (space-told (k - 1) e).0 in absurd (omega (arith, byte_at (k - 1) (j + 1) (omega arith)))
  space-before k (further {j} r (space q a b c)) h e =
      let p : j ≡ k - 1 - 2 = omega arith in
      (value-at (k - 1 - 2) j (sym p) ∙ space-at s j a b c ∙ ap {B = Bytes} (λ v. 10 ∷ v) (value-at (j + 3) k (sym q)), omega arith, subst (Reaches s 0) p r)
  space-before k (further {j} r (plain q l a b)) h e = absurd (space-unread j r (ap (is_plus_space s) (let p : j ≡ k - 1 = omega arith in p) ∙ e))

  -- a plus line's newline, its plus and its space are told by the tests
  plus-tested : (j : ℕ) → Reaches s 0 j → get_or s j 0 ≡ 10 → get_or s (j + 1) 0 ≡ 43 → is_plus s (j + 1) ≡ true
  plus-tested j r a b =
      is-plus (j + 1) b (byte_at (j + 1 - 1) j (omega arith) ∙ a) (λ q. newline-free j r a (byte_at (j - 1) (j + 1 - 2) (omega arith) ∙ q))

  pub plain-before : (k : ℕ) → Reaches s 0 k → 0 < k → (get_or s (k - 1) 0 ≡ 10 → ⊥) → is_plus s (k - 1) ≡ false → is_plus_space s (k - 1) ≡ false → Precedes s k (Some (record { byte = get_or s (k - 1) 0; next = k - 1 }))
  plain-before k here h n e f = absurd (omega arith)
  plain-before k (further {j} r (joint q a b)) h n e f = absurd (n (byte_at (k - 1) (j + 1) (omega arith) ∙ b))
  plain-before k (further {j} r (plus q a b c)) h n e f =
      absurd (false≢true (sym e ∙ ap (is_plus s) (let p : k - 1 ≡ j + 1 = omega arith in p) ∙ plus-tested j r a b))
  plain-before k (further {j} r (space q a b c)) h n e f =
      let p : k - 1 ≡ j + 2 = omega arith in
      let g : is_plus_space s (j + 2) ≡ true = is-space (j + 2) c (ap (is_plus s) (let o : j + 2 - 1 ≡ j + 1 = omega arith in o) ∙ plus-tested j r a b) in
      absurd (false≢true (sym f ∙ ap (is_plus_space s) p ∙ g))
  plain-before k (further {j} r (plain q l a b)) h n e f =
      let p : j ≡ k - 1 = omega arith in
      let v : value_from (drop j s) ≡ get_or s j 0 ∷ value_from (drop k s) = plain_at s j l a b ∙ ap {B = Bytes} (λ v. get_or s j 0 ∷ v) (value-at (j + 1) k (sym q)) in
      (subst (λ (i : ℕ). value_from (drop i s) ≡ get_or s i 0 ∷ value_from (drop k s)) p v, omega arith, subst (Reaches s 0) p r)

  -- a byte above a plus is none of those
  pub high-before : (k : ℕ) → Reaches s 0 k → 0 < k → 43 < get_or s (k - 1) 0 → Precedes s k (Some (record { byte = get_or s (k - 1) 0; next = k - 1 }))
  high-before k r h b =
      plain-before k r h (λ q. omega arith) (untrue (is_plus s (k - 1)) (λ e. let p = (plus-told (k - 1) e).0 in omega arith))
      (untrue (is_plus_space s (k - 1)) (λ e. let p = (space-told (k - 1) e).0 in omega arith))

  -- joints may stand between that byte and the place
  pub precedes-from : (k i : ℕ) (d : Option Decoded) → i ≤ k → value_from (drop i s) ≡ value_from (drop k s) → Precedes s i d → Precedes s k d
  precedes-from k i None h e u = u ∙ e
  precedes-from k i (Some d) h e u = (u.0 ∙ ap {B = Bytes} (λ v. d.byte ∷ v) e, omega arith, u.2)

  pub precedes-none : (k i : ℕ) → i ≡ 0 → value_from (drop i s) ≡ value_from (drop k s) → Precedes s k None
  precedes-none k i z e = value-at 0 i (sym z) ∙ e

  -- what an answer says, once its form is known
  pub none_before : (k : ℕ) (d : Option Decoded) → Precedes s k d → d ≡ None → value_from s ≡ value_from (drop k s)
  none_before k d u e = subst (Precedes s k) e u

  pub comes-before : (k : ℕ) (d : Option Decoded) {b i : ℕ} → Precedes s k d → d ≡ Some (record { byte = b; next = i }) → Precedes s k (Some (record { byte = b; next = i }))
  comes-before k d u e = subst (Precedes s k) e u
