-- Decoding: what the first bytes of a text add to its value, on the text itself and from an index on; and a value is no longer than its text.
use Rattle.std.specs.Prelude.{Option, Some, None}
use Rattle.values.specs.declared.Decoded.{Decoded}
use Prim.Native.Nat.{ℕ, zero, suc, ◌+◌, ◌≤◌, ◌<◌}
use native.Mathlib.Nat.{add-zero, add_assoc}
use native.Mathlib.Omega.{arith}
use mathlib.Core.Path.{◌≡◌, refl, sym, ap, ◌∙◌, subst}
use mathlib.Core.Bool.{Bool, true, false, not, ◌||◌, false≢true}
use mathlib.Core.List.{[], ◌∷◌}
use lib.Dec.{eqb}
use lib.ListN.{length, get_or, drop, drop_of_length-le, length-drop}
use lib.Seq.{get_or-drop}
use borrow.Author.Tests.{eqb-true, eq-eqb, ne_eqb}
use Rattle.std.specs.List.{position_or_len}
use Rattle.std.proofs.lemmas.List.Sums.{prefix_len-le-length, fails_before_first}
use Rattle.format.specs.Bytes.{Bytes, pick}
use Rattle.values.specs.Value.{decode, value_from, Plain, Reaches, here, further, plain, Unfolds}
use Rattle.lines.proofs.Cuts.{at-cons}

-- A backslash before a newline vanishes with it.
pub value-joined : (s : Bytes) → value_from (92 ∷ 10 ∷ s) ≡ value_from s
unfolding decode value_from
value-joined s = refl

-- Any other byte but a newline stands for itself.
pub value-plain : (c : ℕ) (s : Bytes) → (c ≡ 10 → ⊥) → (c ≡ 92 → get_or s 0 0 ≡ 10 → ⊥) → value_from (c ∷ s) ≡ c ∷ value_from s
unfolding decode value_from
value-plain c s h k = go (eqb c 92) refl (eqb (get_or s 0 0) 10) refl
  where
    go : (a : Bool) → eqb c 92 ≡ a → (b : Bool) → eqb (get_or s 0 0) 10 ≡ b → value_from (c ∷ s) ≡ c ∷ value_from s
    go true p true q = absurd (k (eqb-true c 92 p) (eqb-true (get_or s 0 0) 10 q))
    go true p false q = rw (p, q)
    go false p b q = rw (p, ne_eqb c 10 h)

-- A newline ends the value, but for one before a plus: that stands for itself, and the plus and one space vanish.
pub value-end : (s : Bytes) → (get_or s 0 0 ≡ 43 → ⊥) → value_from (10 ∷ s) ≡ []
unfolding decode value_from
value-end s h = rw (ne_eqb (get_or s 0 0) 43 h)

pub value-space : (s : Bytes) → value_from (10 ∷ 43 ∷ 32 ∷ s) ≡ 10 ∷ value_from s
unfolding decode value_from
value-space s = refl

pub value-plus : (s : Bytes) → (get_or s 0 0 ≡ 32 → ⊥) → value_from (10 ∷ 43 ∷ s) ≡ 10 ∷ value_from s
unfolding decode value_from
value-plus s h = rw (ne_eqb (get_or s 0 0) 32 h)

-- The bytes from an index on: the byte there and those behind it.

-- a byte other than 0 stands inside
pub byte_inside : (s : Bytes) (i b : ℕ) → get_or s i 0 ≡ suc b → i < length s
byte_inside [] i b e = absurd (omega arith)
byte_inside (c ∷ s) zero b e = omega arith
byte_inside (c ∷ s) (suc i) b e = omega (arith, byte_inside s i b e)

at_byte : (s : Bytes) (i b : ℕ) → get_or s i 0 ≡ suc b → drop i s ≡ suc b ∷ drop (i + 1) s
at_byte s i b e = at-cons s i (byte_inside s i b e) ∙ ap {B = Bytes} (λ c. c ∷ drop (i + 1) s) e

at-two : (s : Bytes) (i a b : ℕ) → get_or s i 0 ≡ suc a → get_or s (i + 1) 0 ≡ suc b → drop i s ≡ suc a ∷ suc b ∷ drop (i + 2) s
at-two s i a b e f = at_byte s i a e ∙ rw (at_byte s (i + 1) b f, add_assoc)

head-drop : (s : Bytes) (i : ℕ) → get_or (drop i s) 0 0 ≡ get_or s i 0
head-drop s i = rw (get_or-drop, add-zero)

module _ (s : Bytes) (i : ℕ) where
  pub nothing-at : length s ≤ i → value_from (drop i s) ≡ []
  unfolding decode value_from
  nothing-at h = rw (drop_of_length-le s)

  pub joined_at : get_or s i 0 ≡ 92 → get_or s (i + 1) 0 ≡ 10 → value_from (drop i s) ≡ value_from (drop (i + 2) s)
  joined_at a b = rw (at-two s i 91 9 a b) (value-joined (drop (i + 2) s))

  pub plain_at : i < length s → (get_or s i 0 ≡ 10 → ⊥) → (get_or s i 0 ≡ 92 → get_or s (i + 1) 0 ≡ 10 → ⊥) → value_from (drop i s) ≡ get_or s i 0 ∷ value_from (drop (i + 1) s)
  plain_at h a b = rw (at-cons s i h) (value-plain (get_or s i 0) (drop (i + 1) s) a (λ p q. b p (sym (head-drop s (i + 1)) ∙ q)))

  pub end-at : get_or s i 0 ≡ 10 → (get_or s (i + 1) 0 ≡ 43 → ⊥) → value_from (drop i s) ≡ []
  end-at a b = rw (at_byte s i 9 a) (value-end (drop (i + 1) s) (λ q. b (sym (head-drop s (i + 1)) ∙ q)))

  pub space-at : get_or s i 0 ≡ 10 → get_or s (i + 1) 0 ≡ 43 → get_or s (i + 2) 0 ≡ 32 → value_from (drop i s) ≡ 10 ∷ value_from (drop (i + 3) s)
  space-at a b c = rw (at-two s i 9 42 a b, at_byte s (i + 2) 31 c, value-space, add_assoc)

  pub plus-at : get_or s i 0 ≡ 10 → get_or s (i + 1) 0 ≡ 43 → (get_or s (i + 2) 0 ≡ 32 → ⊥) → value_from (drop i s) ≡ 10 ∷ value_from (drop (i + 2) s)
  plus-at a b c = rw (at-two s i 9 42 a b) (value-plus (drop (i + 2) s) (λ q. c (sym (head-drop s (i + 2)) ∙ q)))

-- Decoding comes from a place to what it comes to from there.
pub reaches-on : {s : Bytes} {i j k : ℕ} → Reaches s i j → Reaches s j k → Reaches s i k
reaches-on r here = r
reaches-on r (further q t) = further (reaches-on r q) t

-- Bytes that stand for themselves, one more at a time.
pub plain_here : (s : Bytes) (i : ℕ) → Plain s i i
plain_here s i = record { on = omega arith; reached = here; counted = omega arith }

pub plain_more : (s : Bytes) (i k : ℕ) → Plain s i k → k < length s → (get_or s k 0 ≡ 10 → ⊥) → (get_or s k 0 ≡ 92 → ⊥) → Plain s i (k + 1)
plain_more s i k p h a b =
    let o = p.on in
    let c = p.counted in
    let e = plain_at s k h a (λ q r. b q) in
    record { on = omega arith; reached = further p.reached (plain refl h a (λ q r. b q)); counted = omega (arith, ap length e) }

no-newline : (b : ℕ) → (eqb b 10 || eqb b 92) ≡ false → b ≡ 10 → ⊥
no-newline b f q = false≢true (sym f ∙ rw (eq-eqb _ _ q))

no-backslash : (b : ℕ) → (eqb b 10 || eqb b 92) ≡ false → b ≡ 92 → ⊥
no-backslash b f q = false≢true (sym f ∙ rw (q))

-- a byte that a stretch of plain ones ends before
abbrev pub ends_run : ℕ → Bool
ends_run b = eqb b 10 || eqb b 92

-- the bytes before the first such one
pub plain_run : (s : Bytes) (i n : ℕ) → n ≡ position_or_len ends_run (drop i s) → Plain s i (i + n)
plain_run s i n e = go n (omega (arith, e))
  where
    inside : (k : ℕ) → suc k ≤ position_or_len ends_run (drop i s) → i + k < length s
    inside k h = omega (arith, prefix_len-le-length (λ b. not (ends_run b)) (drop i s), length-drop i s)

    other : (k : ℕ) → suc k ≤ position_or_len ends_run (drop i s) → ends_run (get_or s (i + k) 0) ≡ false
    other k h = ap ends_run (sym (get_or-drop i s k 0)) ∙ fails_before_first ends_run (drop i s) k 0 (omega (arith, h))

    go : (k : ℕ) → k ≤ position_or_len ends_run (drop i s) → Plain s i (i + k)
    go zero h = subst (Plain s i) (sym (add-zero i)) (plain_here s i)
    go (suc k) h =
        let f = other k h in
        subst (Plain s i) (let z : i + k + 1 ≡ i + suc k = omega arith in z)
        (plain_more s i (i + k) (go k (omega arith)) (inside k h) (λ q. no-newline (get_or s (i + k) 0) f q) (λ q. no-backslash (get_or s (i + k) 0) f q))

-- The next byte of the value may be looked for further on.
pub unfolds-from : (s : Bytes) (i j : ℕ) (d : Option Decoded) → i ≤ j → Reaches s i j → value_from (drop i s) ≡ value_from (drop j s) → Unfolds s j d → Unfolds s i d
unfolds-from s i j None h r e u = e ∙ u
unfolds-from s i j (Some d) h r e u = (e ∙ u.0, omega arith, u.2, reaches-on r u.3)

-- What an answer says of the value, once its form is known.
pub ended : (s : Bytes) (i : ℕ) (d : Option Decoded) → Unfolds s i d → d ≡ None → value_from (drop i s) ≡ []
ended s i d u e = subst (Unfolds s i) e u

pub goes_on : (s : Bytes) (i : ℕ) (d : Option Decoded) {b k : ℕ} → Unfolds s i d → d ≡ Some (record { byte = b; next = k }) → Unfolds s i (Some (record { byte = b; next = k }))
goes_on s i d u e = subst (Unfolds s i) e u

-- what holds of both holds of the one that is picked
pick_all : {A : Type 0} (P : A → Type 0) (t : Bool) {a b : A} → P a → P b → P (pick t a b)
pick_all P true p q = p
pick_all P false p q = q

-- a value is no longer than the bytes it is read from
decode-length : (k : ℕ) (s : Bytes) → length (decode k s) ≤ length s
unfolding decode
decode-length k [] = omega arith
decode-length zero (c ∷ s) =
    let P : Bytes → Type 0 = λ v. length v ≤ suc (length s) in
    let h = decode-length 0 s in
    let h1 = decode-length 1 s in
    let hp = decode-length (pick (eqb (get_or s 1 0) 32) 2 1) s in
    pick_all P (eqb c 92) (pick_all P (eqb (get_or s 0 0) 10) (omega arith) (omega arith))
    (pick_all P (eqb c 10) (pick_all P (eqb (get_or s 0 0) 43) (omega arith) (omega arith)) (omega arith))
decode-length (suc k) (c ∷ s) = omega (arith, decode-length k s)

pub value-length : (s : Bytes) → length (value_from s) ≤ length s
unfolding value_from
value-length s = decode-length 0 s
