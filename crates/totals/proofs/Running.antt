-- Digits read one behind the other: what they make of what has been seen before them.
use Rattle.std.specs.Prelude.{Option as Maybe, Some}
use Prim.Native.Nat.{ℕ, ◌+◌, ◌-◌, ◌*◌, ◌^◌, ◌≤◌, ◌<◌}
use native.Mathlib.Omega.{arith}
use mathlib.Core.Path.{◌≡◌, refl, sym, ap, ◌∙◌, subst}
use mathlib.Core.Bool.{Bool, true, false, false≢true}
use mathlib.Core.List.{[], ◌∷◌}
use mathlib.Core.Option.{Option, some}
use lib.Dec.{ltb}
use lib.IntN.{ℤ, pos}
use lib.ListN.{length, drop, get_or}
use borrow.Author.Tests.{lt-ltb, ltb-true, ltb-false}
use mir.Syntax.{w64}
use mir.Val.{to_z, of_z}
use Rattle.format.specs.Bytes.{Bytes}
use Rattle.format.specs.Words.{is_gap}
use Rattle.format.specs.Numbers.{digit}
use Rattle.values.specs.Value.{value_from}
use Rattle.values.proofs.Decoding.{byte_inside, plain_at}
use Rattle.totals.specs.Totals.{signed, millionths_of}
use Rattle.totals.specs.Figures.{stepped, filled_from, told_by, read_on, counted}
use Rattle.totals.specs.Plain.{Run, PlainTold}
use Rattle.totals.specs.declared.figures.Figure.{Figure}
use Rattle.totals.proofs.Bits.{signed-value}
use Rattle.totals.proofs.Stepping.{whole-digit, whole-dot, fraction-digit, dot-digit, begun-yes, start-digit, power_below, grown-below}
use Rattle.totals.proofs.Folding.{gap_is, read-millionths}

-- a digit stands for itself in a value
module _ (s : Bytes) (j : ℕ) (l : j < length s) (d : ℕ) (g : d ≡ digit (get_or s j 0)) (h : d < 10) where
  digit-next : value_from (drop j s) ≡ get_or s j 0 ∷ value_from (drop (j + 1) s)
  digit-next =
      plain_at s j l (λ z. let w : d ≡ 16 = g ∙ ap digit z in omega (arith, w, h)) (λ z y. let w : d ≡ 16 = g ∙ ap digit z in omega (arith, w, h))

module _ (s : Bytes) (i e m : ℕ) where
  pub run_none : i ≤ e → Run s i e m i m
  run_none h =
      let same : (k : ℕ) → k ≡ k + (i - i) = λ k. omega arith in
      record {
        on = omega arith;
        before = h;
        first = λ l. absurd (omega (arith, l));
        small = λ k l. subst (λ (x : ℕ). m < 10 ^ x) (same k) l;
        whole = λ n k l. ap (λ (x : ℕ). read_on (Figure.Whole n x m) (value_from (drop i s))) (same k);
        fraction = λ n k l. ap (λ (x : ℕ). read_on (Figure.Fraction n x m) (value_from (drop i s))) (same k);
      }

  module _ (j q : ℕ) (r : Run s i e m j q) (l : j < length s) (f : j < e) (d : ℕ) (g : d ≡ digit (get_or s j 0)) (h : d < 10) where
    abbrev later : Bytes
    later = value_from (drop (j + 1) s)

    abbrev grown : ℕ
    grown = q * 10 + d

    more : (k : ℕ) → k + (j - i) + 1 ≡ k + (j + 1 - i)
    more k = omega (arith, r.on)

    first_more : (t : Bool) → ltb i j ≡ t → digit (get_or s i 0) < 10
    first_more true y = r.first (ltb-true i j y)
    first_more false y =
        let z : i ≡ j = omega (arith, ltb-false i j y, r.on) in
        subst (λ (x : ℕ). digit (get_or s x 0) < 10) (sym z) (subst (λ (x : ℕ). x < 10) g h)

    pub run_more : Run s i e m (j + 1) (q * 10 + d)
    run_more =
        record {
          on = omega (arith, r.on);
          before = omega (arith, f);
          first = λ y. first_more (ltb i j) refl;
          small = λ k y. subst (λ (x : ℕ). grown < 10 ^ x) (more k) (grown-below (k + (j - i)) q d (r.small k y) h);
          whole = λ n k y. r.whole n k (omega (arith, y, r.on))
              ∙ ap (read_on (Figure.Whole n (k + (j - i)) q)) (digit-next s j l d g h)
              ∙ ap (λ (F : Figure). read_on F later) (sym (whole-digit (get_or s j 0) d g n (k + (j - i)) q h (omega (arith, y, r.on))))
              ∙ ap (λ (x : ℕ). read_on (Figure.Whole n x grown) later) (more k);
          fraction = λ n k y. r.fraction n k (omega (arith, y, r.on))
              ∙ ap (read_on (Figure.Fraction n (k + (j - i)) q)) (digit-next s j l d g h)
              ∙ ap (λ (F : Figure). read_on F later) (sym (fraction-digit (get_or s j 0) d g n (k + (j - i)) q h (omega (arith, y, r.on))))
              ∙ ap (λ (x : ℕ). read_on (Figure.Fraction n x grown) later) (more k);
        }

-- two digits behind the dot
pub fill-two : (k m : ℕ) → k ≡ 2 → m * 10000 ≡ filled_from k m
fill-two k m e =
    let z : m * 10000 ≡ (((m * 10 + 0) * 10 + 0) * 10 + 0) * 10 + 0 = omega arith in
    let y : (((m * 10 + 0) * 10 + 0) * 10 + 0) * 10 + 0 ≡ filled_from 2 m = refl in
    z ∙ y ∙ ap (λ (x : ℕ). filled_from x m) (sym e)

-- a digit at the start is the first one before the dot, and behind a dot the first one behind it
not-gap : (b : ℕ) → digit b < 10 → is_gap b ≡ false
not-gap b h = go (is_gap b) refl
  where
    go : (t : Bool) → is_gap b ≡ t → t ≡ false
    go true y = absurd (false≢true (sym (gap_is b y).0 ∙ lt-ltb (digit b) 10 h))
    go false y = refl

module _ (s : Bytes) (a : ℕ) (l : a < length s) (h : digit (get_or s a 0) < 10) where
  abbrev b : ℕ
  b = get_or s a 0

  abbrev behind : Bytes
  behind = value_from (drop (a + 1) s)

  next : value_from (drop a s) ≡ b ∷ behind
  next = digit-next s a l (digit b) refl h

  start-whole : read_on Figure.Start (value_from (drop a s)) ≡ read_on (Figure.Whole false 0 0) (value_from (drop a s))
  start-whole =
      let ne : b ≡ 45 → ⊥ = λ z. let w : digit b ≡ 16 = ap digit z in omega (arith, w, h) in
      let one : Figure.Whole false 1 (digit b) ≡ stepped Figure.Start b = begun-yes b (digit b) refl false h ∙ start-digit b (not-gap b h) ne in
      let zero : Figure.Whole false 1 (0 * 10 + digit b) ≡ stepped (Figure.Whole false 0 0) b = whole-digit b (digit b) refl false 0 0 h (omega arith) in
      let z : digit b ≡ 0 * 10 + digit b = omega arith in
      ap (read_on Figure.Start) next
      ∙ ap (λ (F : Figure). read_on F behind) (sym one ∙ ap (Figure.Whole false 1) z ∙ zero)
      ∙ sym (ap (read_on (Figure.Whole false 0 0)) next)

  dot-fraction : (n : Bool) (m : ℕ) → read_on (Figure.Dot n m) (value_from (drop a s)) ≡ read_on (Figure.Fraction n 0 m) (value_from (drop a s))
  dot-fraction n m =
      ap (read_on (Figure.Dot n m)) next
      ∙ ap (λ (F : Figure). read_on F behind) (sym (dot-digit b (digit b) refl n m h) ∙ fraction-digit b (digit b) refl n 0 m h (omega arith))
      ∙ sym (ap (read_on (Figure.Fraction n 0 m)) next)

-- a dot behind the digits before it
dot-next : (s : Bytes) (j : ℕ) (n : Bool) (k m : ℕ) → j < length s → get_or s j 0 ≡ 46 → read_on (Figure.Whole n k m) (value_from (drop j s)) ≡ read_on (Figure.Dot n m) (value_from (drop (j + 1) s))
dot-next s j n k m l e =
    let d : digit (get_or s j 0) ≡ 16 = ap digit e in
    let next : value_from (drop j s) ≡ get_or s j 0 ∷ value_from (drop (j + 1) s) = plain_at s j l (λ z. omega (arith, e, z)) (λ z y. omega (arith, e, z)) in
    ap (read_on (Figure.Whole n k m)) next
    ∙ ap (λ (F : Figure). read_on F (value_from (drop (j + 1) s))) (sym (whole-dot (get_or s j 0) (digit (get_or s j 0)) refl n k m (omega (arith, d)) e))

-- a plain value: digits to j, and more from a on, behind the dot at j, to z
module _ (s : Bytes) (e j q : ℕ) (r : Run s 0 e 0 j q) (f : e ≤ length s) (few : e ≤ 8) (some-digits : j ≡ 0 → ⊥) where
  pub whole-small : q < 10 ^ 8
  whole-small = power_below 8 (0 + (j - 0)) q (omega (arith, r.before, few)) (r.small 0 (omega arith))

  begun-whole : millionths_of (value_from s) ≡ read_on (Figure.Whole false j q) (value_from (drop j s))
  begun-whole =
      let l : 0 < j = omega (arith, some-digits) in
      let z : 0 + (j - 0) ≡ j = omega arith in
      sym (read-millionths (value_from s))
      ∙ start-whole s 0 (omega (arith, l, r.before, f)) (r.first l)
      ∙ r.whole false 0 (omega (arith, r.before, few))
      ∙ ap (λ (x : ℕ). read_on (Figure.Whole false x q) (value_from (drop j s))) z

  pub whole-told : (x : ℕ) → (x ≡ filled_from 0 q) × (x < 100000000000000) → value_from (drop j s) ≡ [] → PlainTold s (Some x)
  unfolding told_by
  whole-told x h v = (h.1, begun-whole ∙ ap (read_on (Figure.Whole false j q)) v ∙ ap {B = Option ℤ} (λ (y : ℕ). some (pos y)) (sym h.0))

  pub dot-inside : get_or s j 0 ≡ 46 → j < length s
  dot-inside dot = byte_inside s j 45 dot

  module _ (dot : get_or s j 0 ≡ 46) (b z t : ℕ) (p : Run s (j + 1) b q z t) (g : b ≤ length s) (short : b ≤ j + 1 + 6) where
    pub fraction-few : z - (j + 1) ≤ 6
    fraction-few = omega (arith, p.before, short)

    pub fraction-small : t < 10 ^ (8 + (z - (j + 1)))
    fraction-small = p.small 8 whole-small

    pub fraction-told : (z ≡ j + 1 → ⊥) → (x : ℕ) → (x ≡ filled_from (z - (j + 1)) t) × (x < 100000000000000) → value_from (drop z s) ≡ [] → PlainTold s (Some x)
    unfolding told_by
    fraction-told some-behind x h v =
        let l : j + 1 < z = omega (arith, some-behind, p.on) in
        let y : 0 + (z - (j + 1)) ≡ z - (j + 1) = omega arith in
        let read : millionths_of (value_from s) ≡ read_on (Figure.Fraction false (z - (j + 1)) t) (value_from (drop z s)) =
        begun-whole
        ∙ dot-next s j false j q (dot-inside dot) dot
        ∙ dot-fraction s (j + 1) (omega (arith, l, p.before, g)) (p.first l) false q
        ∙ p.fraction false 0 (omega (arith, p.before, short))
        ∙ ap (λ (k : ℕ). read_on (Figure.Fraction false k t) (value_from (drop z s))) y
        in (h.1, read ∙ ap (read_on (Figure.Fraction false (z - (j + 1)) t)) v ∙ ap {B = Option ℤ} (λ (k : ℕ). some (pos k)) (sym h.0))

-- what an answer tells, once its form is known
pub plain-told : (s : Bytes) (x : Maybe ℕ) {y : Maybe ℕ} → PlainTold s x → x ≡ y → PlainTold s y
plain-told s x h e = subst (PlainTold s) e h

pub plain-counted : (s : Bytes) (m : ℕ) (r : ℤ) → PlainTold s (Some m) → r ≡ signed false m → counted (Some (to_z w64 (of_z w64 r))) ≡ millionths_of (value_from s)
plain-counted s m r h e = signed-value false r m m (refl, h.0) e ∙ sym h.1
