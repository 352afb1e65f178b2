-- A uuid, group by group: each but the last is that many hex digits and a dash behind them.
use Prim.Native.Nat.{ℕ, zero, suc, ◌+◌, ◌≤◌, ◌<◌}
use native.Mathlib.Omega.{arith}
use mathlib.Core.Path.{◌≡◌, refl, sym, ap, ◌∙◌}
use mathlib.Core.Bool.{Bool, true, false, ◌&&◌, not, and-true, and-false}
use mathlib.Core.List.{List, [], ◌∷◌, map}
use borrow.Author.Tests.{eqb-true, eq-eqb, ne_eqb}
use lib.Dec.{eqb, eqb-zero-suc, eqb-suc-zero, eqb-suc-suc}
use lib.ListN.{length, take, drop, get_or, length-drop}
use lib.Seq.{drop-drop, get_or-drop, length-take-le, take_all}
use Rattle.format.specs.Bytes.{Bytes, pick, all, same}
use Rattle.format.specs.Lists.{front, behind, onto}
use Rattle.format.specs.Words.{split}
use Rattle.format.specs.Numbers.{is_digit_of, are_digits}
use Rattle.format.specs.Types.{is_uuid}
use Rattle.format.proofs.Parts.{parts_behind, split-cut}
use Rattle.words.specs.Spans.{span}
use Rattle.numbers.proofs.Reading.{digits-some}

abbrev is_hex : ℕ → Bool
is_hex c = is_digit_of 16 c

-- groups of hex digits, of these lengths
abbrev hex_groups : List ℕ → List Bytes → Bool
hex_groups [] [] = true
hex_groups [] (g ∷ gs) = false
hex_groups (n ∷ ns) [] = false
hex_groups (n ∷ ns) (g ∷ gs) = eqb (length g) n && all is_hex g && hex_groups ns gs

both : (a b x y t : Bool) → (x && y) ≡ t → ((a && x) && (b && y)) ≡ ((a && b) && t)
both true true x y t e = e
both true false x y t e = and-false x
both false b x y t e = refl

groups-by : (ns : List ℕ) (gs : List Bytes) → (same (map length gs) ns && all (all is_hex) gs) ≡ hex_groups ns gs
groups-by [] [] = refl
groups-by [] (g ∷ gs) = refl
groups-by (n ∷ ns) [] = refl
groups-by (n ∷ ns) (g ∷ gs) = both (eqb (length g) n) (all is_hex g) (same (map length gs) ns) (all (all is_hex) gs) (hex_groups ns gs) (groups-by ns gs)

-- n hex digits and a dash
abbrev group : ℕ → Bytes → Bool
group n s = all is_hex (take n s) && eqb (get_or s n 0) 45

-- the first group of a text and the others, and a byte in front of them
abbrev is_dash : ℕ → Bool
is_dash c = eqb c 45

abbrev first : Bytes → Bytes
first s = front (λ (c : ℕ). not (is_dash c)) s

abbrev others : Bytes → List Bytes
others s = parts_behind is_dash (behind (λ (c : ℕ). not (is_dash c)) s)

split-on : (c : ℕ) (s : Bytes) → split 45 (c ∷ s) ≡ pick (eqb c 45) ([] ∷ split 45 s) ((c ∷ first s) ∷ others s)
split-on c s = ap (λ (gs : List Bytes). pick (eqb c 45) ([] ∷ split 45 s) (onto c gs)) (split-cut is_dash s)

-- a byte that is no dash goes on the first group
one_more : (h x y z a b c : Bool) → ((x && y) && z) ≡ ((a && b) && c) → ((x && (h && y)) && z) ≡ (((h && a) && b) && c)
one_more true x y z a b c e = e
one_more false true y z a b c e = refl
one_more false false y z a b c e = refl

group-first : (n m : ℕ) (ns : List ℕ) (s : Bytes) → hex_groups (n ∷ m ∷ ns) (split 45 s) ≡ group n s && hex_groups (m ∷ ns) (split 45 (drop (suc n) s))
group-first zero m ns [] = refl
group-first (suc n) m ns [] = rw eqb-zero-suc
group-first zero m ns (c ∷ s) = ap (hex_groups (0 ∷ m ∷ ns)) (split-on c s) ∙ go (eqb c 45)
  where
    go : (t : Bool) → hex_groups (0 ∷ m ∷ ns) (pick t ([] ∷ split 45 s) ((c ∷ first s) ∷ others s)) ≡ (true && t) && hex_groups (m ∷ ns) (split 45 s)
    go true = refl
    go false = rw eqb-suc-zero
group-first (suc n) m ns (c ∷ s) =
    ap (hex_groups (suc n ∷ m ∷ ns)) (split-on c s) ∙ go (eqb c 45) refl (sym (ap (hex_groups (n ∷ m ∷ ns)) (split-cut is_dash s)) ∙ group-first n m ns s)
  where
    go : (t : Bool) → eqb c 45 ≡ t → hex_groups (n ∷ m ∷ ns) (first s ∷ others s) ≡ group n s && hex_groups (m ∷ ns) (split 45 (drop (suc n) s))
        → hex_groups (suc n ∷ m ∷ ns) (pick t ([] ∷ split 45 s) ((c ∷ first s) ∷ others s))
        ≡ ((is_hex c && all is_hex (take n s)) && eqb (get_or s n 0) 45) && hex_groups (m ∷ ns) (split 45 (drop (suc n) s))
    go true q e = rw (eqb-zero-suc, eqb-true c 45 q)
    go false q e =
        rw eqb-suc-suc
        (one_more (is_hex c) (eqb (length (first s)) n) (all is_hex (first s)) (hex_groups (m ∷ ns) (others s))
        (all is_hex (take n s)) (eqb (get_or s n 0) 45) (hex_groups (m ∷ ns) (split 45 (drop (suc n) s))) e)

-- the last group is all that is left
last_more : (h x y z a b : Bool) → ((x && y) && z) ≡ (a && b) → ((x && (h && y)) && z) ≡ (a && (h && b))
last_more true x y z a b e = e
last_more false true y z a b e = sym (and-false a)
last_more false false y z a b e = sym (and-false a)

group-last : (n : ℕ) (s : Bytes) → hex_groups (n ∷ []) (split 45 s) ≡ eqb (length s) n && all is_hex s
group-last n [] = and-true (eqb 0 n && true)
group-last zero (c ∷ s) = ap (hex_groups (0 ∷ [])) (split-on c s) ∙ go (eqb c 45) refl
  where
    go : (t : Bool) → eqb c 45 ≡ t
        → hex_groups (0 ∷ []) (pick t ([] ∷ split 45 s) ((c ∷ first s) ∷ others s)) ≡ eqb (suc (length s)) 0 && (is_hex c && all is_hex s)
    go true q = rw eqb-suc-zero (ap (hex_groups []) (split-cut is_dash s))
    go false q = rw (eqb-suc-zero (length s), eqb-suc-zero (length (first s)))
group-last (suc n) (c ∷ s) = ap (hex_groups (suc n ∷ [])) (split-on c s) ∙ go (eqb c 45) refl (sym (ap (hex_groups (n ∷ [])) (split-cut is_dash s)) ∙ group-last n s)
  where
    go : (t : Bool) → eqb c 45 ≡ t → hex_groups (n ∷ []) (first s ∷ others s) ≡ eqb (length s) n && all is_hex s
        → hex_groups (suc n ∷ []) (pick t ([] ∷ split 45 s) ((c ∷ first s) ∷ others s)) ≡ eqb (suc (length s)) (suc n) && (is_hex c && all is_hex s)
    go true q e = rw (eqb-zero-suc, eqb-true c 45 q) (sym (and-false (eqb (suc (length s)) (suc n))))
    go false q e =
        rw (eqb-suc-suc (length s) n, eqb-suc-suc (length (first s)) n)
        (last_more (is_hex c) (eqb (length (first s)) n) (all is_hex (first s)) (hex_groups [] (others s)) (eqb (length s) n) (all is_hex s) e)

-- all five, by index
module _ (s : Bytes) where
  next : (a n m : ℕ) (ns : List ℕ) → hex_groups (n ∷ m ∷ ns) (split 45 (drop a s)) ≡ group n (drop a s) && hex_groups (m ∷ ns) (split 45 (drop (a + suc n) s))
  next a n m ns = group-first n m ns (drop a s) ∙ ap (λ (t : Bytes). group n (drop a s) && hex_groups (m ∷ ns) (split 45 t)) (drop-drop (suc n) a s)

  groups : is_uuid s ≡ group 8 s && (group 4 (drop 9 s) && (group 4 (drop 14 s) && (group 4 (drop 19 s) && (eqb (length (drop 24 s)) 12 && all is_hex (drop 24 s)))))
  groups =
      groups-by (8 ∷ 4 ∷ 4 ∷ 4 ∷ 12 ∷ []) (split 45 s)
      ∙ next 0 8 4 (4 ∷ 4 ∷ 12 ∷ []) ∙ ap (λ (b : Bool). group 8 s && b)
      (next 9 4 4 (4 ∷ 12 ∷ []) ∙ ap (λ (b : Bool). group 4 (drop 9 s) && b)
      (next 14 4 4 (12 ∷ []) ∙ ap (λ (b : Bool). group 4 (drop 14 s) && b)
      (next 19 4 12 [] ∙ ap (λ (b : Bool). group 4 (drop 19 s) && b) (group-last 12 (drop 24 s)))))

  pub uuid-length : (length s ≡ 36 → ⊥) → is_uuid s ≡ false
  uuid-length h =
      let l : eqb (length (drop 24 s)) 12 ≡ false = ne_eqb (length (drop 24 s)) 12 (λ e. h (omega (arith, length-drop 24 s))) in
      groups ∙ rw l (simp and-false)

-- the same as the code asks: hex digits from a to e and a dash at e
abbrev pub dashed_at : ℕ → ℕ → Bytes → Bool
dashed_at a e s = are_digits 16 (span a e s) && eqb (get_or s e 0) 45

group_at : (s : Bytes) (a n : ℕ) → 0 < n → a + n ≤ length s → group n (drop a s) ≡ are_digits 16 (take n (drop a s)) && eqb (get_or s (a + n) 0) 45
group_at s a n p h =
    let l : length (take n (drop a s)) ≡ n = length-take-le n (drop a s) (simp length-drop (omega arith)) in
    rw (digits-some 16 (take n (drop a s)) (λ e. omega arith), get_or-drop)

last-at : (s : Bytes) → length s ≡ 36 → eqb (length (drop 24 s)) 12 && all is_hex (drop 24 s) ≡ are_digits 16 (span 24 36 s)
last-at s h =
    let l : length (drop 24 s) ≡ 12 = omega (arith, length-drop 24 s) in
    rw (eq-eqb (length (drop 24 s)) 12 l, take_all 12 (drop 24 s) (omega arith)) (sym (digits-some 16 (drop 24 s) (λ e. omega arith)))

and-five : {a b c d e a' b' c' d' e' : Bool} → a ≡ a' → b ≡ b' → c ≡ c' → d ≡ d' → e ≡ e' → a && (b && (c && (d && e))) ≡ a' && (b' && (c' && (d' && e')))
and-five p q r s t = cc

pub uuid-by : (s : Bytes) → length s ≡ 36 → is_uuid s ≡ dashed_at 0 8 s && (dashed_at 9 13 s && (dashed_at 14 18 s && (dashed_at 19 23 s && are_digits 16 (span 24 36 s))))
uuid-by s h =
    let a : group 8 s ≡ dashed_at 0 8 s = group_at s 0 8 (omega arith) (omega arith) in
    let b : group 4 (drop 9 s) ≡ dashed_at 9 13 s = group_at s 9 4 (omega arith) (omega arith) in
    let c : group 4 (drop 14 s) ≡ dashed_at 14 18 s = group_at s 14 4 (omega arith) (omega arith) in
    let d : group 4 (drop 19 s) ≡ dashed_at 19 23 s = group_at s 19 4 (omega arith) (omega arith) in
    groups s ∙ and-five a b c d (last-at s h)
