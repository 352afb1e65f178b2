-- Numbers at the places of names, put together with others: the floors by the larger, the limits by the smaller.
use Prim.Native.Nat.{ℕ, suc, ◌≤◌, ◌<◌, min, max}
use native.Mathlib.Omega.{arith}
use mathlib.Core.Path.{◌≡◌, refl, sym, ap, ◌∙◌, subst}
use mathlib.Core.Bool.{Bool, true, false, ◌||◌, false≢true}
use mathlib.Core.List.{List, [], ◌∷◌}
use mathlib.Core.Option.{Option, none, some}
use borrow.Author.Tests.{leb-true, ltb-true, eq-eqb, ne_eqb, lt-ltb, le-ltb}
use lib.Dec.{leb, ltb, eqb}
use lib.ListN.{length, get_or, drop, set}
use lib.Seq.{get_or-set_same, get_or-set_other}
use Rattle.format.specs.Lists.{only_if}
use Rattle.format.specs.Bytes.{Bytes, pick, same, among}
use Rattle.format.specs.Numbers.{Int, plus, minus, int_bounds, unsigned, up_to, int_of}
use Rattle.format.specs.Words.{split}
use Rattle.format.specs.Numbering.{above}
use Rattle.format.proofs.Listing.{same_true}
use Rattle.words.specs.RuleNames.{place_in}
use Rattle.words.proofs.RuleNames.{place-among, placed-is}
use Rattle.values.proofs.Tests.{same_self}
use Rattle.numbers.specs.Meaning.{int_in}
use Rattle.numbers.specs.declared.Whole.{Whole}
use Rattle.numbering.specs.Bounds.{numbers, joined_at, Joins, AreLimits}

-- the least number above an int that was read
module _ (x : Whole) (n : ℕ) where
  pub above-plus : x ≡ Whole.Plus n → above (int_in x) ≡ suc n
  above-plus e = ap (λ (y : Whole). above (int_in y)) e

  pub above_zero : x ≡ Whole.Minus n → n ≡ 0 → above (int_in x) ≡ 1
  above_zero e z = ap (λ (y : Whole). above (int_in y)) e ∙ ap (λ (t : Bool). pick t 1 0) (eq-eqb n 0 z)

  pub above-minus : x ≡ Whole.Minus n → (n ≡ 0 → ⊥) → above (int_in x) ≡ 0
  above-minus e z = ap (λ (y : Whole). above (int_in y)) e ∙ ap (λ (t : Bool). pick t 1 0) (ne_eqb n 0 z)

  pub above_low : x ≡ Whole.Minus n → above (int_in x) ≤ 1
  above_low e = subst (λ (y : Whole). above (int_in y) ≤ 1) (sym e) (go (eqb n 0))
    where
      go : (t : Bool) → pick t 1 0 ≤ 1
      go true = omega arith
      go false = omega arith

-- an int is below the limit of all
abbrev pub IsSmall : Option Int → Type 0
IsSmall none = Unit {0}
IsSmall (some x) = above x ≤ numbers

small-plus : (y : Option ℕ) → IsSmall (up_to int_bounds.greatest plus y)
small-plus none = tt
small-plus (some n) = go (leb n int_bounds.greatest) refl
  where
    go : (t : Bool) → leb n int_bounds.greatest ≡ t → IsSmall (only_if t (plus n))
    go true e = let h = leb-true n int_bounds.greatest e in omega (arith, h)
    go false e = tt

small-minus : (y : Option ℕ) → IsSmall (up_to int_bounds.least minus y)
small-minus none = tt
small-minus (some n) = go (leb n int_bounds.least) (eqb n 0) refl
  where
    go : (t z : Bool) → eqb n 0 ≡ z → IsSmall (only_if t (minus n))
    go true true e = subst (λ (b : Bool). pick b 1 0 ≤ numbers) (sym e) (omega arith)
    go true false e = subst (λ (b : Bool). pick b 1 0 ≤ numbers) (sym e) (omega arith)
    go false z e = tt

pub small_int : (s : Bytes) → IsSmall (int_of int_bounds s)
small_int s = go (eqb (get_or s 0 0) 45)
  where
    go : (t : Bool) → IsSmall (pick t (up_to int_bounds.least minus (unsigned (drop 1 s))) (up_to int_bounds.greatest plus (unsigned s)))
    go true = small-minus (unsigned (drop 1 s))
    go false = small-plus (unsigned s)

-- a number put together with another at a place, or at none
module _ (op : ℕ → ℕ → ℕ) (count k y : ℕ) (l : List ℕ) where
  joined_by : (t : Bool) → ltb k count ≡ t → pick t (set l k (op (get_or l k 0) y)) l ≡ joined_at op count k y l
  joined_by t e = ap (λ (b : Bool). pick b (set l k (op (get_or l k 0) y)) l) (sym e)

  pub joined-here : (x : ℕ) → k < count → x ≡ op (get_or l k 0) y → set l k x ≡ joined_at op count k y l
  joined-here x h e = ap (set l k) e ∙ joined_by true (lt-ltb k count h)

  pub joined-none : count ≤ k → l ≡ joined_at op count k y l
  joined-none h = joined_by false (le-ltb k count h)

module _ (op : ℕ → ℕ → ℕ) (e : ℕ) (Ok : ℕ → Type 0) (unit : (y : ℕ) → Ok y → op y e ≡ y) (keeps : (y x : ℕ) → Ok y → Ok (op y x)) (ws : List Bytes) where
  -- a number put to the place of a name is put to no other name
  pub joins_at : (l : List ℕ) (m : Bytes) (count k x : ℕ) → length ws ≤ length l → ((n : Bytes) → among n ws ≡ true → Ok (get_or l (place_in n ws) 0)) → count ≡ length ws → k ≡ place_in m ws
      → Joins op ws (λ (n : Bytes). pick (same n m) x e) l (joined_at op count k x l)
  joins_at l m count k x room ok p q n h = subst (λ (c : ℕ). P c k) (sym p) (subst (P (length ws)) (sym q) (go (same n m) refl (ltb (place_in m ws) (length ws)) refl))
    where
      P : ℕ → ℕ → Type 0
      P c j = get_or (joined_at op c j x l) (place_in n ws) 0 ≡ op (get_or l (place_in n ws) 0) (pick (same n m) x e)

      place : place_in n ws < length ws
      place = ltb-true (place_in n ws) (length ws) (place-among n ws ∙ h)

      stays : op (get_or l (place_in n ws) 0) e ≡ get_or l (place_in n ws) 0
      stays = unit (get_or l (place_in n ws) 0) (ok n h)

      there : same n m ≡ true → place_in m ws ≡ place_in n ws
      there s = ap (λ (w : Bytes). place_in w ws) (sym (same_true n m s))

      go : (a : Bool) → same n m ≡ a → (b : Bool) → ltb (place_in m ws) (length ws) ≡ b
          → get_or (pick b (set l (place_in m ws) (op (get_or l (place_in m ws) 0) x)) l) (place_in n ws) 0 ≡ op (get_or l (place_in n ws) 0) (pick a x e)
      go true s true b =
          ap (λ (j : ℕ). get_or (set l j (op (get_or l j 0) x)) (place_in n ws) 0) (there s) ∙ get_or-set_same l (place_in n ws) (op (get_or l (place_in n ws) 0) x) 0 (omega (arith, place, room))
      go true s false b = absurd (false≢true (sym b ∙ ap (λ (j : ℕ). ltb j (length ws)) (there s) ∙ lt-ltb (place_in n ws) (length ws) place))
      go false s true b =
          get_or-set_other l (place_in m ws) (place_in n ws) (op (get_or l (place_in m ws) 0) x) 0
          (λ z. false≢true (sym s ∙ ap (same n) (placed-is m ws (ltb-true (place_in m ws) (length ws) b) ∙ ap (λ (j : ℕ). get_or ws j []) (sym z) ∙ sym (placed-is n ws place)) ∙ same_self n))
          ∙ sym stays
      go false s false b = sym stays

  -- a walk: what is at the places, put together with what the rest says, is what was there, put together with what all say
  abbrev pub Left : List ℕ → (Bytes → ℕ) → List ℕ → (Bytes → ℕ) → Type 0
  Left l₀ total l rest = (n : Bytes) → among n ws ≡ true → Ok (get_or l (place_in n ws) 0) × (op (get_or l (place_in n ws) 0) (rest n) ≡ op (get_or l₀ (place_in n ws) 0) (total n))

  pub left-start : (l : List ℕ) (total : Bytes → ℕ) → ((n : Bytes) → among n ws ≡ true → Ok (get_or l (place_in n ws) 0)) → Left l total l total
  left-start l total ok n h = (ok n h, refl)

  pub left-ok : (l₀ : List ℕ) (total : Bytes → ℕ) (l : List ℕ) (rest : Bytes → ℕ) → Left l₀ total l rest → (n : Bytes) → among n ws ≡ true → Ok (get_or l (place_in n ws) 0)
  left-ok l₀ total l rest f n h = (f n h).0

  pub left_step : (l₀ : List ℕ) (total : Bytes → ℕ) (l : List ℕ) (rest : Bytes → ℕ) → Left l₀ total l rest → (g : Bytes → ℕ) (m : List ℕ) (later : Bytes → ℕ) → Joins op ws g l m
      → ((n : Bytes) (y : ℕ) → Ok y → op y (rest n) ≡ op (op y (g n)) (later n)) → Left l₀ total m later
  left_step l₀ total l rest f g m later j cut n h =
      let y : ℕ = get_or l (place_in n ws) 0 in
      (subst Ok (sym (j n h)) (keeps y (g n) (f n h).0), ap (λ (z : ℕ). op z (later n)) (j n h) ∙ sym (cut n y (f n h).0) ∙ (f n h).1)

  pub left_end : (l₀ : List ℕ) (total : Bytes → ℕ) (l : List ℕ) (rest : Bytes → ℕ) → Left l₀ total l rest → ((n : Bytes) → rest n ≡ e) → Joins op ws total l₀ l
  left_end l₀ total l rest f z n h = sym (unit (get_or l (place_in n ws) 0) (f n h).0) ∙ ap (op (get_or l (place_in n ws) 0)) (sym (z n)) ∙ (f n h).1

-- floors and limits

abbrev pub AnyFloor : ℕ → Type 0
AnyFloor y = Unit {0}

abbrev pub IsLimit : ℕ → Type 0
IsLimit y = y ≤ numbers

pub max-unit : (y : ℕ) → AnyFloor y → max y 0 ≡ y
max-unit y h = omega arith

pub min-unit : (y : ℕ) → IsLimit y → min y numbers ≡ y
min-unit y h = omega arith

pub max-keeps : (y x : ℕ) → AnyFloor y → AnyFloor (max y x)
max-keeps y x h = tt

pub min-keeps : (y x : ℕ) → IsLimit y → IsLimit (min y x)
min-keeps y x h = omega arith

-- one name more of several that have one bound
pub max-named : (a b : Bool) (x y : ℕ) → AnyFloor y → max y (pick (a || b) x 0) ≡ max (max y (pick a x 0)) (pick b x 0)
max-named true true x y h = omega arith
max-named true false x y h = omega arith
max-named false true x y h = omega arith
max-named false false x y h = omega arith

pub min-named : (a b : Bool) (x y : ℕ) → IsLimit y → min y (pick (a || b) x numbers) ≡ min (min y (pick a x numbers)) (pick b x numbers)
min-named true true x y h = omega arith
min-named true false x y h = omega arith
min-named false true x y h = omega arith
min-named false false x y h = omega arith

pub max-more : (x r y : ℕ) → max y (max x r) ≡ max (max y x) r
max-more x r y = omega arith

pub min-more : (x r y : ℕ) → min y (min x r) ≡ min (min y x) r
min-more x r y = omega arith

-- the walk over the parts of a word that have one pair of bounds, by what is left of the word
module _ (ws : List Bytes) (x y : ℕ) (s : Bytes) (floors limits : List ℕ) where
  abbrev low : Bytes → Bytes → ℕ
  low t n = pick (among n (split 44 t)) x 0

  abbrev high : Bytes → Bytes → ℕ
  high t n = pick (among n (split 44 t)) y numbers

  pub record PartsLeft (t : Bytes) (fs ls : List ℕ) : Type 0 where
    pub raised : Left max 0 AnyFloor max-unit max-keeps ws floors (low s) fs (low t)
    pub lowered : Left min numbers IsLimit min-unit min-keeps ws limits (high s) ls (high t)

  pub parts-start : AreLimits ws limits → PartsLeft s floors limits
  parts-start h =
      record {
        raised = left-start max 0 AnyFloor max-unit max-keeps ws floors (low s) (λ n q. tt);
        lowered = left-start min numbers IsLimit min-unit min-keeps ws limits (high s) h;
      }

  module _ (t : Bytes) (fs ls : List ℕ) (p : PartsLeft t fs ls) (m : Bytes) (count k : ℕ) (room : length ws ≤ length fs) (space : length ws ≤ length ls) (c : count ≡ length ws) (q : k ≡ place_in m ws)
      (gs hs : List ℕ) (u : gs ≡ joined_at max count k x fs) (v : hs ≡ joined_at min count k y ls) where
    raised_at : Joins max ws (λ (n : Bytes). pick (same n m) x 0) fs gs
    raised_at = subst (Joins max ws (λ (n : Bytes). pick (same n m) x 0) fs) (sym u) (joins_at max 0 AnyFloor max-unit max-keeps ws fs m count k x room (λ n h. tt) c q)

    lowered-at : Joins min ws (λ (n : Bytes). pick (same n m) y numbers) ls hs
    lowered-at =
        subst (Joins min ws (λ (n : Bytes). pick (same n m) y numbers) ls) (sym v)
        (joins_at min numbers IsLimit min-unit min-keeps ws ls m count k y space (left-ok min numbers IsLimit min-unit min-keeps ws limits (high s) ls (high t) p.lowered) c q)

    stepped : (r : List Bytes) → split 44 t ≡ m ∷ r
        → Left max 0 AnyFloor max-unit max-keeps ws floors (low s) gs (λ (n : Bytes). pick (among n r) x 0) × Left min numbers IsLimit min-unit min-keeps ws limits (high s) hs (λ (n : Bytes). pick (among n r) y numbers)
    stepped r e = (
      left_step max 0 AnyFloor max-unit max-keeps ws floors (low s) fs (low t) p.raised (λ (n : Bytes). pick (same n m) x 0) gs (λ (n : Bytes). pick (among n r) x 0) raised_at
          (λ n z h. ap (λ (ns : List Bytes). max z (pick (among n ns) x 0)) e ∙ max-named (same n m) (among n r) x z h),
      left_step min numbers IsLimit min-unit min-keeps ws limits (high s) ls (high t) p.lowered (λ (n : Bytes). pick (same n m) y numbers) hs (λ (n : Bytes). pick (among n r) y numbers) lowered-at
          (λ n z h. ap (λ (ns : List Bytes). min z (pick (among n ns) y numbers)) e ∙ min-named (same n m) (among n r) y z h),
    )

    pub parts-on : (r : Bytes) → split 44 t ≡ m ∷ split 44 r → PartsLeft r gs hs
    parts-on r e = let g = stepped (split 44 r) e in record { raised = g.0; lowered = g.1 }

    pub parts-end : split 44 t ≡ m ∷ [] → Joins max ws (low s) floors gs × Joins min ws (high s) limits hs
    parts-end e =
        let g = stepped [] e in
        (left_end max 0 AnyFloor max-unit max-keeps ws floors (low s) gs (λ n. 0) g.0 (λ n. refl), left_end min numbers IsLimit min-unit min-keeps ws limits (high s) hs (λ n. numbers) g.1 (λ n. refl))
