-- Sums of values: of lists one behind the other, and of a list with some of its values replaced.
use Prim.Native.Nat.{ℕ, zero, suc, ◌+◌}
use native.Mathlib.Omega.{arith}
use mathlib.Core.Path.{◌≡◌, refl, sym, ap, ◌∙◌}
use mathlib.Core.List.{List, [], ◌∷◌, ◌++◌}
use mathlib.Core.Option.{Option, none, some, map, none-ne-some, some-injective}
use lib.IntN.{ℤ, ◌+ℤ◌, ◌-ℤ◌, +ℤ_idl, +ℤ_idr, +ℤ_assoc, +ℤ_comm, +ℤ-neg_ℤ_cancel}
use lib.ListN.{length, length-append}
use Rattle.format.specs.Bytes.{Bytes}
use Rattle.format.specs.Lists.{onward}
use Rattle.format.specs.Numbering.{every}
use Rattle.totals.specs.Totals.{millionths_of, sum_of, Total, total_of, Totalled, totalled}

-- what each of a list has is what each of its parts has
module _ {A B : Type 0} (f : A → Option B) where
  head-has : (o : Option B) (r : Option (List B)) (zs : List B) → onward (λ (y : B). map (λ (ys : List B). y ∷ ys) r) o ≡ some zs → (y : B) × (ys : List B) × (o ≡ some y) × (r ≡ some ys) × (zs ≡ y ∷ ys)
  head-has none r zs e = absurd (none-ne-some zs e)
  head-has (some y) none zs e = absurd (none-ne-some zs e)
  head-has (some y) (some ys) zs e = (y, ys, refl, refl, sym (some-injective (y ∷ ys) zs e))

  pub every-cons : (x : A) (xs : List A) (zs : List B) → every f (x ∷ xs) ≡ some zs → (y : B) × (ys : List B) × (f x ≡ some y) × (every f xs ≡ some ys) × (zs ≡ y ∷ ys)
  every-cons x xs zs e = head-has (f x) (every f xs) zs e

  pub every-parts : (xs ys : List A) (zs : List B) → every f (xs ++ ys) ≡ some zs → (a b : List B) × (every f xs ≡ some a) × (every f ys ≡ some b) × (zs ≡ a ++ b)
  every-parts [] ys zs e = ([], zs, refl, e, refl)
  every-parts (x ∷ xs) ys zs e =
      let h = every-cons x (xs ++ ys) zs e in
      let k = every-parts xs ys h.1 h.3 in
      (h.0 ∷ k.0, k.1, (λ i. onward (λ (y : B). map (λ (l : List B). y ∷ l) (k.2 i)) (h.2 i)), k.3, h.4 ∙ ap {B = List B} (λ (l : List B). h.0 ∷ l) k.4)

  pub every-length : (xs : List A) (zs : List B) → every f xs ≡ some zs → length zs ≡ length xs
  every-length [] zs e = ap length (sym (some-injective [] zs e))
  every-length (x ∷ xs) zs e = let h = every-cons x xs zs e in omega (arith, ap length h.4, every-length xs h.1 h.3)

pub sum-append : (xs ys : List ℤ) → sum_of (xs ++ ys) ≡ sum_of xs +ℤ sum_of ys
sum-append [] ys = sym (+ℤ_idl (sum_of ys))
sum-append (x ∷ xs) ys = ap (λ (z : ℤ). x +ℤ z) (sum-append xs ys) ∙ sym (+ℤ_assoc x (sum_of xs) (sum_of ys))

-- a number in the middle put last
put_last : (a x b : ℤ) → a +ℤ (x +ℤ b) ≡ (a +ℤ b) +ℤ x
put_last a x b = ap (λ (z : ℤ). a +ℤ z) (+ℤ_comm x b) ∙ sym (+ℤ_assoc a b x)

sum-around : (a x b : List ℤ) → sum_of (a ++ (x ++ b)) ≡ (sum_of a +ℤ sum_of b) +ℤ sum_of x
sum-around a x b = sum-append a (x ++ b) ∙ ap (λ (z : ℤ). sum_of a +ℤ z) (sum-append x b) ∙ put_last (sum_of a) (sum_of x) (sum_of b)

sum-replaced : (a x y b : List ℤ) → sum_of (a ++ (y ++ b)) ≡ (sum_of (a ++ (x ++ b)) -ℤ sum_of x) +ℤ sum_of y
sum-replaced a x y b =
    sum-around a y b
    ∙ ap (λ (z : ℤ). z +ℤ sum_of y) (sym (+ℤ-neg_ℤ_cancel (sum_of a +ℤ sum_of b) (sum_of x)) ∙ ap (λ (z : ℤ). z -ℤ sum_of x) (sym (sum-around a x b)))

number-replaced : (a x y b : List ℤ) → length (a ++ (y ++ b)) + length x ≡ length (a ++ (x ++ b)) + length y
number-replaced a x y b = omega (arith, length-append a (y ++ b), length-append y b, length-append a (x ++ b), length-append x b)

-- a total that is no refusal is that of values that all count
pub total-value : (k : ℕ) (x : Option (List ℤ)) (t : Total) → totalled k x ≡ Totalled.value t → (k ≡ 0) × ((zs : List ℤ) × (x ≡ some zs) × (t ≡ total_of zs))
total-value (suc k) x t e = absurd (let z : ◌≡◌ {A = ℕ} 0 1 = cc in omega arith)
total-value zero none t e = absurd (let z : ◌≡◌ {A = ℕ} 0 1 = cc in omega arith)
total-value zero (some zs) t e = (refl, (zs, refl, let z : t ≡ total_of zs = cc in z))

-- Values, some of which others replace: those before and behind them stay.
abbrev pub Replaces : List Bytes → List Bytes → List Bytes → List Bytes → Type 0
Replaces old new xs ys = (a b : List Bytes) × (xs ≡ a ++ (old ++ b)) × (ys ≡ a ++ (new ++ b))

-- What the replacing does to a total, where all values count before and after.
abbrev pub Moved : List Bytes → List Bytes → Total → Total → Type 0
Moved old new t u =
    (x y : List ℤ) × (every millionths_of old ≡ some x) × (every millionths_of new ≡ some y)
    × (u.millionths ≡ (t.millionths -ℤ sum_of x) +ℤ sum_of y)
    × (u.number + length x ≡ t.number + length y)

alike : {B : Type 0} (o : Option B) (x y : B) → o ≡ some x → o ≡ some y → x ≡ y
alike o x y e h = some-injective x y (sym e ∙ h)

moved_by : (old new : List Bytes) (a x y b zs ws : List ℤ) → every millionths_of old ≡ some x → every millionths_of new ≡ some y → zs ≡ a ++ (x ++ b) → ws ≡ a ++ (y ++ b) → Moved old new (total_of zs) (total_of ws)
moved_by old new a x y b zs ws e f p q = (
  x,
  y,
  e,
  f,
  ap sum_of q ∙ sum-replaced a x y b ∙ ap (λ (l : List ℤ). (sum_of l -ℤ sum_of x) +ℤ sum_of y) (sym p),
  ap (λ (l : List ℤ). length l + length x) q ∙ number-replaced a x y b ∙ ap (λ (l : List ℤ). length l + length y) (sym p),
)

pub replaced-total : (old new xs ys : List Bytes) (zs ws : List ℤ) → Replaces old new xs ys → every millionths_of xs ≡ some zs → every millionths_of ys ≡ some ws → Moved old new (total_of zs) (total_of ws)
replaced-total old new xs ys zs ws (a, b, p, q) e f =
    let h = every-parts millionths_of a (old ++ b) zs (ap (every millionths_of) (sym p) ∙ e) in
    let k = every-parts millionths_of a (new ++ b) ws (ap (every millionths_of) (sym q) ∙ f) in
    let i = every-parts millionths_of old b h.1 h.3 in
    let j = every-parts millionths_of new b k.1 k.3 in
    let s : k.0 ≡ h.0 = alike (every millionths_of a) k.0 h.0 k.2 h.2 in
    let t : j.1 ≡ i.1 = alike (every millionths_of b) j.1 i.1 j.3 i.3 in
    moved_by old new h.0 i.0 j.0 i.1 zs ws i.2 j.2
    (h.4 ∙ ap (λ (l : List ℤ). h.0 ++ l) i.4)
    (k.4 ∙ ap (λ (l : List ℤ). k.0 ++ l) j.4 ∙ (λ n. s n ++ (j.0 ++ t n)))

-- one value in the place of one, values taken off, values put there
one_has : (v : Bytes) (zs : List ℤ) → every millionths_of (v ∷ []) ≡ some zs → (a : ℤ) × (millionths_of v ≡ some a) × (zs ≡ a ∷ [])
one_has v zs e = let h = every-cons millionths_of v [] zs e in (h.0, h.2, h.4 ∙ ap {B = List ℤ} (λ (l : List ℤ). h.0 ∷ l) (sym (some-injective [] h.1 h.3)))

pub moved-one : (v w : Bytes) (t u : Total) → Moved (v ∷ []) (w ∷ []) t u → (a b : ℤ) × (millionths_of v ≡ some a) × (millionths_of w ≡ some b) × (u.millionths ≡ (t.millionths -ℤ a) +ℤ b) × (u.number ≡ t.number)
moved-one v w t u (x, y, e, f, s, k) =
    let p = one_has v x e in
    let q = one_has w y f in
    let a : sum_of x ≡ p.0 = ap sum_of p.2 ∙ +ℤ_idr p.0 in
    let b : sum_of y ≡ q.0 = ap sum_of q.2 ∙ +ℤ_idr q.0 in
    (p.0, q.0, p.1, q.1, s ∙ (λ i. (t.millionths -ℤ a i) +ℤ b i), omega (arith, k, ap length p.2, ap length q.2))

pub moved-off : (old : List Bytes) (t u : Total) → Moved old [] t u → (x : List ℤ) × (every millionths_of old ≡ some x) × (u.millionths ≡ t.millionths -ℤ sum_of x) × (u.number + length x ≡ t.number)
moved-off old t u (x, y, e, f, s, k) =
    let z : y ≡ [] = sym (some-injective [] y f) in
    (x, e, s ∙ ap (λ (l : List ℤ). (t.millionths -ℤ sum_of x) +ℤ sum_of l) z ∙ +ℤ_idr (t.millionths -ℤ sum_of x), omega (arith, k, ap length z))

pub moved_on : (new : List Bytes) (t u : Total) → Moved [] new t u → (y : List ℤ) × (every millionths_of new ≡ some y) × (u.millionths ≡ t.millionths +ℤ sum_of y) × (u.number ≡ t.number + length y)
moved_on new t u (x, y, e, f, s, k) =
    let z : x ≡ [] = sym (some-injective [] x e) in
    (y, f, s ∙ ap (λ (l : List ℤ). (t.millionths -ℤ sum_of l) +ℤ sum_of y) z ∙ ap (λ (m : ℤ). m +ℤ sum_of y) (+ℤ_idr t.millionths), omega (arith, k, ap length z))
