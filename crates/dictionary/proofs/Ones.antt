-- As many ones as words: a set of places in a list, each word at its first place, has as many as there are such words.
use Prim.Native.Nat.{ℕ, zero, suc, ◌+◌, ◌/◌, ◌%◌, ◌<◌}
use native.Mathlib.Omega.{arith}
use mathlib.Core.Path.{◌≡◌, refl, sym, ap, ap₂, ◌∙◌}
use mathlib.Core.Bool.{Bool, true, false, ◌&&◌, not}
use mathlib.Core.List.{List, [], ◌∷◌}
use borrow.Author.Tests.{eqb-true, eqb-false, eq-eqb, ne_eqb, lt-ltb, le-ltb}
use lib.Bits.{bit_and}
use lib.Count.{ones, ones_step}
use lib.Dec.{eqb, ltb}
use lib.ListN.{length, get_or}
use Rattle.format.specs.Bytes.{Bytes, pick, same}
use Rattle.format.specs.Lists.{filter}
use Rattle.format.specs.Numbering.{firsts}
use Rattle.format.proofs.Listing.{same-swap}
use Rattle.values.proofs.Tests.{by_bool, same_self}
use Rattle.words.specs.RuleNames.{place_in}
use Rattle.terms.specs.Sets.{in_set}
use Rattle.dictionary.specs.Numbered.{is_first, Firsts}
use Rattle.dictionary.proofs.Sets.{in-low, in-high, in_and, ltb-suc, no_place}

-- the ones of a number, from its lowest digit on
one-low : (x : ℕ) → ones x ≡ pick (in_set 0 x) 1 0 + ones (x / 2)
one-low x = ones_step x ∙ ap (λ (r : ℕ). r + ones (x / 2)) (go (x % 2) (omega arith) ∙ ap (λ (t : Bool). pick t 1 0) (sym (in-low x)))
  where
    go : (r : ℕ) → r < 2 → r ≡ pick (eqb r 1) 1 0
    go zero h = refl
    go (suc zero) h = refl
    go (suc (suc r)) h = absurd (omega arith)

none-one : (x : ℕ) → x ≡ 0 → ones x ≡ 0
unfolding ones
none-one x e = ap ones e

-- a test of those that passed another
filter-filter : (p q : Bytes → Bool) (ws : List Bytes) → filter p (filter q ws) ≡ filter (λ (w : Bytes). q w && p w) ws
filter-filter p q [] = refl
filter-filter p q (w ∷ ws) = go (q w) (filter-filter p q ws)
  where
    go : (a : Bool) → filter p (filter q ws) ≡ filter (λ (v : Bytes). q v && p v) ws → filter p (pick a (w ∷ filter q ws) (filter q ws)) ≡ pick (a && p w) (w ∷ filter (λ (v : Bytes). q v && p v) ws) (filter (λ (v : Bytes). q v && p v) ws)
    go true e = ap (λ (l : List Bytes). pick (p w) (w ∷ l) l) e
    go false e = e

-- a word behind another is the first of its like if it is so without that one and is not that one
later_first : (w v : Bytes) (ws : List Bytes) (k : ℕ) → eqb (place_in v (w ∷ ws)) (suc k) ≡ not (same w v) && eqb (place_in v ws) k
later_first w v ws k = go (same v w) ∙ ap (λ (t : Bool). not t && eqb (place_in v ws) k) (same-swap v w)
  where
    go : (t : Bool) → eqb (pick t 0 (suc (place_in v ws))) (suc k) ≡ not t && eqb (place_in v ws) k
    go true = ne_eqb 0 (suc k) (λ e. omega arith)
    go false =
        by_bool (eqb (place_in v ws) k) (λ e. let q = eqb-true (place_in v ws) k e in eq-eqb (suc (place_in v ws)) (suc k) (omega (arith, q)) ∙ sym e)
        (λ e. ne_eqb (suc (place_in v ws)) (suc k) (λ z. eqb-false (place_in v ws) k e (omega (arith, z))) ∙ sym e)

-- the places of the first words that pass a test
abbrev Passing : (Bytes → Bool) → List Bytes → ℕ → Type 0
Passing p ws x = (k : ℕ) → in_set k x ≡ (ltb k (length ws) && (is_first k ws && p (get_or ws k [])))

pass-first : (p : Bytes → Bool) (w : Bytes) (ws : List Bytes) (x : ℕ) → Passing p (w ∷ ws) x → in_set 0 x ≡ p w
pass-first p w ws x f =
    f 0
    ∙ ap (λ (t : Bool). t && (eqb (place_in w (w ∷ ws)) 0 && p w)) (lt-ltb 0 (suc (length ws)) (omega arith))
    ∙ ap (λ (t : Bool). eqb (pick t 0 (suc (place_in w ws))) 0 && p w) (same_self w)

pass-later : (p : Bytes → Bool) (w : Bytes) (ws : List Bytes) (x : ℕ) → Passing p (w ∷ ws) x → Passing (λ (v : Bytes). not (same w v) && p v) ws (x / 2)
pass-later p w ws x f k =
    let v : Bytes = get_or ws k [] in
    sym (in-high k x) ∙ f (suc k)
    ∙ ap₂ (λ (a b : Bool). a && (b && p v)) (sym (ltb-suc k (length ws))) (later_first w v ws k)
    ∙ ap (λ (t : Bool). ltb k (length ws) && t) (go (not (same w v)) (eqb (place_in v ws) k) (p v))
  where
    go : (a b c : Bool) → ((a && b) && c) ≡ (b && (a && c))
    go true true c = refl
    go true false c = refl
    go false true c = refl
    go false false c = refl

ones-passing : (p : Bytes → Bool) (ws : List Bytes) (x : ℕ) → Passing p ws x → ones x ≡ length (filter p (firsts ws))
ones-passing p [] x f = none-one x (no_place x (λ k. f k ∙ ap (λ (t : Bool). t && (eqb (place_in (get_or {A = Bytes} [] k []) []) k && p (get_or {A = Bytes} [] k []))) (le-ltb k 0 (omega arith))))
ones-passing p (w ∷ ws) x f =
    let q : Bytes → Bool = λ (v : Bytes). not (same w v) && p v in
    one-low x
    ∙ ap₂ (λ (t : Bool) (n : ℕ). pick t 1 0 + n) (pass-first p w ws x f) (ones-passing q ws (x / 2) (pass-later p w ws x f))
    ∙ go (p w) (filter q (firsts ws))
    ∙ ap (λ (l : List Bytes). length (pick (p w) (w ∷ l) l)) (sym (filter-filter p (λ (v : Bytes). not (same w v)) (firsts ws)))
  where
    go : (t : Bool) (l : List Bytes) → pick t 1 0 + length l ≡ length (pick t (w ∷ l) l)
    go true l = omega arith
    go false l = omega arith

-- x: the first places of all words; y: the places of those that pass a test
pub firsts-counted : (p : Bytes → Bool) (ws : List Bytes) (x y : ℕ) → Firsts ws x → ((k : ℕ) → in_set k y ≡ (ltb k (length ws) && p (get_or ws k []))) → ones (bit_and x y) ≡ length (filter p (firsts ws))
firsts-counted p ws x y f g =
    ones-passing p ws (bit_and x y)
    (λ k. in_and k x y ∙ ap₂ ◌&&◌ (f k) (g k) ∙ go (ltb k (length ws)) (is_first k ws) (p (get_or ws k [])))
  where
    go : (a b c : Bool) → ((a && b) && (a && c)) ≡ (a && (b && c))
    go true true c = refl
    go true false c = refl
    go false b c = refl
