-- Sets that have the first places of a list.
use Prim.Native.Nat.{ℕ, zero, suc, ◌≤◌, ◌<◌}
use native.Mathlib.Omega.{arith}
use mathlib.Core.Path.{◌≡◌, refl, sym, ap, ap₂, ◌∙◌}
use mathlib.Core.Bool.{Bool, true, false, ◌&&◌, not, and-eq-true_iff}
use mathlib.Core.List.{List, [], ◌∷◌}
use borrow.Author.Tests.{eqb-true, eqb-false, eq-eqb, lt-ltb, le-ltb}
use lib.Dec.{eqb, ltb}
use lib.ListN.{length, get_or, take}
use lib.Seq.{take-suc}
use Rattle.format.specs.Bytes.{Bytes, all}
use Rattle.format.proofs.Lines.{all_append}
use Rattle.values.proofs.Tests.{by_bool, dec-lt}
use Rattle.terms.specs.Sets.{in_set}
use Rattle.terms.proofs.Sets.{in-none}
use Rattle.dictionary.proofs.Sets.{no_place}
use Rattle.rules.specs.Tallies.{has_all}

-- each of the first n places
all-each : (n x k : ℕ) → has_all n x ≡ true → k < n → in_set k x ≡ true
unfolding has_all
all-each zero x k e h = absurd (omega arith)
all-each (suc n) x k e h =
    let b = (and-eq-true_iff (in_set n x) (has_all n x)).0 e in
    dec-lt k n (λ g. all-each n x k b.1 g) (λ g. ap (λ (j : ℕ). in_set j x) (let q : k ≡ n = omega (arith, g, h) in q) ∙ b.0)

each_all : (n x : ℕ) → ((k : ℕ) → k < n → in_set k x ≡ true) → has_all n x ≡ true
unfolding has_all
each_all zero x f = refl
each_all (suc n) x f = (and-eq-true_iff (in_set n x) (has_all n x)).1 (f n (omega arith), each_all n x (λ k h. f k (omega (arith, h))))

-- a set has them all where none is missing
pub none-missing : (n x r : ℕ) → ((k : ℕ) → in_set k r ≡ (ltb k n && not (in_set k x))) → eqb r 0 ≡ has_all n x
none-missing n x r f =
    by_bool (has_all n x)
    (λ e.
    let z : r ≡ 0 =
    no_place r
    (λ k.
    f k
    ∙ dec-lt k n (λ h. ap₂ (λ (a b : Bool). a && not b) (lt-ltb k n h) (all-each n x k e h)) (λ h. ap (λ (a : Bool). a && not (in_set k x)) (le-ltb k n h))) in
    eq-eqb r 0 z ∙ sym e)
    (λ e. go (eqb r 0) refl e ∙ sym e)
  where
    flip : (b : Bool) → not b ≡ false → b ≡ true
    flip true q = refl
    flip false q = sym q

    there : r ≡ 0 → (k : ℕ) → k < n → in_set k x ≡ true
    there z k h = flip (in_set k x) (ap (λ (a : Bool). a && not (in_set k x)) (sym (lt-ltb k n h)) ∙ sym (f k) ∙ ap (in_set k) z ∙ in-none k)

    go : (b : Bool) → eqb r 0 ≡ b → has_all n x ≡ false → b ≡ false
    go true q e = sym (each_all n x (there (eqb-true r 0 q))) ∙ e
    go false q e = refl

-- a test of the first words of a list, place by place
pub all_tested : (p : Bytes → Bool) (ws : List Bytes) (x n : ℕ) → n ≤ length ws → ((k : ℕ) → k < n → in_set k x ≡ p (get_or ws k [])) → has_all n x ≡ all p (take n ws)
unfolding has_all
all_tested p ws x zero h f = refl
all_tested p ws x (suc n) h f =
    ap₂ ◌&&◌ (f n (omega arith)) (all_tested p ws x n (omega arith) (λ k g. f k (omega arith)))
    ∙ swap (p (get_or ws n [])) (all p (take n ws))
    ∙ sym (ap (all p) (take-suc ws n [] h) ∙ all_append p (take n ws) (get_or ws n [] ∷ []))
  where
    swap : (a b : Bool) → a && b ≡ b && (a && true)
    swap true true = refl
    swap true false = refl
    swap false true = refl
    swap false false = refl
