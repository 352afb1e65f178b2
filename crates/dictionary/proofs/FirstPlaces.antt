-- The place of a name in a list is the first of the places at which it stands there.
use Prim.Native.Nat.{ℕ, zero, suc, ◌≤◌, ◌<◌, suc-le-suc}
use native.Mathlib.Nat.{le_of_suc-le-suc, zero-lt-suc}
use native.Mathlib.Omega.{arith}
use mathlib.Core.Path.{◌≡◌, refl, sym, ap, ◌∙◌}
use mathlib.Core.Bool.{Bool, true, false, ◌&&◌, false≢true}
use mathlib.Core.List.{List, [], ◌∷◌}
use borrow.Author.Tests.{lt-ltb}
use lib.ListN.{length, get_or}
use Rattle.format.specs.Bytes.{Bytes, pick, same}
use Rattle.words.specs.RuleNames.{place_in}
use Rattle.terms.specs.Sets.{in_set}
use Rattle.terms.proofs.Sets.{in-none}
use Rattle.dictionary.specs.Numbered.{Places}

pub first-place : (w : Bytes) (ws : List Bytes) (r : ℕ) → r ≤ length ws → (r < length ws → same w (get_or ws r []) ≡ true) → ((k : ℕ) → k < r → same w (get_or ws k []) ≡ false) → r ≡ place_in w ws
first-place w [] r h a b = omega arith
first-place w (v ∷ vs) zero h a b = go (same w v) (a (zero-lt-suc (length vs)))
  where
    go : (t : Bool) → t ≡ true → 0 ≡ pick t 0 (suc (place_in w vs))
    go true e = refl
    go false e = absurd (false≢true e)
first-place w (v ∷ vs) (suc r) h a b =
    go (same w v) (b 0 (zero-lt-suc r)) (first-place w vs r (le_of_suc-le-suc h) (λ l. a (suc-le-suc l)) (λ k l. b (suc k) (suc-le-suc l)))
  where
    go : (t : Bool) → t ≡ false → r ≡ place_in w vs → suc r ≡ pick t 0 (suc (place_in w vs))
    go true e q = absurd (false≢true (sym e))
    go false e q = omega (arith, q)

module _ (ws : List Bytes) (w : Bytes) (x : ℕ) (p : Places ws w x) where
  here : (k : ℕ) → k < length ws → in_set k x ≡ same w (get_or ws k [])
  here k l = p k ∙ ap (λ (t : Bool). t && same w (get_or ws k [])) (lt-ltb k (length ws) l)

  pub place_found : (r : ℕ) → r ≤ length ws → (r < length ws → in_set r x ≡ true) → ((k : ℕ) → k < r → in_set k x ≡ false) → r ≡ place_in w ws
  place_found r h a b = first-place w ws r h (λ l. sym (here r l) ∙ a l) (λ k l. sym (here k (omega arith)) ∙ b k l)

  pub none_found : x ≡ 0 → length ws ≡ place_in w ws
  none_found e = place_found (length ws) (omega arith) (λ l. absurd (omega (arith, l))) (λ k l. ap (in_set k) e ∙ in-none k)
