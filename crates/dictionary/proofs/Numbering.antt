-- Words numbered from k on.
use Prim.Native.Nat.{ℕ, suc, ◌+◌}
use native.Mathlib.Omega.{arith}
use mathlib.Core.Path.{◌≡◌, refl, ap, ◌∙◌}
use mathlib.Core.List.{List, [], ◌∷◌, ◌++◌}
use lib.ListN.{length}
use Rattle.format.specs.Bytes.{Bytes}
use Rattle.terms.specs.Sets.{Term, term_of}
use Rattle.dictionary.specs.Numbered.{numbered}

pub numbered-length : (k : ℕ) (ws : List Bytes) → length (numbered k ws) ≡ length ws
numbered-length k [] = refl
numbered-length k (w ∷ ws) = ap suc (numbered-length (suc k) ws)

pub numbered-append : (k : ℕ) (ws vs : List Bytes) → numbered k (ws ++ vs) ≡ numbered k ws ++ numbered (k + length ws) vs
numbered-append k [] vs = ap (λ (j : ℕ). numbered j vs) (let e : k ≡ k + 0 = omega arith in e)
numbered-append k (w ∷ ws) vs =
    let e : suc k + length ws ≡ k + suc (length ws) = omega arith in
    ap {B = List Term} (λ ts. term_of k w ∷ ts) (numbered-append (suc k) ws vs ∙ ap (λ (j : ℕ). numbered (suc k) ws ++ numbered j vs) e)
