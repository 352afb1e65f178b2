-- Words counted from the front: a byte that is no gap begins a word where a gap, or nothing, stands before it.
use Prim.Native.Nat.{ℕ, ◌+◌}
use native.Mathlib.Omega.{arith}
use mathlib.Core.Path.{◌≡◌, refl, sym, ap, ◌∙◌}
use mathlib.Core.Bool.{Bool, true, false, ◌&&◌, not}
use mathlib.Core.List.{List, [], ◌∷◌}
use lib.ListN.{length}
use Rattle.format.specs.Bytes.{Bytes, pick}
use Rattle.format.specs.Lists.{behind}
use Rattle.format.specs.Words.{is_gap, not_gap, words}
use Rattle.format.proofs.Parts.{words-gap, words-cut}

-- the words that begin in a text; gap: no byte of a word stands before it
abbrev pub words_from : Bool → Bytes → ℕ
words_from gap [] = 0
words_from gap (c ∷ s) = pick (gap && not (is_gap c)) 1 0 + words_from (is_gap c) s

-- and those of the text behind a word that it goes on with
both : (s : Bytes) → (length (words s) ≡ words_from true s) × (length (words (behind not_gap s)) ≡ words_from false s)
both [] = (refl, refl)
both (c ∷ s) = go (is_gap c) refl (both s)
  where
    go : (b : Bool) → is_gap c ≡ b → (length (words s) ≡ words_from true s) × (length (words (behind not_gap s)) ≡ words_from false s)
        → (length (words (c ∷ s)) ≡ pick (not b) 1 0 + words_from b s) × (length (words (pick (not b) (behind not_gap s) (c ∷ s))) ≡ 0 + words_from b s)
    go true e h = let k : length (words (c ∷ s)) ≡ words_from true s = ap (λ (ws : List Bytes). length ws) (words-gap c s e) ∙ h.0 in (omega (arith, k), omega (arith, k))
    go false e h = (omega (arith, ap (λ (ws : List Bytes). length ws) (words-cut c s e), h.1), omega (arith, h.1))

pub words-from : (s : Bytes) → length (words s) ≡ words_from true s
words-from s = (both s).0

-- one byte further: r words begin with it
pub words-on : (gap here : Bool) (r b : ℕ) (v w : Bytes) → v ≡ b ∷ w → here ≡ is_gap b → r ≡ pick (gap && not here) 1 0 → words_from gap v ≡ r + words_from here w
words-on gap here r b v w e h k = ap (words_from gap) e ∙ ap (λ (g : Bool). pick (gap && not g) 1 0 + words_from g w) (sym h) ∙ ap (λ (j : ℕ). j + words_from here w) (sym k)
