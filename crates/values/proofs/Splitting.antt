-- The next word of a value, behind its gaps.
use Rattle.std.specs.Prelude.{Option}
use Rattle.values.specs.declared.lists.NextWord.{NextWord}
use Prim.Native.Nat.{ℕ}
use native.Mathlib.Omega.{arith}
use mathlib.Core.Path.{◌≡◌, refl, sym, ap, ◌∙◌, subst}
use mathlib.Core.Bool.{Bool, true, false}
use mathlib.Core.List.{[], ◌∷◌}
use Rattle.format.specs.Lists.{front, behind}
use Rattle.format.specs.Bytes.{Bytes, pick}
use Rattle.format.specs.Words.{is_gap, not_gap, words}
use Rattle.format.proofs.Parts.{words-skip, words-cut}
use Rattle.values.proofs.Words.{word_on}
use Rattle.values.specs.Words.{Cuts}

-- behind them stands no gap
behind-head : (v w : Bytes) (b : ℕ) → behind is_gap v ≡ b ∷ w → is_gap b ≡ false
behind-head [] w b e = absurd (let z : ◌≡◌ {A = ℕ} 0 1 = cc in omega arith)
behind-head (c ∷ s) w b e = go (is_gap c) refl e (λ f. behind-head s w b f)
  where
    go : (t : Bool) → is_gap c ≡ t → pick t (behind is_gap s) (c ∷ s) ≡ b ∷ w → (behind is_gap s ≡ b ∷ w → is_gap b ≡ false) → is_gap b ≡ false
    go true q f h = h f
    go false q f h = ap is_gap (let x : b ≡ c = cc in x) ∙ q

-- v behind its gaps is a
module _ (v a : Bytes) (g : a ≡ behind is_gap v) where
  pub words-none : a ≡ [] → words v ≡ []
  words-none e = words-skip v ∙ ap words (sym g ∙ e)

  pub words-next : (w r : Bytes) (b : ℕ) → a ≡ b ∷ w → r ≡ behind not_gap w → words v ≡ front not_gap a ∷ words r
  words-next w r b e f =
      let h : is_gap b ≡ false = behind-head v w b (sym g ∙ e) in
      words-skip v ∙ ap words (sym g ∙ e) ∙ words-cut b w h ∙ (λ i. sym (word_on a w b e h) i ∷ words (sym f i))

-- what an answer tells, once its form is known
pub cuts-told : (s : Bytes) (i : ℕ) (x : Option NextWord) {y : Option NextWord} → Cuts s i x → x ≡ y → Cuts s i y
cuts-told s i x h e = subst (Cuts s i) e h
