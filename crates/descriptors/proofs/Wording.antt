-- One word or several, by the words that were found.
use Rattle.std.specs.Prelude.{Option}
use Rattle.words.specs.declared.Span.{Span}
use mathlib.Core.Path.{◌≡◌, sym, ap, ◌∙◌, subst}
use mathlib.Core.Bool.{Bool}
use mathlib.Core.List.{List, ◌∷◌}
use Rattle.format.specs.Bytes.{Bytes, all}
use Rattle.format.specs.Rules.{several}
use Rattle.descriptors.specs.Contents.{OnlyWord}

pub words-then : (ws : List Bytes) (w : Bytes) (us : List Bytes) → ws ≡ w ∷ us → (vs : List Bytes) → us ≡ vs → ws ≡ w ∷ vs
words-then ws w us e vs f = e ∙ ap {B = List Bytes} (λ x. w ∷ x) f

pub several-some : (ws : List Bytes) (w : Bytes) (us : List Bytes) → ws ≡ w ∷ us → (p : Bytes → Bool) → several p ws ≡ all p ws
several-some ws w us e p = ap (several p) e ∙ sym (ap (all p) e)

-- what an answer says, once its form is known
pub only : (s : Bytes) (x : Option Span) {y : Option Span} → OnlyWord s x → x ≡ y → OnlyWord s y
only s x u e = subst (OnlyWord s) e u
