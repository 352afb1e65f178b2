-- The codes run one after another, as the code tests them.
use native.Mathlib.Numerals.{add-one}
use mathlib.Core.List.{List, map}
use lib.ListN.{length, drop, get_or}
use lib.Seq.{drop-cons}
use Prim.Native.Nat.{ℕ, ◌<◌, ◌+◌, ◌/◌, ◌%◌}
use mathlib.Core.Path.{◌≡◌, refl, sym, ap, ◌∙◌}
use mathlib.Core.Bool.{Bool, true, false, ◌&&◌}
use lib.Dec.{eqb}
use Rattle.format.specs.Bytes.{pick}
use Rattle.terms.specs.Sets.{in_set}
use Rattle.selection.specs.declared.runs.Code.{Code}
use Rattle.selection.specs.declared.runs.Machine.{Machine}
use Rattle.selection.specs.Programs.{differ, answered_by, joined, whole_answer, on_code, code_no, runs}

pub answered-on : (x : ℕ) (b d : Bool) → d ≡ differ (eqb (x / 4) 1) b → eqb (x / 2 % 2) 1 && d ≡ true → x % 2 + 2 ≡ answered_by x b
answered-on x b d e h = ap (λ (t : Bool). pick t (x % 2 + 2) (x % 2)) (sym (ap (λ (t : Bool). eqb (x / 2 % 2) 1 && t) (sym e) ∙ h))

pub answered-off : (x : ℕ) (b d : Bool) → d ≡ differ (eqb (x / 4) 1) b → eqb (x / 2 % 2) 1 && d ≡ false → x % 2 ≡ answered_by x b
answered-off x b d e h = ap (λ (t : Bool). pick t (x % 2 + 2) (x % 2)) (sym (ap (λ (t : Bool). eqb (x / 2 % 2) 1 && t) (sym e) ∙ h))

-- the next code of several
pub code-next : (cs : List Code) (i : ℕ) (m : Machine) → i < length cs → runs (map code_no (drop i cs)) m ≡ runs (map code_no (drop (i + 1) cs)) (on_code (code_no (get_or cs i Code.Test)) m)
code-next cs i m h = rw (add-one, drop-cons cs i Code.Test h) refl

module _ (m : Machine) (c : ℕ) where
  pub on-test : (l : ℕ) → c ≡ 0 → l ≡ answered_by m.level (eqb (m.bits % 2) 1) → record { level = l; outer = m.outer; bits = m.bits / 2 } ≡ on_code c m
  unfolding in_set
  on-test l e h = (λ i. record { level = h i; outer = m.outer; bits = m.bits / 2 }) ∙ ap (λ (k : ℕ). on_code k m) (sym e)

  pub on-other : (k : ℕ) (n : Machine) → c ≡ k → n ≡ on_code k m → n ≡ on_code c m
  on-other k n e h = h ∙ ap (λ (j : ℕ). on_code j m) (sym e)

  pub on-join : (l : ℕ) → c ≡ 2 → l ≡ joined m.level → record { level = l; outer = m.outer; bits = m.bits } ≡ on_code c m
  on-join l e h = (λ i. record { level = h i; outer = m.outer; bits = m.bits }) ∙ ap (λ (k : ℕ). on_code k m) (sym e)

  pub on-close : (l : ℕ) (b : Bool) → c ≡ 4 → b ≡ whole_answer m.level → l ≡ answered_by (m.outer % 8) b → record { level = l; outer = m.outer / 8; bits = m.bits } ≡ on_code c m
  on-close l b h e f = (λ d. record { level = (f ∙ ap (answered_by (m.outer % 8)) e) d; outer = m.outer / 8; bits = m.bits }) ∙ ap (λ (k : ℕ). on_code k m) (sym h)
