-- A walk over words: the fields added so far, and the words that are left.
use Rattle.std.specs.Prelude.{Option as Maybe, Some, None}
use Prim.Native.Nat.{ℕ, suc, ◌+◌, ◌-◌, ◌≤◌}
use native.Mathlib.Omega.{arith}
use mathlib.Core.Path.{◌≡◌, refl, sym, ap, ◌∙◌, subst}
use mathlib.Core.Bool.{Bool, true, false, and-eq-true_iff}
use mathlib.Core.List.{List, [], ◌∷◌, ◌++◌}
use mathlib.Core.Option.{Option, none}
use lib.ListN.{length, length-take, length-drop, length-append}
use Rattle.format.specs.Bytes.{Bytes, pick, all, among}
use Rattle.format.specs.Written.{Pair}
use Rattle.words.specs.Spans.{span}
use Rattle.numbering.specs.Adding.{State, unadded, behind_all, stepped, step_all, Seen, Sums, SummedAs, AddedAs}
use Rattle.numbering.specs.declared.Added.{Added}
use Rattle.numbering.specs.declared.adding.Sum.{Sum}

module _ (f : Bytes → Option Pair) where
  -- where one has no number, none is told
  none-step : (s : State) (n : Bytes) → s.pairs ≡ none → (stepped f s n).pairs ≡ none
  none-step s n e = ap (λ (x : Option (List Pair)). pick (among n s.seen) x (behind_all x (f n))) e ∙ go (among n s.seen)
    where
      go : (t : Bool) → pick {A = Option (List Pair)} t none none ≡ none
      go true = refl
      go false = refl

  pub none_stays : (s : State) (ns : List Bytes) → s.pairs ≡ none → (step_all f s ns).pairs ≡ none
  none_stays s [] e = e
  none_stays s (n ∷ ns) e = none_stays (stepped f s n) ns (none-step s n e)

  pub step-append : (s : State) (ms ns : List Bytes) → step_all f s (ms ++ ns) ≡ step_all f (step_all f s ms) ns
  step-append s [] ns = refl
  step-append s (m ∷ ms) ns = step-append (stepped f s m) ms ns

  pub step-passed : (s : State) (ns : List Bytes) → (step_all f s ns).passed ≡ s.passed + length ns
  step-passed s [] = omega arith
  step-passed s (n ∷ ns) = step-passed (stepped f s n) ns ∙ (let e : suc s.passed + length ns ≡ s.passed + suc (length ns) = omega arith in e)

  pub record Going (ws : List Bytes) (out : Bytes) (r : Sum) (rest : List Bytes) (goal : State) : Type 0 where
    pub reached : State
    pub sums : Sums ws reached out r
    pub few : reached.passed + length rest ≤ 64
    pub left : step_all f reached rest ≡ goal

  pub going_start : (ws : List Bytes) (out : Bytes) (r : Sum) (rest : List Bytes) (s : State) → Sums ws s out r → s.passed + length rest ≤ 64 → Going ws out r rest (step_all f s rest)
  going_start ws out r rest s h l = record { reached = s; sums = h; few = l; left = refl }

  module _ (ws : List Bytes) (out : Bytes) (r : Sum) (rest : List Bytes) (goal : State) (g : Going ws out r rest goal) where
    pub going_end : rest ≡ [] → Sums ws goal out r
    going_end e = subst (λ (t : State). Sums ws t out r) (sym (ap (step_all f g.reached) e) ∙ g.left) g.sums

    -- words of which the sums are told, and those behind them
    module _ (ms later : List Bytes) (e : rest ≡ ms ++ later) (now : Bytes) (y : Maybe Sum) (h : SummedAs ws (step_all f g.reached ms) now y) where
      goal-is : step_all f (step_all f g.reached ms) later ≡ goal
      goal-is = sym (step-append g.reached ms later) ∙ ap (step_all f g.reached) (sym e) ∙ g.left

      pub going-none : y ≡ None → goal.pairs ≡ none
      going-none q = sym (ap (λ (t : State). t.pairs) goal-is) ∙ none_stays (step_all f g.reached ms) later (subst (SummedAs ws (step_all f g.reached ms) now) q h)

      pub going_on : (next : Sum) → y ≡ Some next → Going ws now next later goal
      going_on next q =
          record {
            reached = step_all f g.reached ms;
            sums = subst (SummedAs ws (step_all f g.reached ms) now) q h;
            few = omega (arith, g.few, step-passed g.reached ms, ap length e, length-append ms later);
            left = goal-is;
          }

-- the first of words that pass a test, and the others
pub first_passes : (p : Bytes → Bool) (ns later : List Bytes) (n : Bytes) → ns ≡ n ∷ later → all p ns ≡ true → (p n ≡ true) × (all p later ≡ true)
first_passes p ns later n e h = (and-eq-true_iff (p n) (all p later)).0 (sym (ap (all p) e) ∙ h)

pub span-within : (s : Bytes) (a e : ℕ) → e ≤ length s → length (span a e s) ≤ length s
span-within s a e h = simp (length-take, length-drop) (omega arith)

-- before the first word nothing is added
pub sums-start : (ws : List Bytes) (ns : List Bytes) (out : Bytes) (x : ℕ) → Seen ws ns x → Sums ws (unadded ns) out (record { len = 0; short = true; seen = x })
sums-start ws ns out x h = record { added = []; are = refl; few = omega arith; marks = h; len_is = refl; len-most = omega arith; short-is = refl; text = λ e. (refl, omega arith) }

-- what the sums tell where no word is left
module _ (ws : List Bytes) (s : State) (out : Bytes) (y : Maybe Sum) (h : SummedAs ws s out y) where
  pub told_none : y ≡ None → s.pairs ≡ none
  told_none e = subst (SummedAs ws s out) e h

  module _ (r : Sum) (e : y ≡ Some r) where
    abbrev sums : Sums ws s out r
    sums = subst (SummedAs ws s out) e h

    pub told_text : s.passed ≤ 64 → 5504 ≤ length out → r.short ≡ true → AddedAs s.pairs out (Added.Text r.len)
    told_text few room q =
        (sums.added, (sums.are, record { len_is = sums.len_is; inside = omega (arith, (sums.text q).1, sums.few, few, room); text = (sums.text q).0; short = sym sums.short-is ∙ q }))

    pub told-long : r.short ≡ false → AddedAs s.pairs out (Added.Long r.len)
    told-long q = (sums.added, (sums.are, record { len_is = sums.len_is; long = sym sums.short-is ∙ q }))
