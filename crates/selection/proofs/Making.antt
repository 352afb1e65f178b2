-- The making of a program, as the code tests its stage.
use Prim.Native.Nat.{ℕ, ◌+◌, ◌-◌, ◌<◌}
use native.Mathlib.Omega.{arith}
use native.Mathlib.Numerals.{add-one}
use mathlib.Core.Path.{◌≡◌, refl, sym, ap, ◌∙◌, subst}
use mathlib.Core.Bool.{Bool, true, false, not, false≢true}
use mathlib.Core.List.{List, [], ◌∷◌, ◌++◌, map, append-nil, map-append}
use mathlib.Core.Option.{Option, none, some}
use lib.Dec.{eqb}
use lib.ListN.{take, drop, set, length-set}
use lib.Seq.{drop-drop, take-suc-set}
use borrow.Author.Tests.{eq-eqb, ne_eqb, eqb-true, eqb-false}
use Rattle.format.specs.Bytes.{Bytes, pick}
use Rattle.words.specs.Spans.{span}
use Rattle.selection.specs.Expressions.{string, Sign, operand, bytes_at_most}
use Rattle.selection.specs.Reading.{sign_front}
use Rattle.selection.specs.Programs.{Test, code_no, Progress, to_stage, if_at, past_name, past_operand, tests_with}
use Rattle.selection.specs.Tokens.{sign_in, front_in}
use Rattle.selection.specs.Rows.{tests_at_most, test_in, tests_in, codes_in, step_no, Filled, Extends, past_symbol, codes_of_symbol, past_front, tests_front, codes_front}
use Rattle.selection.specs.contracts.programs.Step.{the_type}
use denote.Enum.Bare.{sameb}
use Rattle.selection.specs.declared.programs.Step.{Step}
use Rattle.selection.specs.declared.runs.Code.{Code}
use Rattle.selection.specs.declared.parts.Symbol.{Symbol}
use Rattle.selection.specs.declared.parts.Token.{Token}
use Rattle.selection.specs.declared.programs.Comparison.{Comparison}
use Rattle.selection.specs.declared.programs.Program.{Program}
use Rattle.selection.proofs.Ints.{pick_true, pick-false}

pub at_stage : (k : ℕ) (g h q : Progress) → g.stage ≡ k → q ≡ h → q ≡ if_at k g h
at_stage k g h q e f = f ∙ sym (pick_true (eqb g.stage k) h (to_stage 4 g) (eq-eqb g.stage k e))

pub off-stage : (k : ℕ) (g h q : Progress) → (g.stage ≡ k → ⊥) → q ≡ to_stage 4 g → q ≡ if_at k g h
off-stage k g h q e f = f ∙ sym (pick-false (eqb g.stage k) h (to_stage 4 g) (ne_eqb g.stage k e))

-- the steps that the code compares
pub step_same : (a b : Step) → sameb the_type a b ≡ eqb (step_no a) (step_no b)
step_same Step.Wanted Step.Wanted = refl
step_same Step.Wanted Step.Named = refl
step_same Step.Wanted Step.Compared = refl
step_same Step.Wanted Step.Read = refl
step_same Step.Wanted Step.Fault = refl
step_same Step.Named Step.Wanted = refl
step_same Step.Named Step.Named = refl
step_same Step.Named Step.Compared = refl
step_same Step.Named Step.Read = refl
step_same Step.Named Step.Fault = refl
step_same Step.Compared Step.Wanted = refl
step_same Step.Compared Step.Named = refl
step_same Step.Compared Step.Compared = refl
step_same Step.Compared Step.Read = refl
step_same Step.Compared Step.Fault = refl
step_same Step.Read Step.Wanted = refl
step_same Step.Read Step.Named = refl
step_same Step.Read Step.Compared = refl
step_same Step.Read Step.Read = refl
step_same Step.Read Step.Fault = refl
step_same Step.Fault Step.Wanted = refl
step_same Step.Fault Step.Named = refl
step_same Step.Fault Step.Compared = refl
step_same Step.Fault Step.Read = refl
step_same Step.Fault Step.Fault = refl

not_so : (x : Bool) → not x ≡ true → x ≡ false
not_so true e = absurd (false≢true e)
not_so false e = refl

is-so : (x : Bool) → not x ≡ false → x ≡ true
is-so true e = refl
is-so false e = absurd (false≢true (sym e))

module _ (a b : Step) (x : Bool) where
  pub step-is : x ≡ sameb the_type a b → x ≡ true → step_no a ≡ step_no b
  step-is e t = eqb-true (step_no a) (step_no b) (sym (step_same a b) ∙ sym e ∙ t)

  pub step-other : x ≡ sameb the_type a b → x ≡ false → step_no a ≡ step_no b → ⊥
  step-other e t = eqb-false (step_no a) (step_no b) (sym (step_same a b) ∙ sym e ∙ t)

  pub step-met : x ≡ not (sameb the_type a b) → x ≡ false → step_no a ≡ step_no b
  step-met e t = eqb-true (step_no a) (step_no b) (sym (step_same a b) ∙ is-so (sameb the_type a b) (sym e ∙ t))

  pub step-left : x ≡ not (sameb the_type a b) → x ≡ true → step_no a ≡ step_no b → ⊥
  step-left e t = eqb-false (step_no a) (step_no b) (sym (step_same a b) ∙ not_so (sameb the_type a b) (sym e ∙ t))

-- places of the expression

pub name-span : (s : Bytes) (at n : ℕ) → span at (at + n) s ≡ take n (drop at s)
name-span s at n = let e : at + n - at ≡ n = omega arith in ap (λ (k : ℕ). take k (drop at s)) e

pub text-span : (s : Bytes) (at n : ℕ) → span (at + 1) (at + n - 1) s ≡ take (n - 2) (drop 1 (drop at s))
text-span s at n =
    let e : at + n - 1 - (at + 1) ≡ n - 2 = omega arith in
    ap (λ (k : ℕ). take k (drop (at + 1) s)) e ∙ ap (take (n - 2)) (sym (drop-drop 1 at s))

-- past a token

module _ (s : Bytes) (at n : ℕ) (g q : Progress) (t : Token) where
  pub past-name-token : q ≡ past_name (span at (at + n) s) g → t ≡ Token.Name n → q ≡ past_front (front_in (drop at s) t) g
  past-name-token e f = e ∙ ap (λ (w : Bytes). past_name w g) (name-span s at n) ∙ ap (λ (x : Token). past_front (front_in (drop at s) x) g) (sym f)

  pub past-text-token : q ≡ past_operand (string (span (at + 1) (at + n - 1) s)) g → t ≡ Token.Text n → q ≡ past_front (front_in (drop at s) t) g
  past-text-token e f = e ∙ ap (λ (w : Bytes). past_operand (string w) g) (text-span s at n) ∙ ap (λ (x : Token). past_front (front_in (drop at s) x) g) (sym f)

pub past-sign-token : (s : Bytes) (g q : Progress) (x : Symbol) → q ≡ past_symbol (sign_in x) g → q ≡ past_front (front_in s (Token.Sign x)) g
past-sign-token s g q x e = e ∙ go (sign_in x)
  where
    go : (o : Option Sign) → past_symbol o g ≡ past_front (sign_front o) g
    go none = refl
    go (some y) = refl

-- a code and a comparison more

pub code-added : (p : Program) (c : Code) → Filled p → p.size < bytes_at_most → Extends p (record { rows = p.rows; count = p.count; codes = set p.codes p.size c; size = p.size + 1 }) (code_no c ∷ [])
code-added p c f h =
    record {
      filled = record { rows_long = f.rows_long; codes-long = length-set p.codes p.size c ∙ f.codes-long; few = f.few; short = omega arith };
      codes = ap (λ (k : ℕ). map code_no (take k (set p.codes p.size c))) (add-one p.size)
          ∙ ap (map code_no) (take-suc-set p.codes p.size c (omega (arith, f.codes-long)))
          ∙ map-append code_no (take p.size p.codes) (c ∷ []);
      one = omega arith;
    }

pub row-added : (p : Program) (x : Comparison) → Filled p → p.count < tests_at_most →
    let q : Program = record { rows = set p.rows p.count x; count = p.count + 1; codes = p.codes; size = p.size } in
    Extends p q [] × (q.size ≡ p.size) × ((s : Bytes) → tests_in s q ≡ tests_in s p ++ (test_in s x ∷ []))
row-added p x f h = (
  record {
    filled = record { rows_long = length-set p.rows p.count x ∙ f.rows_long; codes-long = f.codes-long; few = omega arith; short = f.short };
    codes = sym (append-nil (codes_in p));
    one = omega arith;
  },
  refl,
  λ s. ap (λ (k : ℕ). map (test_in s) (take k (set p.rows p.count x))) (add-one p.count)
      ∙ ap (map (test_in s)) (take-suc-set p.rows p.count x (omega (arith, f.rows_long)))
      ∙ map-append (test_in s) (take p.count p.rows) (x ∷ []),
)

pub no-code-added : (p : Program) → Filled p → Extends p p []
no-code-added p f = record { filled = f; codes = sym (append-nil (codes_in p)); one = omega arith }

-- a program with a comparison, behind one with its code
pub both-added : (p q r : Program) (cs : List ℕ) → Extends p q cs → Extends q r [] → r.size ≡ q.size → Extends p r cs
both-added p q r cs x y e = record { filled = y.filled; codes = y.codes ∙ append-nil (codes_in q) ∙ x.codes; one = omega (arith, x.one) }

pub same_tests : (s : Bytes) (p q : Program) → q.rows ≡ p.rows → q.count ≡ p.count → tests_in s q ≡ tests_in s p
same_tests s p q e f = λ i. map (test_in s) (take (f i) (e i))

pub test-added : (ts us vs : List Test) (e : Test) (b : Bool) → vs ≡ us ++ (e ∷ []) → us ≡ ts → b ≡ true → vs ≡ pick b (ts ++ (e ∷ [])) ts
test-added ts us vs e b h k t = h ∙ ap (λ (ws : List Test). ws ++ (e ∷ [])) k ∙ sym (pick_true b (ts ++ (e ∷ [])) ts t)

-- what a sign adds

pub sign_kept : (p : Program) (g y : Symbol) → g ≡ y → codes_of_symbol (sign_in y) ≡ [] → Filled p → Extends p p (codes_of_symbol (sign_in g))
sign_kept p g y e z f = subst (λ (x : Symbol). Extends p p (codes_of_symbol (sign_in x))) (sym e) (subst (Extends p p) (sym z) (no-code-added p f))

pub sign-added : (p q : Program) (g y : Symbol) → g ≡ y → Extends p q (codes_of_symbol (sign_in y)) → Extends p q (codes_of_symbol (sign_in g))
sign-added p q g y e x = subst (λ (z : Symbol). Extends p q (codes_of_symbol (sign_in z))) (sym e) x

-- what a token adds

abbrev pub Adds : Bytes → Bytes → Progress → Program → Program → Token → Type 0
Adds s w g p q t = Extends p q (codes_front (front_in w t)) × (tests_in s q ≡ tests_front g (front_in w t) (tests_in s p))

pub token-adds : (s w : Bytes) (g : Progress) (p q : Program) (t y : Token) → t ≡ y → Adds s w g p q y → Adds s w g p q t
token-adds s w g p q t y e a = subst (Adds s w g p q) (sym e) a

pub sign-adds : (s w : Bytes) (g : Progress) (p q : Program) (x : Symbol) → Extends p q (codes_of_symbol (sign_in x)) → tests_in s q ≡ tests_in s p → Adds s w g p q (Token.Sign x)
sign-adds s w g p q x a e = go (sign_in x) a
  where
    go : (o : Option Sign) → Extends p q (codes_of_symbol o) → Extends p q (codes_front (sign_front o)) × (tests_in s q ≡ tests_front g (sign_front o) (tests_in s p))
    go none a = (a, e)
    go (some y) a = (a, e)

pub text-adds : (s : Bytes) (at n : ℕ) (g : Progress) (p q : Program) → Extends p q (0 ∷ []) → tests_in s q ≡ tests_with g (operand (string (span (at + 1) (at + n - 1) s))) (tests_in s p) → Adds s (drop at s) g p q (Token.Text n)
text-adds s at n g p q a e = (a, e ∙ ap (λ (w : Bytes). tests_with g (operand (string w)) (tests_in s p)) (text-span s at n))
