-- Reading an expression into a program, one token after another: what is read to a place, and what a token makes of it.
use Prim.Native.Nat.{ℕ, zero, suc, ◌+◌, ◌-◌, ◌*◌, ◌≤◌, ◌<◌}
use native.Mathlib.Omega.{arith}
use mathlib.Core.Path.{◌≡◌, refl, sym, ap, ◌∙◌, subst}
use mathlib.Core.Bool.{Bool, true, false, ◌&&◌}
use mathlib.Core.List.{List, [], ◌∷◌, ◌++◌, map, append-nil}
use mathlib.Core.Option.{Option, none, some}
use lib.Dec.{eqb, ltb}
use lib.ListN.{length, take, drop, get_or, length-map, length-drop, length-append, drop_of_length-le}
use lib.Seq.{length-take-le, drop-drop}
use borrow.Author.Tests.{le-leb, lt-leb, eqb-true, eq-eqb}
use Rattle.format.specs.Bytes.{Bytes, pick, is_some, is_blank}
use Rattle.format.specs.Lists.{onward, front}
use Rattle.format.specs.Lines.{is_first, is_later}
use Rattle.format.specs.Numbers.{Int, int_bounds, int_of}
use Rattle.lines.proofs.Cuts.{rest}
use Rattle.selection.specs.Expressions.{equals, differs, less_than, at_most, more_than, at_least, Expression, Sign, comparing, not_sign, and_sign, or_sign, open_sign, close_sign, Part, field_name, operand, sign, sign_bytes, open_at_most, bytes_at_most}
use Rattle.selection.specs.Reading.{Front, no_part, one_blank, one_part, sign_front, sign_among, all_signs, int_front, is_int_first, front_of, front_bytes, size_behind, with_front, parts_behind, parts_of, Level, Stage, wanting, naming, holding, done, Reader, may_take, advance, at_end, grouped_from, beginning, read_expression}
use Rattle.selection.specs.Programs.{Test, code_no, Progress, to_stage, past, tests_with, codes_of}
use Rattle.selection.specs.Tokens.{operator_bytes, symbol_bytes, token_bytes, operator_in, sign_in, front_in}
use Rattle.selection.specs.Rows.{tests_at_most, test_in, tests_in, codes_in, step_no, progress_in, Filled, Extends, past_front, tests_front, codes_front, ProgramOf}
use Rattle.selection.specs.declared.parts.Operator.{Operator as Written}
use Rattle.selection.specs.declared.parts.Symbol.{Symbol}
use Rattle.selection.specs.declared.parts.Token.{Token}
use Rattle.selection.specs.declared.programs.Program.{Program}
use Rattle.selection.specs.declared.programs.Reading.{Reading}
use Rattle.selection.proofs.Ints.{pick-either}
use Rattle.selection.proofs.Complete.{read_from, read_if}
use Rattle.selection.proofs.Finding.{parts-skip, parts-past}
use Rattle.selection.proofs.Agreeing.{stage_no, Agrees, AgreesIf, AgreesAtEnd, part-agrees, start-agrees, end-agrees}

-- The bytes of a part: two for a joint, one at least for any other

abbrev joint_bytes : Part → ℕ
joint_bytes (field_name w) = 1
joint_bytes (operand v) = 1
joint_bytes (sign (comparing o)) = 1
joint_bytes (sign not_sign) = 1
joint_bytes (sign and_sign) = 2
joint_bytes (sign or_sign) = 2
joint_bytes (sign open_sign) = 1
joint_bytes (sign close_sign) = 1

joint-least : (p : Part) → 1 ≤ joint_bytes p
joint-least (field_name w) = omega arith
joint-least (operand v) = omega arith
joint-least (sign (comparing o)) = omega arith
joint-least (sign not_sign) = omega arith
joint-least (sign and_sign) = omega arith
joint-least (sign or_sign) = omega arith
joint-least (sign open_sign) = omega arith
joint-least (sign close_sign) = omega arith

abbrev HasBytes : Front → Type 0
HasBytes no_part = Unit {0}
HasBytes one_blank = Unit {0}
HasBytes (one_part p n) = joint_bytes p ≤ n

sign-has : (g : Sign) → joint_bytes (sign g) ≤ length (sign_bytes g)
sign-has (comparing equals) = omega arith
sign-has (comparing differs) = omega arith
sign-has (comparing less_than) = omega arith
sign-has (comparing at_most) = omega arith
sign-has (comparing more_than) = omega arith
sign-has (comparing at_least) = omega arith
sign-has not_sign = omega arith
sign-has and_sign = omega arith
sign-has or_sign = omega arith
sign-has open_sign = omega arith
sign-has close_sign = omega arith

front-has : (c : ℕ) (s : Bytes) → HasBytes (front_of c s)
front-has c s =
    pick-either HasBytes (is_first c) _ _ (λ _. omega arith) (λ _.
    pick-either HasBytes (is_int_first c) _ _ (λ _. ints (int_of int_bounds (c ∷ front is_later s))) (λ _.
    pick-either HasBytes (is_blank c) _ _ (λ _. tt) (λ _.
    pick-either HasBytes (eqb c 39) _ _ (λ _. omega arith) (λ _. signs (sign_among all_signs (c ∷ s))))))
  where
    ints : (x : Option Int) → HasBytes (int_front (suc (length (front is_later s))) x)
    ints none = tt
    ints (some z) = omega arith

    signs : (x : Option Sign) → HasBytes (sign_front x)
    signs none = tt
    signs (some g) = sign-has g

front_bytes_lem : (x : Front) → HasBytes x → 1 ≤ front_bytes x
front_bytes_lem no_part h = omega arith
front_bytes_lem one_blank h = omega arith
front_bytes_lem (one_part p n) h = omega (arith, joint-least p)

-- the bytes of a token

operator-front : (o : Written) → operator_bytes o ≡ length (sign_bytes (comparing (operator_in o)))
operator-front Written.Equals = refl
operator-front Written.Differs = refl
operator-front Written.LessThan = refl
operator-front Written.AtMost = refl
operator-front Written.MoreThan = refl
operator-front Written.AtLeast = refl

symbol-front : (g : Symbol) → symbol_bytes g ≡ front_bytes (sign_front (sign_in g))
symbol-front (Symbol.Comparing o) = operator-front o
symbol-front Symbol.Not = refl
symbol-front Symbol.And = refl
symbol-front Symbol.Or = refl
symbol-front Symbol.Open = refl
symbol-front Symbol.Close = refl
symbol-front Symbol.Unknown = refl

token-front : (s : Bytes) (t : Token) → token_bytes t ≡ front_bytes (front_in s t)
token-front s Token.Nothing = refl
token-front s Token.Gap = refl
token-front s (Token.Name n) = refl
token-front s (Token.Int w n) = refl
token-front s (Token.Text n) = refl
token-front s (Token.Sign g) = symbol-front g

-- what the code finds in the part from a place on is what stands there, and it has bytes
pub front-told : (s : Bytes) (i : ℕ) (t : Token) → let u : Bytes = take (length s - i) (drop i s) in front_in u t ≡ front_of (get_or u 0 0) (drop 1 u) → front_in (drop i s) t ≡ front_of (get_or (drop i s) 0 0) (drop 1 (drop i s))
front-told s i t e = subst (λ (u : Bytes). front_in u t ≡ front_of (get_or u 0 0) (drop 1 u)) (rest s i) e

pub token-least : (u : Bytes) (t : Token) → front_in u t ≡ front_of (get_or u 0 0) (drop 1 u) → 1 ≤ token_bytes t
token-least u t e = omega (arith, token-front u t, front_bytes_lem (front_in u t) (subst HasBytes (sym e) (front-has (get_or u 0 0) (drop 1 u))))

pub token-size : (n : ℕ) (u : Bytes) (t : Token) → n ≡ token_bytes t → n ≡ front_bytes (front_in u t)
token-size n u t e = e ∙ token-front u t

-- The reading from a place, by what stands there

abbrev FrontReads : Bytes → Reader → Front → Type 0
FrontReads u q no_part = read_from u q ≡ none
FrontReads u q one_blank = read_from u q ≡ read_from (drop 1 u) q
FrontReads u q (one_part p n) = (n ≤ length u → read_from u q ≡ read_if (drop n u) (advance q.room q.outer q.stage p)) × (length u < n → read_from u q ≡ none)

no-parts : (y : Option (List Part)) (q : Reader) → onward (λ (ps : List Part). grouped_from ps q) (onward (with_front no_part) y) ≡ none
no-parts none q = refl
no-parts (some ps) q = refl

blank-parts : (y : Option (List Part)) → onward (with_front one_blank) y ≡ y
blank-parts none = refl
blank-parts (some ps) = refl

first_part : (y : Option (List Part)) (q : Reader) (p : Part) (n : ℕ) (z : Option Reader) → advance q.room q.outer q.stage p ≡ z →
    onward (λ (ps : List Part). grouped_from ps q) (onward (with_front (one_part p n)) y) ≡ onward (λ (r : Reader). onward (λ (ps : List Part). grouped_from ps r) y) z
first_part none q p n none e = refl
first_part none q p n (some r) e = refl
first_part (some ps) q p n z e = ap (onward (grouped_from ps)) e

front_reads : (u : Bytes) (q : Reader) (x : Front) → 0 < length u → HasBytes x → x ≡ front_of (get_or u 0 0) (drop 1 u) → FrontReads u q x
front_reads [] q x h b e = absurd (omega arith)
front_reads (c ∷ v) q no_part h b e = ap (λ (y : Front). onward (λ (ps : List Part). grouped_from ps q) (onward (with_front y) (parts_behind (size_behind y) v))) (sym e) ∙ no-parts (parts_behind zero v) q
front_reads (c ∷ v) q one_blank h b e = ap (λ (y : Front). onward (λ (ps : List Part). grouped_from ps q) (onward (with_front y) (parts_behind (size_behind y) v))) (sym e) ∙ ap (onward (λ (ps : List Part). grouped_from ps q)) (blank-parts (parts_behind zero v))
front_reads (c ∷ v) q (one_part p zero) h b e = absurd (omega (arith, joint-least p))
front_reads (c ∷ v) q (one_part p (suc n)) h b e =
    let k = ap (λ (y : Front). onward (λ (ps : List Part). grouped_from ps q) (onward (with_front y) (parts_behind (size_behind y) v))) (sym e) in (
      (λ l. k ∙ ap (λ (y : Option (List Part)). onward (λ (ps : List Part). grouped_from ps q) (onward (with_front (one_part p (suc n))) y)) (parts-skip n v (omega arith)) ∙ first_part (parts_behind zero (drop n v)) q p (suc n) (advance q.room q.outer q.stage p) refl),
      (λ l. k ∙ ap (λ (y : Option (List Part)). onward (λ (ps : List Part). grouped_from ps q) (onward (with_front (one_part p (suc n))) y)) (parts-past n v (omega arith))),
    )

-- At most 51 comparisons: what the stage still asks for is put on top of five bytes each

abbrev weight : ℕ → ℕ
weight zero = 2
weight (suc zero) = 3
weight (suc (suc zero)) = 4
weight (suc (suc (suc k))) = 0

abbrev Weighs : Stage → Progress → List Test → Part → Type 0
Weighs x g ts p =
    (m i : ℕ) → joint_bytes p ≤ m → 5 * length ts + weight (stage_no x) ≤ i + 2 → ((past p (to_stage (stage_no x) g)).stage ≡ 4 → ⊥) →
    5 * length (tests_with (to_stage (stage_no x) g) p ts) + weight (past p (to_stage (stage_no x) g)).stage ≤ (i + m) + 2

taken-weighs : (t : Bool) (ts : List Test) (e : Test) (m i : ℕ) → 1 ≤ m → 5 * length ts + 4 ≤ i + 2 → (pick {A = ℕ} t 3 4 ≡ 4 → ⊥) → 5 * length (ts ++ (e ∷ [])) + weight (pick t 3 4) ≤ (i + m) + 2
taken-weighs true ts e m i l h z = omega (arith, length-append ts (e ∷ []))
taken-weighs false ts e m i l h z = absurd (z refl)

opened-weighs : (t : Bool) (g h : Progress) (n m i : ℕ) → g.stage ≡ 0 → h.stage ≡ 4 → 1 ≤ m → n + 2 ≤ i + 2 → ((pick t g h).stage ≡ 4 → ⊥) → n + weight (pick t g h).stage ≤ (i + m) + 2
opened-weighs true g h n m i e f l k z = omega (arith, ap weight e)
opened-weighs false g h n m i e f l k z = absurd (z f)

closed-weighs : (t : Bool) (g h : Progress) (n m i : ℕ) → g.stage ≡ 4 → h.stage ≡ 3 → 1 ≤ m → n + 0 ≤ i + 2 → ((pick t g h).stage ≡ 4 → ⊥) → n + weight (pick t g h).stage ≤ (i + m) + 2
closed-weighs true g h n m i e f l k z = absurd (z e)
closed-weighs false g h n m i e f l k z = omega (arith, ap weight f)

part-weighs : (x : Stage) (g : Progress) (ts : List Test) (p : Part) → Weighs x g ts p
part-weighs (wanting f) g ts (field_name w) m i l h z = omega arith
part-weighs (wanting f) g ts (operand v) m i l h z = absurd (z refl)
part-weighs (wanting f) g ts (sign (comparing o)) m i l h z = absurd (z refl)
part-weighs (wanting f) g ts (sign not_sign) m i l h z = omega arith
part-weighs (wanting f) g ts (sign and_sign) m i l h z = absurd (z refl)
part-weighs (wanting f) g ts (sign or_sign) m i l h z = absurd (z refl)
part-weighs (wanting f) g ts (sign open_sign) m i l h z = opened-weighs (ltb g.groups open_at_most) _ _ (5 * length ts) m i refl refl l h z
part-weighs (wanting f) g ts (sign close_sign) m i l h z = absurd (z refl)
part-weighs (naming f w) g ts (field_name v) m i l h z = absurd (z refl)
part-weighs (naming f w) g ts (operand v) m i l h z = absurd (z refl)
part-weighs (naming f w) g ts (sign (comparing o)) m i l h z = omega arith
part-weighs (naming f w) g ts (sign not_sign) m i l h z = absurd (z refl)
part-weighs (naming f w) g ts (sign and_sign) m i l h z = absurd (z refl)
part-weighs (naming f w) g ts (sign or_sign) m i l h z = absurd (z refl)
part-weighs (naming f w) g ts (sign open_sign) m i l h z = absurd (z refl)
part-weighs (naming f w) g ts (sign close_sign) m i l h z = absurd (z refl)
part-weighs (holding f w o) g ts (field_name v) m i l h z = absurd (z refl)
part-weighs (holding f w o) g ts (operand v) m i l h z = taken-weighs (may_take g.operator v) ts _ m i l h z
part-weighs (holding f w o) g ts (sign (comparing p)) m i l h z = absurd (z refl)
part-weighs (holding f w o) g ts (sign not_sign) m i l h z = absurd (z refl)
part-weighs (holding f w o) g ts (sign and_sign) m i l h z = absurd (z refl)
part-weighs (holding f w o) g ts (sign or_sign) m i l h z = absurd (z refl)
part-weighs (holding f w o) g ts (sign open_sign) m i l h z = absurd (z refl)
part-weighs (holding f w o) g ts (sign close_sign) m i l h z = absurd (z refl)
part-weighs (done a e) g ts (field_name w) m i l h z = absurd (z refl)
part-weighs (done a e) g ts (operand v) m i l h z = absurd (z refl)
part-weighs (done a e) g ts (sign (comparing o)) m i l h z = absurd (z refl)
part-weighs (done a e) g ts (sign not_sign) m i l h z = absurd (z refl)
part-weighs (done a e) g ts (sign and_sign) m i l h z = omega arith
part-weighs (done a e) g ts (sign or_sign) m i l h z = omega arith
part-weighs (done a e) g ts (sign open_sign) m i l h z = absurd (z refl)
part-weighs (done a e) g ts (sign close_sign) m i l h z = closed-weighs (eqb g.groups 0) _ _ (5 * length ts) m i refl refl l h z

-- What is read to a place

pub record ReadTo (s : Bytes) (i : ℕ) (r : Reading) (p : Program) : Type 0 where
  pub inside : i ≤ length s
  pub filled : Filled p
  pub codes-few : p.size ≤ i
  pub tests-few : 5 * p.count + weight (step_no r.stage) ≤ i + 2
  pub room : ℕ
  pub outer : List Level
  pub at : Stage
  pub agrees : Agrees room outer at (progress_in s r) (tests_in s p) (codes_in p)
  pub reads : read_from s beginning ≡ read_from (drop i s) (record { room = room; outer = outer; stage = at })

pub count-tests : (s : Bytes) (p : Program) → Filled p → length (tests_in s p) ≡ p.count
count-tests s p f = length-map (take p.count p.rows) (test_in s) ∙ length-take-le p.count p.rows (omega (arith, f.rows_long, f.few))

-- room for one comparison more where one may come
pub tests-room : (s : Bytes) (i : ℕ) (r : Reading) (p : Program) → ReadTo s i r p → i < bytes_at_most → step_no r.stage ≡ 2 → p.count < tests_at_most
tests-room s i r p t h e = omega (arith, t.tests-few, ap weight e)

-- no stage is that of a refusal
no-stage : (x : Stage) → stage_no x ≡ 4 → ⊥
no-stage (wanting f) e = omega arith
no-stage (naming f m) e = omega arith
no-stage (holding f m o) e = omega arith
no-stage (done l e) f = omega arith

refused_none : (y : Option Reader) (u : Bytes) (g : Progress) (ts : List Test) (cs : List ℕ) → AgreesIf y g ts cs → g.stage ≡ 4 → read_if u y ≡ none
refused_none none u g ts cs a e = refl
refused_none (some q) u g ts cs a e = absurd (no-stage q.stage (a.at_stage ∙ e))

module _ (s : Bytes) (i : ℕ) (r : Reading) (p : Program) (t : ReadTo s i r p) (more : i < length s) where
  abbrev here : Reader
  here = record { room = t.room; outer = t.outer; stage = t.at }

  u-long : length (drop i s) ≡ length s - i
  u-long = length-drop i s

  -- a token that reaches past the end
  pub past_end : (x : Front) (n : ℕ) → x ≡ front_of (get_or (drop i s) 0 0) (drop 1 (drop i s)) → n ≡ front_bytes x → length s - i < n → read_from s beginning ≡ none
  past_end x n e f h = t.reads ∙ go x (subst HasBytes (sym e) (front-has (get_or (drop i s) 0 0) (drop 1 (drop i s)))) e f
    where
      go : (y : Front) → HasBytes y → y ≡ front_of (get_or (drop i s) 0 0) (drop 1 (drop i s)) → n ≡ front_bytes y → read_from (drop i s) here ≡ none
      go no_part b k l = absurd (omega arith)
      go one_blank b k l = absurd (omega arith)
      go (one_part q m) b k l = (front_reads (drop i s) here (one_part q m) (omega (arith, u-long)) b k).1 (omega (arith, u-long))

  module _ (x : Front) (n : ℕ) (e : x ≡ front_of (get_or (drop i s) 0 0) (drop 1 (drop i s))) (f : n ≡ front_bytes x) (h : i + n ≤ length s) (v : Reading) (q : Program) where
    has : HasBytes x
    has = subst HasBytes (sym e) (front-has (get_or (drop i s) 0 0) (drop 1 (drop i s)))

    behind : (k : ℕ) → drop k (drop i s) ≡ drop (i + k) s
    behind k = drop-drop k i s

    -- a token that leads to no expression
    pub past-refused : progress_in s v ≡ past_front x (progress_in s r) → step_no v.stage ≡ 4 → read_from s beginning ≡ none
    past-refused g z = t.reads ∙ go x has e f g
      where
        go : (y : Front) → HasBytes y → y ≡ front_of (get_or (drop i s) 0 0) (drop 1 (drop i s)) → n ≡ front_bytes y → progress_in s v ≡ past_front y (progress_in s r) → read_from (drop i s) here ≡ none
        go no_part b k l w = front_reads (drop i s) here no_part (omega (arith, u-long)) b k
        go one_blank b k l w = absurd (no-stage t.at (t.agrees.at_stage ∙ sym (ap (λ (o : Progress). o.stage) w) ∙ z))
        go (one_part o m) b k l w =
            (front_reads (drop i s) here (one_part o m) (omega (arith, u-long)) b k).0 (omega (arith, u-long))
            ∙ refused_none (advance t.room t.outer t.at o) (drop m (drop i s)) (past o (progress_in s r)) _ _ (part-agrees t.room t.outer t.at (progress_in s r) (tests_in s p) (codes_in p) o t.agrees) (sym (ap (λ (d : Progress). d.stage) w) ∙ z)

    -- a token more
    read-part : (o : Part) → joint_bytes o ≤ n → (y : Option Reader) → read_from s beginning ≡ read_if (drop (i + n) s) y → Extends p q (codes_of o) → tests_in s q ≡ tests_with (progress_in s r) o (tests_in s p) → progress_in s v ≡ past o (progress_in s r) → (step_no v.stage ≡ 4 → ⊥) →
        AgreesIf y (past o (progress_in s r)) (tests_with (progress_in s r) o (tests_in s p)) (codes_in p ++ codes_of o) → ReadTo s (i + n) v q
    read-part o b none k x ts g z a = absurd (z (ap (λ (d : Progress). d.stage) g ∙ a))
    read-part o b (some w) k x ts g z a =
        let st : stage_no t.at ≡ step_no r.stage = t.agrees.at_stage in
        let weighs : 5 * length (tests_with (progress_in s r) o (tests_in s p)) + weight (past o (progress_in s r)).stage ≤ (i + n) + 2 =
        subst (λ (j : ℕ). 5 * length (tests_in s p) + weight j ≤ i + 2 → ((past o (to_stage j (progress_in s r))).stage ≡ 4 → ⊥) → 5 * length (tests_with (to_stage j (progress_in s r)) o (tests_in s p)) + weight (past o (to_stage j (progress_in s r))).stage ≤ (i + n) + 2) st
        (λ h k. part-weighs t.at (progress_in s r) (tests_in s p) o n i b h k)
        (omega (arith, t.tests-few, count-tests s p t.filled)) (λ y. z (ap (λ (d : Progress). d.stage) g ∙ y)) in
        record {
          inside = h;
          filled = x.filled;
          codes-few = omega (arith, x.one, t.codes-few, joint-least o);
          tests-few = omega (arith, weighs, ap length ts, count-tests s q x.filled, ap (λ (d : Progress). weight d.stage) g);
          room = w.room;
          outer = w.outer;
          at = w.stage;
          agrees = subst (λ (d : Progress). Agrees w.room w.outer w.stage d (tests_in s q) (codes_in q)) (sym g)
              (subst (λ (us : List Test). Agrees w.room w.outer w.stage (past o (progress_in s r)) us (codes_in q)) (sym ts)
              (subst (λ (cs : List ℕ). Agrees w.room w.outer w.stage (past o (progress_in s r)) (tests_with (progress_in s r) o (tests_in s p)) cs) (sym x.codes) a));
          reads = k;
        }

    pub past_more : Extends p q (codes_front x) → tests_in s q ≡ tests_front (progress_in s r) x (tests_in s p) → progress_in s v ≡ past_front x (progress_in s r) → (step_no v.stage ≡ 4 → ⊥) → ReadTo s (i + n) v q
    past_more = go x has e f
      where
        go : (y : Front) → HasBytes y → y ≡ front_of (get_or (drop i s) 0 0) (drop 1 (drop i s)) → n ≡ front_bytes y → Extends p q (codes_front y) → tests_in s q ≡ tests_front (progress_in s r) y (tests_in s p) → progress_in s v ≡ past_front y (progress_in s r) → (step_no v.stage ≡ 4 → ⊥) → ReadTo s (i + n) v q
        go no_part b k l x ts g z = absurd (z (ap (λ (d : Progress). d.stage) g))
        go one_blank b k l x ts g z =
            record {
              inside = h;
              filled = x.filled;
              codes-few = omega (arith, t.codes-few, blank-size x);
              tests-few = omega (arith, t.tests-few, ap length ts, count-tests s p t.filled, count-tests s q x.filled, ap (λ (d : Progress). weight d.stage) g);
              room = t.room;
              outer = t.outer;
              at = t.at;
              agrees = subst (λ (d : Progress). Agrees t.room t.outer t.at d (tests_in s q) (codes_in q)) (sym g)
                  (subst (λ (us : List Test). Agrees t.room t.outer t.at (progress_in s r) us (codes_in q)) (sym ts)
                  (subst (λ (cs : List ℕ). Agrees t.room t.outer t.at (progress_in s r) (tests_in s p) cs) (sym (append-nil (codes_in p)) ∙ sym x.codes) t.agrees));
              reads = t.reads ∙ front_reads (drop i s) here one_blank (omega (arith, u-long)) b k ∙ ap (λ (d : Bytes). read_from d here) (behind 1 ∙ ap (λ (m : ℕ). drop (i + m) s) (sym l));
            }
          where
            blank-size : Extends p q [] → q.size ≤ i + n
            blank-size x = omega (arith, x.one, t.codes-few, l)
        go (one_part o m) b k l x ts g z =
            read-part o (omega arith) (advance t.room t.outer t.at o)
            (t.reads ∙ (front_reads (drop i s) here (one_part o m) (omega (arith, u-long)) b k).0 (omega (arith, u-long)) ∙ ap (λ (d : Bytes). read_if d (advance t.room t.outer t.at o)) (behind m ∙ ap (λ (j : ℕ). drop (i + j) s) (sym l)))
            x ts g z (part-agrees t.room t.outer t.at (progress_in s r) (tests_in s p) (codes_in p) o t.agrees)

-- Before the first token and behind the last

pub read-start : (s : Bytes) (r : Reading) (p : Program) → step_no r.stage ≡ 0 → r.groups ≡ 0 → Filled p → p.count ≡ 0 → p.size ≡ 0 → ReadTo s 0 r p
read-start s r p e f g h k =
    record {
      inside = omega arith;
      filled = g;
      codes-few = omega arith;
      tests-few = omega (arith, ap weight e);
      room = beginning.room;
      outer = beginning.outer;
      at = beginning.stage;
      agrees = subst (λ (cs : List ℕ). Agrees beginning.room beginning.outer beginning.stage (progress_in s r) (tests_in s p) cs) (sym (ap (λ (n : ℕ). map code_no (take n p.codes)) k))
          (subst (λ (ts : List Test). Agrees beginning.room beginning.outer beginning.stage (progress_in s r) ts []) (sym (ap (λ (n : ℕ). map (test_in s) (take n p.rows)) h)) (start-agrees (progress_in s r) e f));
      reads = refl;
    }

short-reads : (s : Bytes) → length s ≤ bytes_at_most → read_expression s ≡ read_from s beginning
unfolding read_expression parts_of
short-reads s h = ap (λ (b : Bool). onward (λ (ps : List Part). pick b (grouped_from ps beginning) none) (parts_behind zero s)) (le-leb (length s) bytes_at_most h)

-- what is answered of bytes
abbrev pub Answers : Bytes → Bool → Program → Type 0
Answers s b p = (b ≡ is_some (read_expression s)) × Filled p × ProgramOf s (read_expression s) p

none_answers : (s : Bytes) (p : Program) → read_expression s ≡ none → Filled p → Answers s false p
none_answers s p e f = (sym (ap is_some e), f, subst (λ (x : Option Expression). ProgramOf s x p) (sym e) tt)

pub long-answers : (s : Bytes) (p : Program) → bytes_at_most < length s → Filled p → Answers s false p
unfolding read_expression parts_of
long-answers s p h f = none_answers s p (ap (λ (b : Bool). onward (λ (ps : List Part). pick b (grouped_from ps beginning) none) (parts_behind zero s)) (lt-leb (length s) bytes_at_most h) ∙ go (parts_behind zero s)) f
  where
    go : (y : Option (List Part)) → onward {A = List Part} {B = Expression} (λ ps. none) y ≡ none
    go none = refl
    go (some ps) = refl

pub refused-answers : (s : Bytes) (p : Program) → length s ≤ bytes_at_most → read_from s beginning ≡ none → Filled p → Answers s false p
refused-answers s p h e f = none_answers s p (short-reads s h ∙ e) f

and_no : (g : Progress) → (g.stage ≡ 3 → g.groups ≡ 0 → ⊥) → eqb g.stage 3 && eqb g.groups 0 ≡ false
and_no g h = go (eqb g.stage 3) (eqb g.groups 0) refl refl
  where
    go : (a b : Bool) → eqb g.stage 3 ≡ a → eqb g.groups 0 ≡ b → a && b ≡ false
    go true true e f = absurd (h (eqb-true g.stage 3 e) (eqb-true g.groups 0 f))
    go true false e f = refl
    go false b e f = refl

pub end-answers : (s : Bytes) (i : ℕ) (r : Reading) (p : Program) (b : Bool) → ReadTo s i r p → length s ≤ i → length s ≤ bytes_at_most → b ≡ (eqb (step_no r.stage) 3 && eqb r.groups 0) → Answers s b p
end-answers s i r p b t h l e =
    let reads : read_expression s ≡ at_end t.outer t.at =
    short-reads s l ∙ t.reads ∙ ap (λ (u : Bytes). read_from u (record { room = t.room; outer = t.outer; stage = t.at })) (drop_of_length-le s h) in
    let a = go (at_end t.outer t.at) (end-agrees t.room t.outer t.at (progress_in s r) (tests_in s p) (codes_in p) t.agrees) in
    (e ∙ a.0 ∙ sym (ap is_some reads), t.filled, subst (λ (x : Option Expression). ProgramOf s x p) (sym reads) a.1)
  where
    go : (x : Option Expression) → AgreesAtEnd x (progress_in s r) (tests_in s p) (codes_in p) → ((eqb (step_no r.stage) 3 && eqb r.groups 0) ≡ is_some x) × ProgramOf s x p
    go none a = (and_no (progress_in s r) a, tt)
    go (some e) a = (λ j. eq-eqb (step_no r.stage) 3 a.0 j && eq-eqb r.groups 0 a.1 j, a.2)
