-- The program agrees with the reader: as the parts come, the codes made so far, run over the bits of the comparisons made so far, leave each level as the reader has it.
use Prim.Native.Nat.{ℕ, zero, suc, ◌+◌, ◌-◌, ◌*◌, ◌/◌, ◌%◌, ◌≤◌, ◌<◌}
use native.Mathlib.Omega.{arith}
use mathlib.Core.Path.{◌≡◌, refl, sym, ap, ap₂, ◌∙◌, subst}
use mathlib.Core.Bool.{Bool, true, false, ◌&&◌, ◌||◌, not}
use mathlib.Core.List.{List, [], ◌∷◌, ◌++◌, append-nil}
use mathlib.Core.Option.{Option, none, some}
use lib.ListN.{length, length-append, get_or-append}
use lib.Seq.{get_or-append_seam}
use borrow.Author.Tests.{lt-ltb, le-ltb, ne_eqb, eq-eqb}
use Rattle.format.specs.Bytes.{Bytes, pick}
use Rattle.format.specs.Records.{Record}
use Rattle.terms.specs.Sets.{in_set}
use Rattle.selection.specs.Expressions.{Operator, Operand, Expression, comparison, negation, comparing, not_sign, and_sign, or_sign, open_sign, close_sign, Part, field_name, operand, sign, open_at_most}
use Rattle.selection.specs.Reading.{Level, empty_level, Stage, wanting, naming, holding, done, Reader, reader, negated_by, and_with, or_with, operand_on, one_not, may_take, advance, at_end, beginning}
use Rattle.selection.specs.Meaning.{holds}
use Rattle.selection.specs.declared.runs.Machine.{Machine}
use Rattle.selection.specs.Programs.{Test, no_test, meets, Told, differ, answered_by, inverted, joined, whole_answer, level_start, outer_room, on_open, on_close, on_code, runs, started, run_answer, IsProgram, Progress, to_stage, to_groups, past, tests_with, codes_of}

-- A level as a number

abbrev bit : Bool → ℕ
bit true = 1
bit false = 0

abbrev level_no : Bool → Bool → Bool → ℕ
level_no a b n = bit a + 2 * bit b + 4 * bit n

abbrev is_odd : ℕ → Bool
is_odd zero = false
is_odd (suc n) = not (is_odd n)

abbrev holds_or : Bool → Record → Option Expression → Bool
holds_or b r none = b
holds_or b r (some e) = holds e r

abbrev in_level : Record → Level → ℕ
in_level r l = level_no (holds_or false r l.ored) (holds_or true r l.anded) (is_odd l.nots)

abbrev level_of : Record → Stage → ℕ
level_of r (wanting l) = in_level r l
level_of r (naming l m) = in_level r l
level_of r (holding l m o) = in_level r l
level_of r (done l e) = level_no (holds_or false r l) (holds e r) false

abbrev outer_of : Record → List Level → ℕ
outer_of r [] = 0
outer_of r (l ∷ k) = outer_of r k * 8 + in_level r l

abbrev machine_of : Record → List Level → Stage → ℕ → Machine
machine_of r k x bits = record { level = level_of r x; outer = outer_of r k; bits = bits }

-- what the codes do to it

answered-level : (a b n v : Bool) → answered_by (level_no a b n) v ≡ level_no a (b && differ n v) false
answered-level true true true true = refl
answered-level true true true false = refl
answered-level true true false true = refl
answered-level true true false false = refl
answered-level true false true v = refl
answered-level true false false v = refl
answered-level false true true true = refl
answered-level false true true false = refl
answered-level false true false true = refl
answered-level false true false false = refl
answered-level false false true v = refl
answered-level false false false v = refl

inverted-level : (a b n : Bool) → inverted (level_no a b n) ≡ level_no a b (not n)
inverted-level true true true = refl
inverted-level true true false = refl
inverted-level true false true = refl
inverted-level true false false = refl
inverted-level false true true = refl
inverted-level false true false = refl
inverted-level false false true = refl
inverted-level false false false = refl

joined-level : (a b : Bool) → joined (level_no a b false) ≡ level_no (a || b) true false
joined-level true true = refl
joined-level true false = refl
joined-level false true = refl
joined-level false false = refl

whole-level : (a b : Bool) → whole_answer (level_no a b false) ≡ a || b
whole-level true true = refl
whole-level true false = refl
whole-level false true = refl
whole-level false false = refl

level-low : (a b n : Bool) → level_no a b n < 8
level-low true true true = omega arith
level-low true true false = omega arith
level-low true false true = omega arith
level-low true false false = omega arith
level-low false true true = omega arith
level-low false true false = omega arith
level-low false false true = omega arith
level-low false false false = omega arith

in-level-low : (r : Record) (l : Level) → in_level r l < 8
in-level-low r l = level-low (holds_or false r l.ored) (holds_or true r l.anded) (is_odd l.nots)

-- what the reader makes of an operand holds as the level says

differ-not : (n v : Bool) → differ n (not v) ≡ differ (not n) v
differ-not true true = refl
differ-not true false = refl
differ-not false v = refl

negated-holds : (b : ℕ) (e : Expression) (r : Record) → holds (negated_by b e) r ≡ differ (is_odd b) (holds e r)
unfolding holds
negated-holds zero e r = refl
negated-holds (suc b) e r = negated-holds b (negation e) r ∙ differ-not (is_odd b) (holds e r)

and-holds : (a : Option Expression) (e : Expression) (r : Record) → holds (and_with a e) r ≡ (holds_or true r a && holds e r)
unfolding holds
and-holds none e r = refl
and-holds (some a) e r = refl

or-holds : (l : Option Expression) (e : Expression) (r : Record) → holds (or_with l e) r ≡ (holds_or false r l || holds e r)
unfolding holds
or-holds none e r = refl
or-holds (some l) e r = refl

operand-level : (l : Level) (e : Expression) (r : Record) → answered_by (in_level r l) (holds e r) ≡ level_of r (operand_on l e)
operand-level l e r =
    let a = holds_or false r l.ored in
    let b = holds_or true r l.anded in
    let n = is_odd l.nots in
    answered-level a b n (holds e r)
    ∙ ap (λ (t : Bool). level_no a t false) (sym (and-holds l.anded (negated_by l.nots e) r ∙ ap (λ (t : Bool). b && t) (negated-holds l.nots e r)))

-- the levels around: sixteen digits at most

abbrev eights : ℕ → ℕ
eights zero = 1
eights (suc n) = eights n * 8

outer-low : (r : Record) (k : List Level) → outer_of r k < eights (length k)
outer-low r [] = omega arith
outer-low r (l ∷ k) = omega (arith, outer-low r k, in-level-low r l)

eights-grow : (n m q : ℕ) → q ≡ m + n → eights n ≤ eights q
eights-grow n zero q h = let e : q ≡ n = omega arith in omega (arith, ap eights e)
eights-grow n (suc m) zero h = absurd (omega arith)
eights-grow n (suc m) (suc q) h = omega (arith, eights-grow n m q (omega arith))

outer-room : (r : Record) (n : ℕ) (k : List Level) → n + length k ≡ open_at_most → outer_of r k < outer_room
outer-room r n k h =
    let f : eights 16 ≡ 281474976710656 = refl in
    omega (arith, outer-low r k, eights-grow (length k) n 16 (sym h), f)

-- the bits that are left behind so many comparisons

abbrev halved : ℕ → ℕ → ℕ
halved zero x = x
halved (suc n) x = halved n x / 2

halved-half : (n x : ℕ) → halved n (x / 2) ≡ halved n x / 2
halved-half zero x = refl
halved-half (suc n) x = ap (λ (y : ℕ). y / 2) (halved-half n x)

halved-low : (n x : ℕ) → in_set 0 (halved n x) ≡ in_set n x
unfolding in_set
halved-low zero x = refl
halved-low (suc n) x = ap (λ (y : ℕ). in_set 0 y) (sym (halved-half n x)) ∙ halved-low n (x / 2)

told-before : (r : Record) (ts us : List Test) (bits : ℕ) → Told r (ts ++ us) bits → Told r ts bits
told-before r ts us bits h k l = h k (omega (arith, length-append ts us)) ∙ ap (meets r) (get_or-append ts us no_test k l)

told-last : (r : Record) (ts : List Test) (t : Test) (bits : ℕ) → Told r (ts ++ (t ∷ [])) bits → in_set 0 (halved (length ts) bits) ≡ meets r t
told-last r ts t bits h = halved-low (length ts) bits ∙ h (length ts) (omega (arith, length-append ts (t ∷ []))) ∙ ap (meets r) (get_or-append_seam ts t [] no_test)

-- codes one behind another

runs_append : (cs ds : List ℕ) (m : Machine) → runs (cs ++ ds) m ≡ runs ds (runs cs m)
runs_append [] ds m = refl
runs_append (c ∷ cs) ds m = runs_append cs ds (on_code c m)

-- The reader and the progress

abbrev pub stage_no : Stage → ℕ
stage_no (wanting l) = 0
stage_no (naming l m) = 1
stage_no (holding l m o) = 2
stage_no (done l e) = 3

abbrev SameRead : Stage → Bytes → Operator → Type 0
SameRead (wanting l) w o = Unit {0}
SameRead (naming l m) w o = m ≡ w
SameRead (holding l m p) w o = (m ≡ w) × (p ≡ o)
SameRead (done l e) w o = Unit {0}

pub record Agrees (n : ℕ) (k : List Level) (x : Stage) (g : Progress) (ts : List Test) (cs : List ℕ) : Type 0 where
  pub at_stage : stage_no x ≡ g.stage
  pub same_read : SameRead x g.name g.operator
  pub grouped : length k ≡ g.groups
  pub room : n + length k ≡ open_at_most
  pub run : (r : Record) (bits : ℕ) → Told r ts bits → runs cs (started bits) ≡ machine_of r k x (halved (length ts) bits)

abbrev pub AgreesIf : Option Reader → Progress → List Test → List ℕ → Type 0
AgreesIf none g ts cs = g.stage ≡ 4
AgreesIf (some q) g ts cs = Agrees q.room q.outer q.stage g ts cs

-- one code more
run-code : (cs : List ℕ) (c bits : ℕ) (m : Machine) → runs cs (started bits) ≡ m → runs (cs ++ (c ∷ [])) (started bits) ≡ on_code c m
run-code cs c bits m e = runs_append cs (c ∷ []) (started bits) ∙ ap (on_code c) e

-- opened and closed

digit-pushed : (o x : ℕ) → o < outer_room → x < 8 → o % outer_room * 8 + x % 8 ≡ o * 8 + x
digit-pushed o x h l = omega arith

digit_low : (o x : ℕ) → x < 8 → (o * 8 + x) % 8 ≡ x
digit_low o x l = omega arith

digit-high : (o x : ℕ) → x < 8 → (o * 8 + x) / 8 ≡ o
digit-high o x l = omega arith

run-open : (r : Record) (n : ℕ) (k : List Level) (l : Level) (b : ℕ) → n + length k ≡ open_at_most → on_open (machine_of r k (wanting l) b) ≡ machine_of r (l ∷ k) (wanting empty_level) b
run-open r n k l b h = ap (λ (y : ℕ). record { level = level_start; outer = y; bits = b }) (digit-pushed (outer_of r k) (in_level r l) (outer-room r n k h) (in-level-low r l))

run-close : (r : Record) (k : List Level) (f : Level) (l : Option Expression) (e : Expression) (b : ℕ) → on_close (machine_of r (f ∷ k) (done l e) b) ≡ machine_of r k (operand_on f (or_with l e)) b
run-close r k f l e b =
    let a = holds_or false r l in
    let o = outer_of r k in
    let x = in_level r f in
    let lv : answered_by ((o * 8 + x) % 8) (whole_answer (level_no a (holds e r) false)) ≡ level_of r (operand_on f (or_with l e)) =
    ap₂ answered_by (digit_low o x (in-level-low r f)) (whole-level a (holds e r) ∙ sym (or-holds l e r)) ∙ operand-level f (or_with l e) r in
    let ov : (o * 8 + x) / 8 ≡ o = digit-high o x (in-level-low r f) in
    λ i. record { level = lv i; outer = ov i; bits = b }

-- A part

module _ (n : ℕ) (k : List Level) (g : Progress) (ts : List Test) (cs : List ℕ) where
  -- a comparison behind the codes so far
  agrees-operand : (f : Level) (m : Bytes) (o : Operator) (v : Operand) → Agrees n k (holding f m o) (to_stage 2 g) ts cs →
      (t : Bool) → may_take o v ≡ t → AgreesIf (pick t (reader n k (operand_on f (comparison m o v))) none) (past (operand v) (to_stage 2 g)) (tests_with (to_stage 2 g) (operand v) ts) (cs ++ codes_of (operand v))
  unfolding holds
  agrees-operand f m o v a false q = ap (λ (t : Bool). pick t 3 4) (ap (λ (p : Operator). may_take p v) (sym a.same_read.1) ∙ q)
  agrees-operand f m o v a true q =
      let e : Test = record { name = g.name; operator = g.operator; operand = v } in
      let same : holds (comparison m o v) ≡ λ r. meets r e = ap₂ (λ (w : Bytes) (p : Operator). holds (comparison w p v)) a.same_read.0 a.same_read.1 in
      record {
        at_stage = sym (ap (λ (t : Bool). pick t 3 4) (ap (λ (p : Operator). may_take p v) (sym a.same_read.1) ∙ q));
        same_read = tt;
        grouped = a.grouped;
        room = a.room;
        run = λ r bits h.
            let lv : answered_by (in_level r f) (in_set 0 (halved (length ts) bits)) ≡ level_of r (operand_on f (comparison m o v)) =
            ap (answered_by (in_level r f)) (told-last r ts e bits h ∙ ap (λ (u : Record → Bool). u r) (sym same)) ∙ operand-level f (comparison m o v) r in
            let ln : halved (length ts) bits / 2 ≡ halved (length (ts ++ (e ∷ []))) bits =
            ap (λ (j : ℕ). halved j bits) (sym (length-append ts (e ∷ []) ∙ (let one : length ts + 1 ≡ suc (length ts) = omega arith in one))) in
            run-code cs 0 bits (machine_of r k (holding f m o) (halved (length ts) bits)) (a.run r bits (told-before r ts (e ∷ []) bits h))
            ∙ (λ i. record { level = lv i; outer = outer_of r k; bits = ln i });
      }

-- one code more for one that is no comparison
with_code : (n : ℕ) (k : List Level) (x y : Stage) (g : Progress) (ts : List Test) (cs : List ℕ) (c : ℕ) → Agrees n k x (to_stage (stage_no x) g) ts cs → SameRead y g.name g.operator →
    ((r : Record) (b : ℕ) → on_code c (machine_of r k x b) ≡ machine_of r k y b) → Agrees n k y (to_stage (stage_no y) g) ts (cs ++ (c ∷ []))
with_code n k x y g ts cs c a s h =
    record {
      at_stage = refl;
      same_read = s;
      grouped = a.grouped;
      room = a.room;
      run = λ r bits t. run-code cs c bits (machine_of r k x (halved (length ts) bits)) (a.run r bits t) ∙ h r (halved (length ts) bits);
    }

-- the same codes, at a stage that leaves the levels as they are
no_code : (n : ℕ) (k : List Level) (x y : Stage) (g h : Progress) (ts : List Test) (cs : List ℕ) → Agrees n k x (to_stage (stage_no x) g) ts cs → h.groups ≡ g.groups → SameRead y h.name h.operator →
    ((r : Record) (b : ℕ) → machine_of r k x b ≡ machine_of r k y b) → Agrees n k y (to_stage (stage_no y) h) ts (cs ++ [])
no_code n k x y g h ts cs a q s e =
    record {
      at_stage = refl;
      same_read = s;
      grouped = a.grouped ∙ sym q;
      room = a.room;
      run = λ r bits t. ap (λ (ds : List ℕ). runs ds (started bits)) (append-nil cs) ∙ a.run r bits t ∙ e r (halved (length ts) bits);
    }

agrees-open : (n : ℕ) (k : List Level) (g : Progress) (ts : List Test) (cs : List ℕ) (f : Level) → Agrees n k (wanting f) (to_stage 0 g) ts cs →
    AgreesIf (advance n k (wanting f) (sign open_sign)) (past (sign open_sign) (to_stage 0 g)) ts (cs ++ (3 ∷ []))
agrees-open zero k g ts cs f a = ap (λ (t : Bool). (pick t (to_groups (g.groups + 1) (to_stage 0 g)) (to_stage 4 g)).stage) (le-ltb g.groups open_at_most (omega (arith, a.grouped, a.room)))
agrees-open (suc n) k g ts cs f a =
    subst (λ (t : Bool). Agrees n (f ∷ k) (wanting empty_level) (pick t (to_groups (g.groups + 1) (to_stage 0 g)) (to_stage 4 g)) ts (cs ++ (3 ∷ []))) (sym (lt-ltb g.groups open_at_most (omega (arith, a.grouped, a.room))))
    (record {
      at_stage = refl;
      same_read = tt;
      grouped = omega (arith, a.grouped);
      room = omega (arith, a.room);
      run = λ r bits t. run-code cs 3 bits (machine_of r k (wanting f) (halved (length ts) bits)) (a.run r bits t) ∙ run-open r (suc n) k f (halved (length ts) bits) a.room;
    })

agrees-close : (n : ℕ) (k : List Level) (g : Progress) (ts : List Test) (cs : List ℕ) (l : Option Expression) (e : Expression) → Agrees n k (done l e) (to_stage 3 g) ts cs →
    AgreesIf (advance n k (done l e) (sign close_sign)) (past (sign close_sign) (to_stage 3 g)) ts (cs ++ (4 ∷ []))
agrees-close n [] g ts cs l e a = ap (λ (t : Bool). (pick t (to_stage 4 g) (to_groups (g.groups - 1) (to_stage 3 g))).stage) (eq-eqb g.groups 0 (omega (arith, a.grouped)))
agrees-close n (f ∷ k) g ts cs l e a =
    subst (λ (t : Bool). Agrees (suc n) k (operand_on f (or_with l e)) (pick t (to_stage 4 g) (to_groups (g.groups - 1) (to_stage 3 g))) ts (cs ++ (4 ∷ []))) (sym (ne_eqb g.groups 0 (λ z. omega (arith, a.grouped))))
    (record {
      at_stage = refl;
      same_read = tt;
      grouped = omega (arith, a.grouped);
      room = omega (arith, a.room);
      run = λ r bits t. run-code cs 4 bits (machine_of r (f ∷ k) (done l e) (halved (length ts) bits)) (a.run r bits t) ∙ run-close r k f l e (halved (length ts) bits);
    })

not-runs : (k : List Level) (f : Level) (r : Record) (b : ℕ) → on_code 1 (machine_of r k (wanting f) b) ≡ machine_of r k (wanting (one_not f)) b
not-runs k f r b = ap (λ (y : ℕ). record { level = y; outer = outer_of r k; bits = b }) (inverted-level (holds_or false r f.ored) (holds_or true r f.anded) (is_odd f.nots))

or-runs : (k : List Level) (l : Option Expression) (e : Expression) (r : Record) (b : ℕ) → on_code 2 (machine_of r k (done l e) b) ≡ machine_of r k (wanting (record { ored = some (or_with l e); anded = none; nots = zero })) b
or-runs k l e r b = ap (λ (y : ℕ). record { level = y; outer = outer_of r k; bits = b }) (joined-level (holds_or false r l) (holds e r) ∙ ap (λ (t : Bool). level_no t true false) (sym (or-holds l e r)))

part_at : (n : ℕ) (k : List Level) (x : Stage) (g : Progress) (ts : List Test) (cs : List ℕ) (p : Part) → Agrees n k x (to_stage (stage_no x) g) ts cs →
    AgreesIf (advance n k x p) (past p (to_stage (stage_no x) g)) (tests_with (to_stage (stage_no x) g) p ts) (cs ++ codes_of p)
part_at n k (wanting f) g ts cs (field_name m) a = no_code n k (wanting f) (naming f m) g (record { stage = 1; groups = g.groups; name = m; operator = g.operator }) ts cs a refl refl (λ r b. refl)
part_at n k (wanting f) g ts cs (operand v) a = refl
part_at n k (wanting f) g ts cs (sign (comparing o)) a = refl
part_at n k (wanting f) g ts cs (sign not_sign) a = with_code n k (wanting f) (wanting (one_not f)) g ts cs 1 a tt (not-runs k f)
part_at n k (wanting f) g ts cs (sign and_sign) a = refl
part_at n k (wanting f) g ts cs (sign or_sign) a = refl
part_at n k (wanting f) g ts cs (sign open_sign) a = agrees-open n k g ts cs f a
part_at n k (wanting f) g ts cs (sign close_sign) a = refl
part_at n k (naming f m) g ts cs (field_name l) a = refl
part_at n k (naming f m) g ts cs (operand v) a = refl
part_at n k (naming f m) g ts cs (sign (comparing o)) a = no_code n k (naming f m) (holding f m o) g (record { stage = 2; groups = g.groups; name = g.name; operator = o }) ts cs a refl (a.same_read, refl) (λ r b. refl)
part_at n k (naming f m) g ts cs (sign not_sign) a = refl
part_at n k (naming f m) g ts cs (sign and_sign) a = refl
part_at n k (naming f m) g ts cs (sign or_sign) a = refl
part_at n k (naming f m) g ts cs (sign open_sign) a = refl
part_at n k (naming f m) g ts cs (sign close_sign) a = refl
part_at n k (holding f m o) g ts cs (field_name l) a = refl
part_at n k (holding f m o) g ts cs (operand v) a = agrees-operand n k g ts cs f m o v a (may_take o v) refl
part_at n k (holding f m o) g ts cs (sign (comparing p)) a = refl
part_at n k (holding f m o) g ts cs (sign not_sign) a = refl
part_at n k (holding f m o) g ts cs (sign and_sign) a = refl
part_at n k (holding f m o) g ts cs (sign or_sign) a = refl
part_at n k (holding f m o) g ts cs (sign open_sign) a = refl
part_at n k (holding f m o) g ts cs (sign close_sign) a = refl
part_at n k (done l e) g ts cs (field_name m) a = refl
part_at n k (done l e) g ts cs (operand v) a = refl
part_at n k (done l e) g ts cs (sign (comparing o)) a = refl
part_at n k (done l e) g ts cs (sign not_sign) a = refl
part_at n k (done l e) g ts cs (sign and_sign) a = no_code n k (done l e) (wanting (record { ored = l; anded = some e; nots = zero })) g g ts cs a refl tt (λ r b. refl)
part_at n k (done l e) g ts cs (sign or_sign) a = with_code n k (done l e) (wanting (record { ored = some (or_with l e); anded = none; nots = zero })) g ts cs 2 a tt (or-runs k l e)
part_at n k (done l e) g ts cs (sign open_sign) a = refl
part_at n k (done l e) g ts cs (sign close_sign) a = agrees-close n k g ts cs l e a

-- what is made of a part agrees with where the reader is behind it
pub part-agrees : (n : ℕ) (k : List Level) (x : Stage) (g : Progress) (ts : List Test) (cs : List ℕ) (p : Part) → Agrees n k x g ts cs → AgreesIf (advance n k x p) (past p g) (tests_with g p ts) (cs ++ codes_of p)
part-agrees n k x g ts cs p a =
    subst (λ (j : ℕ). Agrees n k x (to_stage j g) ts cs → AgreesIf (advance n k x p) (past p (to_stage j g)) (tests_with (to_stage j g) p ts) (cs ++ codes_of p)) a.at_stage (part_at n k x g ts cs p) a

-- before the first part
pub start-agrees : (g : Progress) → g.stage ≡ 0 → g.groups ≡ 0 → Agrees beginning.room beginning.outer beginning.stage g [] []
start-agrees g e f = record { at_stage = sym e; same_read = tt; grouped = sym f; room = refl; run = λ r bits h. refl }

-- behind the last

abbrev pub AgreesAtEnd : Option Expression → Progress → List Test → List ℕ → Type 0
AgreesAtEnd none g ts cs = (g.stage ≡ 3 → g.groups ≡ 0 → ⊥)
AgreesAtEnd (some e) g ts cs = (g.stage ≡ 3) × (g.groups ≡ 0) × IsProgram e ts cs

pub end-agrees : (n : ℕ) (k : List Level) (x : Stage) (g : Progress) (ts : List Test) (cs : List ℕ) → Agrees n k x g ts cs → AgreesAtEnd (at_end k x) g ts cs
unfolding run_answer
end-agrees n k (wanting f) g ts cs a = λ e z. omega (arith, a.at_stage)
end-agrees n k (naming f m) g ts cs a = λ e z. omega (arith, a.at_stage)
end-agrees n k (holding f m o) g ts cs a = λ e z. omega (arith, a.at_stage)
end-agrees n [] (done l e) g ts cs a =
    (sym a.at_stage, sym a.grouped, λ r bits t. ap (λ (m : Machine). whole_answer m.level) (a.run r bits t) ∙ whole-level (holds_or false r l) (holds e r) ∙ sym (or-holds l e r))
end-agrees n (f ∷ k) (done l e) g ts cs a = λ e z. omega (arith, a.grouped)
