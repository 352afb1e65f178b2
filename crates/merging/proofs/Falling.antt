-- Along records that 20 to 26 grant, passing falls once: all are accepted exactly if the sets after all of them pass, and otherwise halving finds the first that is refused.
use Prim.Native.Nat.{ℕ, zero, suc, ◌≤◌, ◌<◌}
use native.Mathlib.Omega.{arith}
use mathlib.Core.Path.{◌≡◌, refl, sym, ap, ◌∙◌, subst}
use mathlib.Core.Bool.{Bool, true, false, false≢true}
use mathlib.Core.List.{List, [], ◌∷◌, ◌++◌}
use mathlib.Core.Option.{Option, none, some, map}
use lib.ListN.{length, take}
use borrow.Author.Tests.{eqb-true, eq-eqb}
use Rattle.format.specs.Bytes.{pick, is_some}
use Rattle.format.specs.Numbers.{int_bounds}
use Rattle.format.specs.Written.{Pair}
use Rattle.format.specs.Numbering.{completed}
use Rattle.format.specs.Questions.{Row, first_no, limit_rows, rule_rows}
use Rattle.format.specs.Edits.{Edit}
use Rattle.format.specs.Requests.{Request, request_of}
use Rattle.format.specs.Plain.{Plain, set_at, index_of, apply_in, apply, completed_by, request_or, Asked, edit_questions, Step, step_by, step_of, step}
use Rattle.format.proofs.Elements.{Each}
use Rattle.format.proofs.Questions.{Yes, first-yes, asked}
use Rattle.format.proofs.Completing.{completed-insert}
use Rattle.spoiling.specs.Inserts.{NewRecord, with_record, with_records}
use Rattle.spoiling.proofs.Passing.{AllPass}
use Rattle.spoiling.proofs.Fronts.{fewer-pass}
use Rattle.merging.specs.Merging.{SpareRecord, insert_for, request_for}
use Rattle.merging.specs.Appending.{with_insert, with_inserts, sets_pass, count_until, accepted_count, two_to, halving}
use Rattle.merging.proofs.Halving.{FallsOnce, Turns, one-turn, halving-turn}

-- a spare's record that has a request, and of which 21 to 25, 31 and 26 say yes on a plain file
abbrev pub grant_rows : List (Row Asked)
grant_rows = take 8 (edit_questions int_bounds)

pub record Granted (room : ℕ) (x : SpareRecord) (p : Plain) : Type 0 where
  pub reads : request_of (request_for x) ≡ some (insert_for x)
  pub yes : Each (Yes (asked room p (insert_for x))) grant_rows

-- several, each on what the ones before it make
abbrev pub AllGranted : ℕ → List SpareRecord → Plain → Type 0
AllGranted room [] p = Unit {0}
AllGranted room (x ∷ xs) p = Granted room x p × AllGranted room xs (with_insert x p)

all_yes : {A : Type 0} (rs : List (Row A)) (a : A) → Each (Yes a) rs → first_no rs a ≡ 0
all_yes [] a h = refl
all_yes (r ∷ rs) a h = ap (λ (t : Bool). pick t (first_no rs a) r.number) h.0 ∙ all_yes rs a h.1

-- a granted record is accepted exactly if the sets after it pass

abbrev pub questions_of : ℕ → SpareRecord → Plain → ℕ
questions_of room x p = first_no (edit_questions int_bounds) (asked room p (insert_for x))

module _ (room : ℕ) (x : SpareRecord) (p : Plain) (l : Granted room x p) where
  pub granted-step : step room p (request_for x) ≡ step_by (questions_of room x p) p (with_insert x p)
  unfolding step
  granted-step = ap (step_of int_bounds room p) l.reads

  passes-accepted : AllPass int_bounds (with_insert x p).sets → questions_of room x p ≡ 0
  passes-accepted h =
      let a : Asked = asked room p (insert_for x) in
      let y = l.yes in
      all_yes (edit_questions int_bounds) a (y.0, (y.1.0, (y.1.1.0, (y.1.1.1.0, (y.1.1.1.1.0, (y.1.1.1.1.1.0, (y.1.1.1.1.1.1.0, (y.1.1.1.1.1.1.1.0, first-yes (limit_rows ++ rule_rows int_bounds) (with_insert x p).sets refl h))))))))

  accepted-passes : questions_of room x p ≡ 0 → AllPass int_bounds (with_insert x p).sets
  accepted-passes h = all_yes (limit_rows ++ rule_rows int_bounds) (with_insert x p).sets (first-yes (edit_questions int_bounds) (asked room p (insert_for x)) refl h).1.1.1.1.1.1.1.1

  -- its step puts one record into one set
  some-place : (o : Option ℕ) → is_some o ≡ true → (i : ℕ) × (o ≡ some i)
  some-place none e = absurd (false≢true e)
  some-place (some i) e = (i, refl)

  some_pairs : (f : Edit → Request) (c : Option (List Pair)) → is_some (map f (map (λ (ps : List Pair). Edit.insert ps) c)) ≡ true → (ps : List Pair) × (c ≡ some ps)
  some_pairs f none e = absurd (false≢true e)
  some_pairs f (some ps) e = (ps, refl)

  one-record : (y : NewRecord) × ((with_insert x p).sets ≡ with_record y p.sets)
  unfolding apply
  one-record =
      let q : Request = insert_for x in
      let f : Edit → Request = λ (e : Edit). record { set = x.set; edit = e } in
      let s = some-place (index_of x.set p.sets) l.yes.1.0 in
      let i : ℕ = s.0 in
      let c : Option (List Pair) = completed int_bounds (set_at i p.sets) x.pairs in
      let e : completed_by int_bounds p q ≡ map f (map (λ (ps : List Pair). Edit.insert ps) c) = completed-insert p q x.pairs i s.1 refl in
      let w = some_pairs f c (ap is_some (sym e) ∙ l.yes.1.1.1.1.1.1.0) in
      let made : completed_by int_bounds p q ≡ some (f (Edit.insert w.0)) = e ∙ ap (λ (d : Option (List Pair)). map f (map (λ (ps : List Pair). Edit.insert ps) d)) w.1 in
      (record { place = i; pairs = w.0 }, (λ j. (apply (request_or (made j)) p).sets) ∙ (λ j. (apply_in (s.1 j) (Edit.insert w.0) p).sets))

-- and so do several, one after another
records-inserted : (room : ℕ) (xs : List SpareRecord) (p : Plain) → AllGranted room xs p → (ys : List NewRecord) × ((k : ℕ) → (with_inserts (take k xs) p).sets ≡ with_records (take k ys) p.sets)
records-inserted room [] p h = ([], λ k. go k)
  where
    go : (k : ℕ) → (with_inserts (take k []) p).sets ≡ with_records (take k []) p.sets
    go zero = refl
    go (suc k) = refl
records-inserted room (x ∷ xs) p h = ((one-record room x p h.0).0 ∷ (records-inserted room xs (with_insert x p) h.1).0, go (records-inserted room xs (with_insert x p) h.1))
  where
    go : (r : (ys : List NewRecord) × ((k : ℕ) → (with_inserts (take k xs) (with_insert x p)).sets ≡ with_records (take k ys) (with_insert x p).sets)) (k : ℕ) → (with_inserts (take k (x ∷ xs)) p).sets ≡ with_records (take k ((one-record room x p h.0).0 ∷ r.0)) p.sets
    go r zero = refl
    go r (suc k) = r.1 k ∙ ap (with_records (take k r.0)) (one-record room x p h.0).1

-- do the sets pass after k of them
abbrev pub passes_after : List SpareRecord → Plain → ℕ → Bool
passes_after xs p k = sets_pass (with_inserts (take k xs) p)

passes-sets : (p : Plain) → sets_pass p ≡ true → AllPass int_bounds p.sets
passes-sets p e = eqb-true (first_no (limit_rows ++ rule_rows int_bounds) p.sets) 0 e

sets-pass : (p : Plain) → AllPass int_bounds p.sets → sets_pass p ≡ true
sets-pass p e = eq-eqb (first_no (limit_rows ++ rule_rows int_bounds) p.sets) 0 e

pub passing-falls-once : (room : ℕ) (xs : List SpareRecord) (p : Plain) → AllPass int_bounds p.sets → AllGranted room xs p → FallsOnce (passes_after xs p)
passing-falls-once room xs p h l j k m e =
    let r = records-inserted room xs p l in
    let later : AllPass int_bounds (with_records (take k r.0) p.sets) = subst (AllPass int_bounds) (r.1 k) (passes-sets (with_inserts (take k xs) p) e) in
    sets-pass (with_inserts (take j xs) p) (subst (AllPass int_bounds) (sym (r.1 j)) (fewer-pass int_bounds p.sets r.0 j k m h later))

-- how many are accepted before the first that is refused
pub record FirstRefused (xs : List SpareRecord) (p : Plain) (k : ℕ) : Type 0 where
  pub most : k ≤ length xs
  pub passes : passes_after xs p k ≡ true
  pub refused : k < length xs → passes_after xs p (suc k) ≡ false

first_next : (room : ℕ) (x : SpareRecord) (xs : List SpareRecord) (p : Plain) → AllPass int_bounds p.sets → Granted room x p → (AllPass int_bounds (with_insert x p).sets → FirstRefused xs (with_insert x p) (accepted_count room xs (with_insert x p)))
    → (n : ℕ) → questions_of room x p ≡ n → FirstRefused (x ∷ xs) p (let s : Step = step_by n p (with_insert x p) in count_until s.number (accepted_count room xs s.file))
first_next room x xs p h l ih zero e =
    let f = ih (accepted-passes room x p l e) in
    record { most = omega (arith, f.most); passes = f.passes; refused = λ b. f.refused (omega arith) }
first_next room x xs p h l ih (suc n) e = record { most = omega arith; passes = sets-pass p h; refused = λ b. fails (sets_pass (with_insert x p)) refl }
  where
    fails : (t : Bool) → sets_pass (with_insert x p) ≡ t → t ≡ false
    fails true q = let z = passes-accepted room x p l (passes-sets (with_insert x p) q) in absurd (omega arith)
    fails false q = refl

pub accepted-front : (room : ℕ) (xs : List SpareRecord) (p : Plain) → AllPass int_bounds p.sets → AllGranted room xs p → FirstRefused xs p (accepted_count room xs p)
unfolding accepted_count
accepted-front room [] p h l = record { most = omega arith; passes = sets-pass p h; refused = λ b. absurd (omega arith) }
accepted-front room (x ∷ xs) p h l =
    subst (λ (s : Step). FirstRefused (x ∷ xs) p (count_until s.number (accepted_count room xs s.file))) (sym (granted-step room x p l.0))
    (first_next room x xs p h l.0 (λ k. accepted-front room xs (with_insert x p) k l.1) (questions_of room x p) refl)

module _ (room : ℕ) (xs : List SpareRecord) (p : Plain) (h : AllPass int_bounds p.sets) (l : AllGranted room xs p) where
  -- All are accepted exactly if the sets after all of them pass.
  pub all-accepted : accepted_count room xs p ≡ length xs → passes_after xs p (length xs) ≡ true
  all-accepted e = ap (passes_after xs p) (sym e) ∙ (accepted-front room xs p h l).passes

  pub all_pass : passes_after xs p (length xs) ≡ true → accepted_count room xs p ≡ length xs
  all_pass e =
      let f = accepted-front room xs p h l in
      let k : ℕ = accepted_count room xs p in
      let no : k < length xs → ⊥ = λ b. false≢true (sym (f.refused b) ∙ passing-falls-once room xs p h l (suc k) (length xs) (omega arith) e) in
      omega (arith, f.most, no)

  -- If not, the first refused one is the least k for which the sets after k + 1 of them do not pass,
  one-refused : passes_after xs p (length xs) ≡ false → accepted_count room xs p < length xs
  one-refused e =
      let no : accepted_count room xs p ≡ length xs → ⊥ = λ q. false≢true (sym e ∙ all-accepted q) in
      omega (arith, (accepted-front room xs p h l).most, no)

  pub refused-turn : passes_after xs p (length xs) ≡ false → Turns (passes_after xs p) (accepted_count room xs p)
  refused-turn e = let f = accepted-front room xs p h l in record { passes = f.passes; fails = f.refused (one-refused e) }

  -- which halving finds.
  pub halving-finds : (turns : ℕ) → length xs ≤ two_to turns → passes_after xs p (length xs) ≡ false → halving turns (passes_after xs p) 0 (length xs) ≡ accepted_count room xs p
  halving-finds turns w e =
      let test : ℕ → Bool = passes_after xs p in
      let found = halving-turn turns test 0 (length xs) (sets-pass p h) e (omega (arith, one-refused e)) (omega (arith, w)) in
      one-turn test (passing-falls-once room xs p h l) (halving turns test 0 (length xs)) (accepted_count room xs p) found (refused-turn e)
