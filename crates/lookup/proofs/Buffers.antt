-- The calls on a buffer: refused by the file's own questions, else the answers on its text.
use Prim.Native.Nat.{ℕ, zero, suc, ◌-◌, ◌≤◌, ◌<◌}
use native.Mathlib.Omega.{arith}
use mathlib.Core.Path.{◌≡◌, refl, sym, ap, ◌∙◌, subst}
use mathlib.Core.List.{List, [], map}
use mathlib.Core.Option.{Option, none, some}
use lib.ListN.{length, take, drop, get_or, length-take}
use Rattle.format.specs.Bytes.{Bytes}
use Rattle.format.specs.Pieces.{read_of}
use Rattle.format.specs.Sets.{values_of, Group, groups, RecSet}
use Rattle.format.specs.Questions.{first_no, name_of}
use Rattle.format.specs.Plain.{Sought, sought_members, sought_record, found_rows}
use Rattle.format.specs.Calls.{Answer, answer, number_in, then_no, check_answer, sets_in, sought_set, count_answer, answered, filled, sought_field, fetch_answer, sought_order, name_answer, Viewed, viewed_at, sought_row, view_answer}
use Rattle.std.specs.Prelude.{Result, Ok, Err}
use Rattle.std.specs.Result.{IsErr, IsErrAnd}
use Rattle.format.specs.declared.refusals.Question.{Question}
use Rattle.format.specs.declared.refusals.Refusal.{Refusal}
use Rattle.format.specs.Refusals.{question_no, refused_no}
use Rattle.format.proofs.Refused.{question-number, handed-as, handed-answer}
use Rattle.words.specs.declared.Span.{Span}
use Rattle.lookup.specs.Answers.{seen_answer, SeenInside, count_in, fetch_in, view_in, name_in}
use mathlib.Core.Bool.{true}
use Rattle.records.specs.Places.{is_readable}
use Rattle.records.proofs.Checked.{answer-checked}
use Rattle.lookup.proofs.Looking.{part-part}

-- two that agree on every number of a no
on-numbers : {A : Type 0} (f g : ℕ → A) → ((j : ℕ) → f (suc j) ≡ g (suc j)) → (k : ℕ) → 0 < k → f k ≡ g k
on-numbers f g h zero more = absurd (omega arith)
on-numbers f g h (suc j) more = h j

-- the file's own question q said no, which `?` handed on
module _ (buffer : Bytes) (used : ℕ) (q : Question) (v : question_no q ≡ check_answer buffer used) where
  on-question : {A : Type 0} (f g : ℕ → A) → ((j : ℕ) → f (suc j) ≡ g (suc j)) → f (question_no q) ≡ g (question_no q)
  on-question f g h = on-numbers f g h (question_no q) (question-number q)

  -- a text that is not put into a second buffer
  not-filled : (n : ℕ) (text out : Bytes) → filled (then_no (question_no q) n) text out ≡ record { result = Answer.refusal (question_no q); out = out }
  not-filled n text out = on-question (λ (j : ℕ). filled (then_no j n) text out) (λ (j : ℕ). record { result = Answer.refusal j; out = out }) (λ j. refl)

  not-viewed : (n : ℕ) (gs : List Group) (x : Option ℕ) (row : ℕ) → viewed_at (then_no (question_no q) n) gs x row ≡ record { result = Answer.refusal (question_no q); part = [] }
  not-viewed n gs none row = on-question (λ (j : ℕ). viewed_at (then_no j n) gs none row) (λ (j : ℕ). record { result = Answer.refusal j; part = [] }) (λ j. refl)
  not-viewed n gs (some i) row = on-question (λ (j : ℕ). viewed_at (then_no j n) gs (some i) row) (λ (j : ℕ). record { result = Answer.refusal j; part = [] }) (λ j. refl)

  module _ (x : Result ℕ Refusal) (h : IsErr x × IsErrAnd x (λ r. r ≡ Refusal.File q)) where
    pub count-refused : (set : Bytes) → answered x ≡ count_answer buffer used set
    unfolding check_answer count_answer
    count-refused set =
        let s : Sought = sought_set (sets_in buffer used) set in
        let f : ℕ → Answer = λ (n : ℕ). answer (then_no n (first_no found_rows s)) (length (sought_members s)) in
        handed-answer x q h ∙ on-question Answer.refusal f (λ j. refl) ∙ ap f v

    pub fetch-refused : (set : Bytes) (row : ℕ) (name : Bytes) (occurrence : ℕ) (out : Bytes) → fetch_answer buffer used set row name occurrence out ≡ record { result = answered x; out = out }
    unfolding check_answer fetch_answer
    fetch-refused set row name occurrence out =
        let s : Sought = sought_field (sets_in buffer used) set row name occurrence in
        let value : Bytes = get_or (values_of name (sought_record s)) occurrence [] in
        ap (λ (n : ℕ). filled (then_no n (first_no found_rows s)) value out) (sym v) ∙ not-filled (first_no found_rows s) value out
        ∙ sym (ap (λ (a : Answer). record { result = a; out = out }) (handed-answer x q h))

    pub name-refused : (order : ℕ) (out : Bytes) → name_answer buffer used order out ≡ record { result = answered x; out = out }
    unfolding check_answer name_answer
    name-refused order out =
        let ss : List RecSet = sets_in buffer used in
        let number : ℕ = first_no found_rows (sought_order ss order) in
        ap (λ (n : ℕ). filled (then_no n number) (get_or (map name_of ss) order []) out) (sym v) ∙ not-filled number (get_or (map name_of ss) order []) out
        ∙ sym (ap (λ (a : Answer). record { result = a; out = out }) (handed-answer x q h))

  pub view-refused : (x : Result Span Refusal) → IsErr x × IsErrAnd x (λ r. r ≡ Refusal.File q) → (set : Bytes) (row : ℕ)
      → (seen_answer (take used buffer) x ≡ view_answer buffer used set row) × SeenInside (take used buffer) x
  unfolding check_answer view_answer
  view-refused x h set row =
      let s : Sought = sought_row (sets_in buffer used) set row in
      let e : seen_answer (take used buffer) (Err (Refusal.File q)) ≡ view_answer buffer used set row =
      sym (not-viewed (first_no found_rows s) (groups (read_of (take used buffer))) s.set row) ∙ ap (λ (n : ℕ). viewed_at (then_no n (first_no found_rows s)) (groups (read_of (take used buffer))) s.set row) v in
      subst (λ (y : Result Span Refusal). (seen_answer (take used buffer) y ≡ view_answer buffer used set row) × SeenInside (take used buffer) y) (sym (handed-as x (Refusal.File q) h)) (e, tt)

-- they all said yes
module _ (buffer : Bytes) (used : ℕ) (v : 0 ≡ check_answer buffer used) where
  abbrev s : Bytes
  s = take used buffer

  pub text-readable : {x : Bytes} → x ≡ s → is_readable x ≡ true
  text-readable e = subst (λ (y : Bytes). is_readable y ≡ true) (sym e) (answer-checked buffer used 0 v refl).readable

  pub count-text : (set : Bytes) → count_in s set ≡ count_answer buffer used set
  unfolding check_answer count_in count_answer
  count-text set = let q : Sought = sought_set (sets_in buffer used) set in (λ i. answer (then_no (v i) (first_no found_rows q)) (length (sought_members q)))

  pub fetch-text : (set : Bytes) (row : ℕ) (name : Bytes) (occurrence : ℕ) (out : Bytes) → fetch_in s set row name occurrence out ≡ fetch_answer buffer used set row name occurrence out
  unfolding check_answer fetch_in fetch_answer
  fetch-text set row name occurrence out =
      let q : Sought = sought_field (sets_in buffer used) set row name occurrence in
      (λ i. filled (then_no (v i) (first_no found_rows q)) (get_or (values_of name (sought_record q)) occurrence []) out)

  pub view-text : (set : Bytes) (row : ℕ) → view_in s set row ≡ view_answer buffer used set row
  unfolding check_answer view_in view_answer
  view-text set row = let q : Sought = sought_row (sets_in buffer used) set row in (λ i. viewed_at (then_no (v i) (first_no found_rows q)) (groups (read_of s)) q.set row)

  pub name-text : (order : ℕ) (out : Bytes) → name_in s order out ≡ name_answer buffer used order out
  unfolding check_answer name_in name_answer
  name-text order out = let ss : List RecSet = sets_in buffer used in (λ i. filled (then_no (v i) (first_no found_rows (sought_order ss order))) (get_or (map name_of ss) order []) out)

-- what the place of a record tells of its part
module _ (buffer : Bytes) (used : ℕ) (set : Bytes) (row : ℕ) where
  module _ (v : Span) (h : (seen_answer (take used buffer) (Ok v) ≡ view_answer buffer used set row) × SeenInside (take used buffer) (Ok v)) where
    pub seen-inside : v.end ≤ length buffer
    seen-inside = omega (arith, h.1.1, length-take used buffer)

    pub seen-number : 0 ≡ number_in (view_answer buffer used set row).result
    seen-number = ap (λ (w : Viewed). number_in w.result) h.0

    pub seen-part : take (v.end - v.start) (drop v.start buffer) ≡ (view_answer buffer used set row).part
    seen-part =
        let k : v.end ≤ used = omega (arith, h.1.1, length-take used buffer) in
        sym (part-part v.start (v.end - v.start) used buffer (omega (arith, h.1.0))) ∙ ap (λ (w : Viewed). w.part) h.0

  pub unseen-number : {A : Type 0} (x : Result A Refusal) (r : Refusal) → IsErr x × IsErrAnd x (λ y. y ≡ r) → seen_answer (take used buffer) (Err r) ≡ view_answer buffer used set row
      → refused_no x ≡ number_in (view_answer buffer used set row).result
  unseen-number x r e h = ap refused_no (handed-as x r e) ∙ ap (λ (w : Viewed). number_in w.result) h
