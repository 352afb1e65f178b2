-- A run of requests goes on by one: what is read of it, what it leaves, and the list that holds its numbers.
use Rattle.std.specs.Prelude.{Option as Maybe, Some, None, Result}
use Rattle.std.specs.Result.{result_unwrap_or}
use Rattle.format.proofs.Refused.{value-told}
use Rattle.format.specs.declared.refusals.Refusal.{Refusal}
use Prim.Native.Nat.{ℕ, zero, suc, ◌+◌, ◌-◌, ◌≤◌, ◌<◌}
use native.Mathlib.Omega.{arith}
use mathlib.Core.Path.{◌≡◌, refl, sym, ap, ◌∙◌, subst}
use mathlib.Core.Bool.{Bool, true, false, ◌&&◌, true≢false}
use mathlib.Core.List.{List, [], ◌∷◌, ◌++◌, map, map-append, append-nil}
use mathlib.Core.Option.{Option, none, some}
use lib.Dec.{leb}
use lib.ListN.{length, take, drop, get_or, set, length-append, length-map, length-drop}
use lib.Seq.{drop-cons, set_at, append_snoc, take-length}
use borrow.Author.Tests.{leb-true, leb-false, le-leb, lt-leb}
use Rattle.format.specs.Bytes.{Bytes}
use Rattle.format.specs.Lists.{onward, only_if}
use Rattle.format.specs.Limits.{run_requests}
use Rattle.format.specs.Questions.{verdict}
use Rattle.format.specs.Requests.{short_at, requests_in}
use Rattle.format.specs.Calls.{Answer, answered, filled_by, number_in, value_or, Filled, over, check_answer, edit_answer}
use Rattle.format.specs.Runs.{Single, Told, Ran, singly, taken, few_enough, edits_of, numbers_told, Numbered, run_answer, then_ran}
use Rattle.format.proofs.Answers.{answer-file}
use Rattle.format.proofs.Demand.{edits-meet-demand}
use Rattle.format.proofs.Sending.{before, requests-none, requests-first, requests-past, run-taken, run-refused}
use Rattle.editor.specs.Runs.{FirstIn, is_run, is_taken, Sends}

-- What is read

-- the first request is cut off, or reaches past the end
pub first-cut : (s : Bytes) → 0 < length s → length s < 2 → FirstIn s None
first-cut [] h l = absurd (omega arith)
first-cut (c ∷ s) h l = requests-past c s (omega arith)

pub first_past : (s : Bytes) → 2 ≤ length s → length s < 2 + short_at s → FirstIn s None
first_past [] h l = absurd (omega arith)
first_past (c ∷ s) h l = requests-past c s l

pub first_ends : (s : Bytes) → 2 + short_at s ≤ length s → FirstIn s (Some (2 + short_at s))
first_ends s h =
    let e : (2 + short_at s) - 2 ≡ short_at s = omega arith in
    (omega arith, h, rw (e) (requests-first s h))

-- what the code found: the request, and the rest from its end on
pub first_found : (s : Bytes) {r : Maybe ℕ} → FirstIn s r → {e : ℕ} → r ≡ Some e → (2 ≤ e) × (e ≤ length s) × (requests_in s ≡ before (take (e - 2) (drop 2 s)) (requests_in (take (length s - e) (drop e s))))
first_found s h {e} is =
    let f : FirstIn s (Some e) = subst (FirstIn s) is h in
    let rest : take (length s - e) (drop e s) ≡ drop e s = ap (λ (k : ℕ). take k (drop e s)) (sym (length-drop e s)) ∙ take-length (drop e s) in
    (f.0, f.1, f.2 ∙ ap (λ (t : Bytes). before (take (e - 2) (drop 2 s)) (requests_in t)) (sym rest))

pub first-fault : (s : Bytes) {r : Maybe ℕ} → FirstIn s r → r ≡ None → requests_in s ≡ none
first-fault s h is = subst (FirstIn s) is h

run_more : (n : ℕ) (q : Bytes) (y : Option (List Bytes)) → is_run (suc n) (before q y) ≡ is_run n y
run_more n q none = refl
run_more n q (some qs) = go (leb (length qs) n) refl
  where
    go : (t : Bool) → leb (length qs) n ≡ t → leb (length (q ∷ qs)) (suc n) ≡ leb (length qs) n
    go true e = le-leb (length (q ∷ qs)) (suc n) (omega (arith, leb-true (length qs) n e)) ∙ sym e
    go false e = lt-leb (length (q ∷ qs)) (suc n) (omega (arith, leb-false (length qs) n e)) ∙ sym e

run-full : (q : Bytes) (y : Option (List Bytes)) → is_run 0 (before q y) ≡ false
run-full q none = refl
run-full q (some qs) = lt-leb (length (q ∷ qs)) 0 (omega arith)

-- one request is passed; there is one more than may be; there is none left
pub run-goes : (n : ℕ) → 0 < n → (x : Option (List Bytes)) (q : Bytes) (y : Option (List Bytes)) → x ≡ before q y → is_run n x ≡ is_run (n - 1) y
run-goes zero h x q y e = absurd (omega arith)
run-goes (suc n) h x q y e =
    let k : n ≡ suc n - 1 = omega arith in
    ap (is_run (suc n)) e ∙ run_more n q y ∙ ap (λ (m : ℕ). is_run m y) k

pub run-stops : (s : Bytes) (n : ℕ) → 0 < length s → n ≡ 0 → is_run n (requests_in s) ≡ false
run-stops [] n h e = absurd (omega arith)
run-stops (c ∷ s) n h e = ap (λ (m : ℕ). is_run m (requests_in (c ∷ s))) e ∙ go (leb (2 + short_at (c ∷ s)) (length (c ∷ s))) refl
  where
    go : (t : Bool) → leb (2 + short_at (c ∷ s)) (length (c ∷ s)) ≡ t → is_run 0 (requests_in (c ∷ s)) ≡ false
    go true t =
        let n : ℕ = short_at (c ∷ s) in
        ap (is_run 0) (requests-first (c ∷ s) (leb-true (2 + n) (length (c ∷ s)) t)) ∙ run-full (take n (drop 2 (c ∷ s))) (requests_in (drop (2 + n) (c ∷ s)))
    go false t = ap (is_run 0) (requests-past c s (leb-false (2 + short_at (c ∷ s)) (length (c ∷ s)) t))

pub run_ends : (s : Bytes) (n : ℕ) → length s ≤ 0 → is_run n (requests_in s) ≡ true
run_ends [] n h = ap (is_run n) requests-none ∙ le-leb 0 n (omega arith)
run_ends (c ∷ s) n h = absurd (omega arith)

-- one that goes on has room for an answer
pub run_room : (n : ℕ) (x : Option (List Bytes)) (q : Bytes) (y : Option (List Bytes)) → x ≡ before q y → is_run n x ≡ true → 0 < n
run_room zero x q y e h = absurd (true≢false (sym h ∙ ap (is_run 0) e ∙ run-full q y))
run_room (suc n) x q y e h = omega arith

-- one that is none is not run
pub no_run : (n : ℕ) (x : Option (List Bytes)) → x ≡ none → is_run n x ≡ true → ⊥
no_run n x e h = true≢false (sym h ∙ ap (is_run n) e)

pub sub-none : (n : ℕ) → n ≡ n - 0
sub-none n = omega arith

-- at most 64 and no more than there are answers: the lesser of the two is asked
both-least : (a m n : ℕ) → m ≤ n → (t : Bool) → leb a m ≡ t → (leb a n && t) ≡ t
both-least a m n h true e = ap (λ (b : Bool). b && true) (le-leb a n (omega (arith, leb-true a m e)))
both-least a m n h false e = and-false (leb a n)
  where
    and-false : (b : Bool) → (b && false) ≡ false
    and-false true = refl
    and-false false = refl

first-least : (a m n : ℕ) → m ≤ n → (t : Bool) → leb a m ≡ t → (t && leb a n) ≡ t
first-least a m n h true e = le-leb a n (omega (arith, leb-true a m e))
first-least a m n h false e = refl

taken-by : (b : Bool) (qs : List Bytes) → is_taken (only_if b qs) ≡ b
taken-by true qs = refl
taken-by false qs = refl

pub taken-short : (n : ℕ) (s : Bytes) → n < run_requests → is_run n (requests_in s) ≡ is_taken (taken n s)
taken-short n s h = go (requests_in s)
  where
    go : (x : Option (List Bytes)) → is_run n x ≡ is_taken (onward (few_enough n) x)
    go none = refl
    go (some qs) = sym (taken-by (leb (length qs) run_requests && leb (length qs) n) qs ∙ both-least (length qs) n run_requests (omega arith) (leb (length qs) n) refl)

pub taken-long : (n : ℕ) (s : Bytes) → run_requests ≤ n → is_run run_requests (requests_in s) ≡ is_taken (taken n s)
taken-long n s h = go (requests_in s)
  where
    go : (x : Option (List Bytes)) → is_run run_requests x ≡ is_taken (onward (few_enough n) x)
    go none = refl
    go (some qs) = sym (taken-by (leb (length qs) run_requests && leb (length qs) n) qs ∙ first-least (length qs) run_requests n h (leb (length qs) run_requests) refl)

-- one that is taken has its requests, no more than there are answers
taken-requests : (n : ℕ) (x : Option (List Bytes)) → is_taken (onward (few_enough n) x) ≡ true → (is_run n x ≡ true) × (onward (few_enough n) x ≡ x)
taken-requests n none h = absurd (true≢false (sym h))
taken-requests n (some qs) h = go (leb (length qs) run_requests) (leb (length qs) n) refl h
  where
    go : (a b : Bool) → leb (length qs) n ≡ b → is_taken (only_if (a && b) qs) ≡ true → (leb (length qs) n ≡ true) × (only_if (a && b) qs ≡ some qs)
    go true true e t = (e, refl)
    go true false e t = absurd (true≢false (sym t))
    go false b e t = absurd (true≢false (sym t))

pub taken-run : (n : ℕ) (s : Bytes) → is_taken (taken n s) ≡ true → is_run n (requests_in s) ≡ true
taken-run n s h = (taken-requests n (requests_in s) h).0

-- What is sent

-- what an edit of a file of `used` bytes tells, and the buffer after it
pub record Edited : Type 0 where
  pub number : ℕ
  pub length : ℕ
  pub buffer : Bytes

abbrev pub edited_of : ℕ → Filled → Edited
edited_of used a = record { number = number_in a.result; length = value_or used a.result; buffer = a.out }

abbrev pub edit_of : Bytes → ℕ → Bytes → Edited
edit_of buffer used q = edited_of used (edit_answer buffer used q)

-- the same of the code's answer
pub edited-by : (buffer : Bytes) (used : ℕ) (q : Bytes) (x : Result ℕ Refusal) (after : Bytes) → filled_by x after ≡ edit_answer buffer used q → (number size : ℕ) → number ≡ number_in (answered x) → size ≡ result_unwrap_or x used
    → ◌≡◌ {A = Edited} (record { number = number; length = size; buffer = after }) (edit_of buffer used q)
edited-by buffer used q x after h number size e f =
    (λ j. record { number = e j; length = (f ∙ value-told used x) j; buffer = after }) ∙ ap (edited_of used) h

-- the check's number stays: an edit that is accepted leaves a file that passes, and any other leaves all as it was
verdict-on : (buffer : Bytes) (used : ℕ) (q : Bytes) (k : ℕ) → verdict buffer used ≡ k → verdict (edit_of buffer used q).buffer (edit_of buffer used q).length ≡ k
unfolding singly
verdict-on buffer used q zero v = (edits-meet-demand buffer used (Single.edit q ∷ []) v).passes
verdict-on buffer used q (suc k) v = ap (λ (a : Filled). verdict a.out (value_or used a.result)) (answer-file buffer used q (suc k) (omega arith) v) ∙ v

pub number-stays : (buffer : Bytes) (used : ℕ) (q : Bytes) (k : ℕ) → check_answer buffer used ≡ k → (e : Edited) → e ≡ edit_of buffer used q → check_answer e.buffer e.length ≡ k
unfolding check_answer
number-stays buffer used q k v e h = ap (λ (x : Edited). verdict x.buffer x.length) h ∙ verdict-on buffer used q k v

-- numbers over the front of a list, one more
over-more : (ns d : List ℕ) (i n : ℕ) → length ns ≡ i → i < length d → set (over ns d) i n ≡ over (ns ++ (n ∷ [])) d
over-more ns d i n e h =
    let k : length (ns ++ (n ∷ [])) ≡ suc i = omega (arith, length-append ns (n ∷ []), e) in
    rw (e, k, drop-cons d i 0 h) (set_at ns (get_or d i 0) (drop (suc i) d) n i e ∙ sym (append_snoc ns n (drop (suc i) d)))

-- requests to a buffer, and the list of answers as it was
module _ (start : Bytes) (used : ℕ) (all : Option (List Bytes)) (old : List ℕ) where
  -- i of them are sent, and these are left
  pub record Reached (rest : Option (List Bytes)) (i n : ℕ) (buffer : Bytes) (answers : List ℕ) : Type 0 where
    pub told : List Told
    pub many : length told ≡ i
    pub goes : singly (edits_of all) start used ≡ then_ran (record { told = told; length = n; buffer = buffer }) (singly (edits_of rest) buffer n)
    pub tells : answers ≡ over (numbers_told told) old

  pub reached-start : Reached all 0 used start old
  reached-start = record { told = []; many = refl; goes = refl; tells = refl }

  pub reached-more : (q : Bytes) (x : Option (List Bytes)) (m i n : ℕ) (buffer : Bytes) (answers : List ℕ) → Reached (before q x) i n buffer answers → is_run m (before q x) ≡ true → i < length old
      → (e : Edited) → e ≡ edit_of buffer n q → Reached x (i + 1) e.length e.buffer (set answers i e.number)
  unfolding singly
  reached-more q none m i n buffer answers r t h e a = absurd (true≢false (sym t))
  reached-more q (some qs) m i n buffer answers r t h e a =
      let ts : List Told = r.told in
      let f : Edited = edit_of buffer n q in
      let w : Told = record { number = f.number; length = f.length } in
      let next : Ran = singly (map Single.edit qs) f.buffer f.length in
      let z : length (numbers_told ts) ≡ i = length-map ts (λ (x : Told). x.number) ∙ r.many in
      let there : Reached (some qs) (i + 1) f.length f.buffer (set answers i f.number) = record {
        told = ts ++ (w ∷ []);
        many = omega (arith, length-append ts (w ∷ []), r.many);
        goes = r.goes ∙ sym (λ j. record { told = append_snoc ts w next.told j; length = next.length; buffer = next.buffer });
        tells = ap (λ (d : List ℕ). set d i f.number) r.tells ∙ over-more (numbers_told ts) old i f.number z h ∙ ap (λ (d : List ℕ). over d old) (sym (map-append (λ (x : Told). x.number) ts (w ∷ [])));
      } in
      subst (λ (x : Edited). Reached (some qs) (i + 1) x.length x.buffer (set answers i x.number)) (sym a) there

  pub reached-end : (rest : Bytes) (i n : ℕ) (buffer : Bytes) (answers : List ℕ) → Reached (requests_in rest) i n buffer answers → length rest ≡ 0 → Sends start used all old n buffer answers
  unfolding singly
  reached-end (c ∷ rest) i n buffer answers r h = absurd (omega arith)
  reached-end [] i n buffer answers r h =
      let ts : List Told = r.told in
      let e : singly (edits_of all) start used ≡ record { told = ts; length = n; buffer = buffer } =
      r.goes ∙ ap (λ (x : Option (List Bytes)). then_ran (record { told = ts; length = n; buffer = buffer }) (singly (edits_of x) buffer n)) requests-none
      ∙ (λ j. record { told = append-nil ts j; length = n; buffer = buffer }) in
      (sym (ap (λ (x : Ran). x.length) e), sym (ap (λ (x : Ran). x.buffer) e), r.tells ∙ sym (ap (λ (x : Ran). over (numbers_told x.told) old) e))

-- What is answered

taken_none : (x : Option (List Bytes)) → is_taken x ≡ false → x ≡ none
taken_none none h = refl
taken_none (some qs) h = absurd (true≢false h)

abbrev pub answers29 : Bytes → List ℕ → Numbered
answers29 buffer old = record { result = Answer.refusal 29; out = buffer; answers = old }

pub answer-refused : (buffer : Bytes) (used : ℕ) (s : Bytes) (old : List ℕ) → is_taken (taken (length old) s) ≡ false → answers29 buffer old ≡ run_answer buffer used s old
answer-refused buffer used s old h = sym (run-refused buffer used s old (taken_none (taken (length old) s) h))

pub answer-sent : (buffer : Bytes) (used : ℕ) (s : Bytes) (old : List ℕ) (n : ℕ) (after : Bytes) (answers : List ℕ) → is_taken (taken (length old) s) ≡ true → Sends buffer used (requests_in s) old n after answers
    → ◌≡◌ {A = Numbered} (record { result = Answer.value n; out = after; answers = answers }) (run_answer buffer used s old)
answer-sent buffer used s old n after answers t h = go (requests_in s) refl (taken-requests (length old) (requests_in s) t).1
  where
    go : (x : Option (List Bytes)) → requests_in s ≡ x → taken (length old) s ≡ requests_in s → ◌≡◌ {A = Numbered} (record { result = Answer.value n; out = after; answers = answers }) (run_answer buffer used s old)
    go none e k = absurd (true≢false (sym t ∙ ap is_taken (k ∙ e)))
    go (some qs) e k =
        let g : Sends buffer used (some qs) old n after answers = subst (λ (x : Option (List Bytes)). Sends buffer used x old n after answers) e h in
        (λ j. record { result = Answer.value (g.0 j); out = g.1 j; answers = g.2 j }) ∙ sym (run-taken buffer used s old qs (k ∙ e))

-- a run of no bytes
pub answer-none : (buffer : Bytes) (used : ℕ) (s : Bytes) (old : List ℕ) → is_taken (taken (length old) s) ≡ true → length s ≡ 0 → ◌≡◌ {A = Numbered} (record { result = Answer.value used; out = buffer; answers = old }) (run_answer buffer used s old)
answer-none buffer used s old t h = answer-sent buffer used s old used buffer old t (reached-end buffer used (requests_in s) old s 0 used buffer old (reached-start buffer used (requests_in s) old) h)
