-- An accepted merge leaves what its inserts leave, sent singly, and so meets demand 3; a refused one leaves every byte and tells the first refused insert's number.
use Prim.Native.Nat.{ℕ, zero, suc, ◌<◌}
use native.Mathlib.Omega.{arith}
use mathlib.Core.Path.{◌≡◌, refl, sym, ap, ◌∙◌, subst}
use mathlib.Core.Bool.{Bool, true, false, false≢true}
use mathlib.Core.List.{List, [], ◌∷◌}
use lib.Dec.{eqb}
use lib.ListN.{length, take}
use borrow.Author.Tests.{eqb-true}
use Rattle.format.specs.Bytes.{Bytes, pick}
use Rattle.format.specs.Pieces.{bytes_of, read_of}
use Rattle.format.specs.Questions.{verdict}
use Rattle.format.specs.Plain.{Plain, plain_of, Step, step}
use Rattle.format.specs.Calls.{Answer, answer, number_in, value_or, then_no, sets_in, Filled, leaves, edit_answer}
use Rattle.format.specs.Runs.{Single, Told, Ran, ran_on, singly, plain_run}
use Rattle.format.specs.Demand.{Demand}
use Rattle.format.proofs.Elements.{Each}
use Rattle.format.proofs.Demand.{edits-meet-demand}
use Rattle.merging.specs.Merging.{SpareRecord, records_of, request_for, is_skipped, answer_unless, then_answer, records_answer, has_sets, spare_no, unless_no, merge_answer, insert_unless, inserts_from, merge_inserts, first_number}

-- an edit is never refused with 0

abbrev pub is_value : Answer → Bool
is_value (Answer.value n) = true
is_value (Answer.refusal k) = false

abbrev pub IsRaised : Answer → Type 0
IsRaised (Answer.value n) = Unit {0}
IsRaised (Answer.refusal k) = 0 < k

number-raised : (k n : ℕ) → IsRaised (answer k n)
number-raised zero n = tt
number-raised (suc k) n = omega arith

pub edit-raised : (buffer : Bytes) (used : ℕ) (q : Bytes) → IsRaised (edit_answer buffer used q).result
unfolding edit_answer
edit-raised buffer used q =
    let s : Step = step (length buffer) (plain_of (read_of (take used buffer))) q in
    number-raised (then_no (verdict buffer used) s.number) (length (bytes_of s.file.pieces))

-- how edits sent singly end: all accepted, with a length and a buffer; or the first number that is not 0 is a refusal's
pub record EndsWith (r : Ran) (n : ℕ) (out : Bytes) : Type 0 where
  pub length : r.length ≡ n
  pub buffer : r.buffer ≡ out
  pub accepted : Each (λ (t : Told). t.number ≡ 0) r.told

abbrev pub EndsAs : Ran → Answer → Bytes → Type 0
EndsAs r (Answer.value n) out = EndsWith r n out
EndsAs r (Answer.refusal k) out = first_number r.told ≡ k

ends-after : (r : Ran) (n : ℕ) (a : Answer) (out : Bytes) → EndsAs r a out → EndsAs (ran_on (record { number = 0; length = n }) r) a out
ends-after r n (Answer.value m) out h = record { length = h.length; buffer = h.buffer; accepted = (refl, h.accepted) }
ends-after r n (Answer.refusal k) out h = h

module _ (q : Bytes) (es : List Single) (buffer : Bytes) (used : ℕ) where
  singly-on : (m : ℕ) → (edit_answer buffer used q).result ≡ Answer.value m → singly (Single.edit q ∷ es) buffer used ≡ ran_on (record { number = 0; length = m }) (singly es (edit_answer buffer used q).out m)
  unfolding singly
  singly-on m e = λ i. ran_on (record { number = number_in (e i); length = value_or used (e i) }) (singly es (edit_answer buffer used q).out (value_or used (e i)))

  singly-stops : (k : ℕ) → (edit_answer buffer used q).result ≡ Answer.refusal (suc k) → first_number (singly (Single.edit q ∷ es) buffer used).told ≡ suc k
  unfolding singly
  singly-stops k e = λ i. then_no (number_in (e i)) (first_number (singly es (edit_answer buffer used q).out (value_or used (edit_answer buffer used q).result)).told)

-- The inserts, sent singly, end as the records do.
pub records-end : (xs : List SpareRecord) (buffer : Bytes) (used : ℕ) → EndsAs (singly (inserts_from xs buffer used) buffer used) (records_answer xs buffer used).result (records_answer xs buffer used).out
unfolding records_answer inserts_from singly
records-end [] buffer used = record { length = refl; buffer = refl; accepted = tt }
records-end (x ∷ xs) buffer used = go (is_skipped x (sets_in buffer used)) (records-end xs)
  where
    one : (r : Answer) → (edit_answer buffer used (request_for x)).result ≡ r → ((b : Bytes) (u : ℕ) → EndsAs (singly (inserts_from xs b u) b u) (records_answer xs b u).result (records_answer xs b u).out)
        → let out : Bytes = (edit_answer buffer used (request_for x)).out in EndsAs (singly (Single.edit (request_for x) ∷ inserts_from xs out (value_or used r)) buffer used) (then_answer r out (records_answer xs)).result (then_answer r out (records_answer xs)).out
    one (Answer.value m) e ih =
        let out : Bytes = (edit_answer buffer used (request_for x)).out in
        let es : List Single = inserts_from xs out m in
        let a : Filled = records_answer xs out m in
        subst (λ (r : Ran). EndsAs r a.result a.out) (sym (singly-on (request_for x) es buffer used m e)) (ends-after (singly es out m) m a.result a.out (ih out m))
    one (Answer.refusal zero) e ih = let h : 0 < 0 = subst IsRaised e (edit-raised buffer used (request_for x)) in absurd (omega arith)
    one (Answer.refusal (suc k)) e ih = singly-stops (request_for x) (inserts_from xs (edit_answer buffer used (request_for x)).out used) buffer used k e

    go : (t : Bool) → ((b : Bytes) (u : ℕ) → EndsAs (singly (inserts_from xs b u) b u) (records_answer xs b u).result (records_answer xs b u).out)
        → let a : Filled = answer_unless t x buffer used in EndsAs (singly (insert_unless t x (inserts_from xs a.out (value_or used a.result))) buffer used) (then_answer a.result a.out (records_answer xs)).result (then_answer a.result a.out (records_answer xs)).out
    go true ih = ih buffer used
    go false ih = one (edit_answer buffer used (request_for x)).result refl ih

-- the numbers that are asked before

both-none : (a b : ℕ) → then_no a b ≡ 0 → (a ≡ 0) × (b ≡ 0)
both-none zero b e = (refl, e)
both-none (suc k) b e = absurd (omega arith)

picked-zero : (t : Bool) (n k : ℕ) → pick t n (suc k) ≡ 0 → (t ≡ true) × (n ≡ 0)
picked-zero true n k e = (refl, e)
picked-zero false n k e = absurd (omega arith)

pub unless-accepted : (k : ℕ) (a : Answer) (m : ℕ) → unless_no k a ≡ Answer.value m → (k ≡ 0) × (a ≡ Answer.value m)
unless-accepted zero a m e = (refl, e)
unless-accepted (suc k) a m e = absurd (false≢true (ap is_value e))

module _ (buffer : Bytes) (used : ℕ) (spare : Bytes) (n : ℕ) where
  abbrev first : Plain
  first = plain_of (read_of (take used buffer))

  abbrev es : List Single
  es = merge_inserts buffer used spare n

  -- What an accepted merge grants: both files pass, the main file has the spare's sets, and the inserts, sent singly, are all accepted and leave its length and its buffer.
  pub record Merged (m : ℕ) (out : Bytes) : Type 0 where
    pub passes : verdict buffer used ≡ 0
    pub spare-passes : verdict spare n ≡ 0
    pub sets-there : has_sets (sets_in buffer used) (sets_in spare n) ≡ true
    pub inserts : EndsWith (singly (merge_inserts buffer used spare n) buffer used) m out

  pub merge-accepted : (m : ℕ) → (merge_answer buffer used spare n).result ≡ Answer.value m → Merged m (merge_answer buffer used spare n).out
  unfolding merge_answer
  merge-accepted m e =
      let a : Filled = records_answer (records_of (sets_in spare n)) buffer used in
      let no : ℕ = spare_no (sets_in buffer used) spare n in
      let k = unless-accepted (then_no (verdict buffer used) no) a.result m e in
      let v = both-none (verdict buffer used) no k.0 in
      let s = picked-zero (eqb (verdict spare n) 0) (pick (has_sets (sets_in buffer used) (sets_in spare n)) 0 36) 34 v.1 in
      let kept : a.out ≡ (merge_answer buffer used spare n).out = sym (ap (λ (r : Answer). leaves r a.out buffer) e) in
      record {
        passes = v.0;
        spare-passes = eqb-true (verdict spare n) 0 s.0;
        sets-there = (picked-zero (has_sets (sets_in buffer used) (sets_in spare n)) 0 35 s.1).0;
        inserts = subst (λ (o : Bytes). EndsWith (singly es buffer used) m o) kept (subst (λ (r : Answer). EndsAs (singly es buffer used) r a.out) k.1 (records-end (records_of (sets_in spare n)) buffer used));
      }

  -- So demand 3 holds of an accepted merge.
  pub merge-meets-demand : (m : ℕ) → (merge_answer buffer used spare n).result ≡ Answer.value m
      → let start : Plain = plain_of (read_of (take used buffer)) in let edits : List Single = merge_inserts buffer used spare n in
      Demand buffer used start edits (record { told = (singly edits buffer used).told; length = m; buffer = (merge_answer buffer used spare n).out }) (plain_run (length buffer) edits start used)
  merge-meets-demand m e =
      let g = merge-accepted m e in
      let r : Ran = singly es buffer used in
      let same-run : r ≡ record { told = r.told; length = m; buffer = (merge_answer buffer used spare n).out } = λ i. record { told = r.told; length = g.inserts.length i; buffer = g.inserts.buffer i } in
      subst (λ (x : Ran). Demand buffer used first es x (plain_run (length buffer) es first used)) same-run (edits-meet-demand buffer used es g.passes)

  -- "the main file keeps every byte"
  pub merge-refused : (k : ℕ) → (merge_answer buffer used spare n).result ≡ Answer.refusal k → (merge_answer buffer used spare n).out ≡ buffer
  unfolding merge_answer
  merge-refused k e = ap (λ (r : Answer). leaves r (records_answer (records_of (sets_in spare n)) buffer used).out buffer) e

  -- "the answer is the first such insert's number", behind the main file's own, 35 and 36
  none_told : (ts : List Told) → Each (λ (t : Told). t.number ≡ 0) ts → first_number ts ≡ 0
  none_told [] h = refl
  none_told (t ∷ ts) h = ap (λ (k : ℕ). then_no k (first_number ts)) h.0 ∙ none_told ts h.1

  ends-number : (r : Ran) (a : Answer) (out : Bytes) → EndsAs r a out → number_in a ≡ first_number r.told
  ends-number r (Answer.value m) out h = sym (none_told r.told h.accepted)
  ends-number r (Answer.refusal k) out h = sym h

  unless-number : (k : ℕ) (a : Answer) → number_in (unless_no k a) ≡ then_no k (number_in a)
  unless-number zero a = refl
  unless-number (suc k) a = refl

  pub merge-number : number_in (merge_answer buffer used spare n).result ≡ then_no (then_no (verdict buffer used) (spare_no (sets_in buffer used) spare n)) (first_number (singly (merge_inserts buffer used spare n) buffer used).told)
  unfolding merge_answer
  merge-number =
      let a : Filled = records_answer (records_of (sets_in spare n)) buffer used in
      let k : ℕ = then_no (verdict buffer used) (spare_no (sets_in buffer used) spare n) in
      unless-number k a.result ∙ ap (then_no k) (ends-number (singly es buffer used) a.result a.out (records-end (records_of (sets_in spare n)) buffer used))
