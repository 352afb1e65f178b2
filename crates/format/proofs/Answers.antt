-- The answer of an edit, case by case: a no of the file, no request, a no of the edit, accepted.
use Prim.Native.Nat.{ℕ, zero, suc, ◌<◌}
use native.Mathlib.Omega.{arith}
use mathlib.Core.Path.{◌≡◌, ap, ◌∙◌}
use mathlib.Core.Option.{Option, none, some}
use lib.ListN.{length, take}
use Rattle.format.specs.Bytes.{Bytes}
use Rattle.format.specs.Pieces.{bytes_of, read_of}
use Rattle.format.specs.Numbers.{int_bounds}
use Rattle.format.specs.Questions.{first_no, verdict}
use Rattle.format.specs.Requests.{Request, request_of}
use Rattle.format.specs.Plain.{Plain, plain_of, edit_questions, Step, step_by, step_of, step}
use Rattle.format.specs.Calls.{Answer, then_no, Filled, placed, edited, edit_answer}
use Rattle.format.proofs.Requested.{request-pairs}
use Rattle.format.proofs.Questions.{asked}
use Rattle.format.proofs.Passing.{verdict-read, holds-start}
use Rattle.format.proofs.Results.{place_rows, edit_no, edit-number}

-- a refusal leaves the buffer
abbrev pub refused_edit : ℕ → Bytes → Filled
refused_edit k buffer = record { result = Answer.refusal k; out = buffer }

abbrev pub accepted_edit : Bytes → Bytes → ℕ → Filled
accepted_edit text buffer used = record { result = Answer.value (length text); out = placed text used buffer }

module _ (buffer : Bytes) (used : ℕ) (request : Bytes) where
  abbrev first : Plain
  first = plain_of (read_of (take used buffer))

  -- the file's questions
  pub answer-file : (k : ℕ) → 0 < k → verdict buffer used ≡ k → edit_answer buffer used request ≡ refused_edit k buffer
  unfolding edit_answer
  answer-file zero h e = absurd (omega arith)
  answer-file (suc k) h e = let s : Step = step (length buffer) first request in ap (λ (v : ℕ). edited (then_no v s.number) (bytes_of s.file.pieces) buffer used) e

  module _ (v : verdict buffer used ≡ 0) where
    answer-step : (x : Option Request) → request_of request ≡ x → edit_answer buffer used request ≡ (let s : Step = step_of int_bounds (length buffer) first x in edited s.number (bytes_of s.file.pieces) buffer used)
    unfolding edit_answer step
    answer-step x e =
        let stepped : Option Request → Step = λ (y : Option Request). step_of int_bounds (length buffer) first y in
        (λ i. edited (then_no (v i) (stepped (e i)).number) (bytes_of (stepped (e i)).file.pieces) buffer used)

    -- 20
    pub answer-fault : request_of request ≡ none → edit_answer buffer used request ≡ refused_edit 20 buffer
    answer-fault e = answer-step none e

    module _ (q : Request) (e : request_of request ≡ some q) where
      answer-by : (n : ℕ) → first_no (edit_questions int_bounds) (asked (length buffer) first q) ≡ n → edit_answer buffer used request ≡ (let s : Step = step_by n first (asked (length buffer) first q).result in edited s.number (bytes_of s.file.pieces) buffer used)
      answer-by n z = answer-step (some q) e ∙ ap (λ (x : ℕ). let s : Step = step_by x first (asked (length buffer) first q).result in edited s.number (bytes_of s.file.pieces) buffer used) z

      -- the edit's number, by that of questions 21 to 25 and 31
      module _ (k : ℕ) (z : first_no place_rows (asked (length buffer) first q) ≡ k) where
        abbrev made : Bytes
        made = bytes_of (asked (length buffer) first q).result.pieces

        number : first_no (edit_questions int_bounds) (asked (length buffer) first q) ≡ edit_no (length buffer) k made
        number = edit-number buffer used first (holds-start buffer used (read_of (take used buffer)) v (verdict-read buffer used v)) (length buffer) q (request-pairs request q e) k z

        pub answer-refused : (n : ℕ) → 0 < n → edit_no (length buffer) k (bytes_of (asked (length buffer) (plain_of (read_of (take used buffer))) q).result.pieces) ≡ n → edit_answer buffer used request ≡ refused_edit n buffer
        answer-refused zero h t = absurd (omega arith)
        answer-refused (suc n) h t = answer-by (suc n) (number ∙ t)

        pub answer-accepted : edit_no (length buffer) k (bytes_of (asked (length buffer) (plain_of (read_of (take used buffer))) q).result.pieces) ≡ 0 → edit_answer buffer used request ≡ accepted_edit (bytes_of (asked (length buffer) (plain_of (read_of (take used buffer))) q).result.pieces) buffer used
        answer-accepted t = answer-by 0 (number ∙ t)
