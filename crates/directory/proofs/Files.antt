-- The number of a file's sets, and an edit that is given a list, case by case: the file fails, the list is too short, and otherwise.
use Rattle.std.specs.Prelude.{◌≡◌, ℕ, zero, suc, ◌<◌, ◌≤◌, Bool, length}
use mathlib.Core.Path.{refl, sym, ap, ◌∙◌, subst}
use borrow.Author.Tests.{le-leb, lt-leb}
use Rattle.format.specs.Bytes.{Bytes, pick}
use Rattle.format.specs.Questions.{verdict}
use Rattle.format.specs.Calls.{Answer, answer, answered, then_no, value_or, Filled, check_answer, edit_answer, filled_by}
use Rattle.format.specs.Directory.{list_no, listed_answer}
use Rattle.format.specs.Runs.{Single}
use native.Mathlib.Omega.{arith}
use Rattle.std.specs.Prelude.{Result, Err}
use Rattle.std.specs.Result.{IsErr, IsErrAnd}
use Rattle.format.specs.declared.refusals.Question.{Question}
use Rattle.format.specs.declared.refusals.Refusal.{Refusal}
use Rattle.format.specs.Refusals.{question_no}
use Rattle.format.proofs.Refused.{question-number, handed-answer}
use Rattle.format.proofs.Directory.{left-passes, left-sets, listed-fails, listed-short, listed-edits}
use Rattle.directory.specs.Rows.{list_of, counted_in, Does}
use Rattle.directory.specs.declared.inner.Done.{Done}

-- the check said yes
pub checked-passes : (b : Bytes) (u : ℕ) → 0 ≡ check_answer b u → verdict b u ≡ 0
unfolding check_answer
checked-passes b u e = sym e

module _ (b : Bytes) (u m : ℕ) where
  abbrev counted_by : ℕ → ℕ → Answer
  counted_by v k = answer (then_no v k) (length (list_of b u))

  counted-no : (k : ℕ) → 0 < k → k ≡ check_answer b u → Answer.refusal k ≡ counted_in b u m
  unfolding check_answer
  counted-no zero h e = absurd (omega arith)
  counted-no (suc k) h e = ap (λ (v : ℕ). counted_by v (list_no m (length (list_of b u)))) e

  -- question q said no
  pub question-fails : (q : Question) → question_no q ≡ check_answer b u → Answer.refusal (question_no q) ≡ counted_in b u m
  question-fails q e = counted-no (question_no q) (question-number q) e

  pub counted-fails : (q : Question) → question_no q ≡ check_answer b u → (x : Result ℕ Refusal) → IsErr x × IsErrAnd x (λ r. r ≡ Refusal.File q) → answered x ≡ counted_in b u m
  counted-fails q e x h = handed-answer x q h ∙ question-fails q e

  module _ (v : verdict b u ≡ 0) where
    pub counted-short : m < length (list_of b u) → Answer.refusal 28 ≡ counted_in b u m
    counted-short h = sym (ap (λ (x : ℕ). counted_by x (list_no m (length (list_of b u)))) v ∙ ap (λ (t : Bool). counted_by 0 (pick t 0 28)) (lt-leb (length (list_of b u)) m h))

    pub counted-fits : length (list_of b u) ≤ m → Answer.value (length (list_of b u)) ≡ counted_in b u m
    counted-fits h = sym (ap (λ (x : ℕ). counted_by x (list_no m (length (list_of b u)))) v ∙ ap (λ (t : Bool). counted_by 0 (pick t 0 28)) (le-leb (length (list_of b u)) m h))

-- an edit
module _ (b : Bytes) (u : ℕ) (q : Bytes) (m : ℕ) where
  abbrev refused_done : Refusal → Done
  refused_done r = record { answer = Err r; used = u; sets = 0 }

  listed-no : (k : ℕ) → 0 < k → k ≡ check_answer b u → listed_answer m b u q ≡ record { result = Answer.refusal k; out = b }
  unfolding check_answer
  listed-no zero h e = absurd (omega arith)
  listed-no (suc k) h e = listed-fails m b u q k (sym e)

  pub does-fail : (k : Question) → question_no k ≡ check_answer b u → Does b u q m b (refused_done (Refusal.File k))
  does-fail k e = (sym (listed-no (question_no k) (question-number k) e), refl, ap (value_or 0) (question-fails b u m k e))

  module _ (v : verdict b u ≡ 0) where
    pub does-short : m < length (list_of b u) → Does b u q m b (refused_done Refusal.List)
    does-short h = (sym (listed-short m b u q v h), refl, ap (value_or 0) (counted-short b u m v h))

    pub does-edit : length (list_of b u) ≤ m → (r : Result ℕ Refusal) (after : Bytes) → filled_by r after ≡ edit_answer b u q
        → Does b u q m after (record { answer = r; used = value_or u (answered r); sets = length (list_of b u) })
    does-edit h r after e =
        let n : ℕ = value_or u (answered r) in
        let passes : verdict after n ≡ 0 = subst (λ (f : Filled). verdict f.out (value_or u f.result) ≡ 0) (sym e) (left-passes b u v (Single.edit q)) in
        let many : length (list_of after n) ≡ length (list_of b u) = subst (λ (f : Filled). length (list_of f.out (value_or u f.result)) ≡ length (list_of b u)) (sym e) (left-sets b u v (Single.edit q)) in
        (e ∙ sym (listed-edits m b u q h), refl, sym many ∙ ap (value_or 0) (counted-fits after n m passes (subst (λ (k : ℕ). k ≤ m) (sym many) h)))
