-- A refusal's number is not 0, so an answer with it is no value.
use Prim.Native.Nat.{ℕ, zero, suc, ◌<◌}
use native.Mathlib.Omega.{arith}
use mathlib.Core.Path.{◌≡◌, refl, sym, ap}
use mathlib.Core.Bool.{true≢false}
use Rattle.std.specs.Prelude.{Result, Ok, Err}
use Rattle.std.specs.Result.{IsErr, IsErrAnd, IfOk, result_unwrap_or}
use Rattle.format.specs.declared.refusals.Question.{Question}
use Rattle.format.specs.declared.refusals.Refusal.{Refusal}
use Rattle.format.specs.Refusals.{question_no, refusal_no}
use Rattle.format.specs.Calls.{Answer, answer, answered, value_or}

pub question-number : (q : Question) → 0 < question_no q
question-number Question.Length = omega arith
question-number Question.Byte = omega arith
question-number Question.Line = omega arith
question-number Question.Limit = omega arith
question-number Question.Rec = omega arith
question-number Question.Descriptor = omega arith
question-number Question.Type = omega arith
question-number Question.Prohibited = omega arith
question-number Question.NotAllowed = omega arith
question-number Question.Missing = omega arith
question-number Question.Repeated = omega arith
question-number Question.Value = omega arith
question-number Question.Key = omega arith
question-number Question.Size = omega arith
question-number Question.Singular = omega arith

pub refusal-number : (r : Refusal) → 0 < refusal_no r
refusal-number (Refusal.File q) = question-number q
refusal-number Refusal.Form = omega arith
refusal-number Refusal.Set = omega arith
refusal-number Refusal.Record = omega arith
refusal-number Refusal.Field = omega arith
refusal-number Refusal.Emptied = omega arith
refusal-number Refusal.Illegal = omega arith
refusal-number Refusal.Numberless = omega arith
refusal-number Refusal.Large = omega arith
refusal-number (Refusal.Result q) = omega arith
refusal-number Refusal.Room = omega arith
refusal-number Refusal.List = omega arith
refusal-number Refusal.Run = omega arith
refusal-number Refusal.Uncounted = omega arith
refusal-number Refusal.Expression = omega arith
refusal-number Refusal.Numbers = omega arith
refusal-number Refusal.Spare = omega arith
refusal-number Refusal.SpareSet = omega arith

-- an answer with the number of a refusal
answer-no : (n m : ℕ) → 0 < n → answer n m ≡ Answer.refusal n
answer-no zero m h = absurd (omega arith)
answer-no (suc n) m h = refl

pub answer-refused : (r : Refusal) (m : ℕ) → answer (refusal_no r) m ≡ Answer.refusal (refusal_no r)
answer-refused r m = answer-no (refusal_no r) m (refusal-number r)

-- what `?` hands on: the refusal that was answered, a question as a refusal of the file
pub handed-as : {A E : Type 0} (x : Result A E) (r : E) → IsErr x × IsErrAnd x (λ y. y ≡ r) → x ≡ Err r
handed-as (Ok n) r h = absurd (true≢false (sym h.0))
handed-as (Err e) r h = ap Err h.1

pub handed-answer : (x : Result ℕ Refusal) (q : Question) → IsErr x × IsErrAnd x (λ r. r ≡ Refusal.File q) → answered x ≡ Answer.refusal (question_no q)
handed-answer x q h = ap answered (handed-as x (Refusal.File q) h)

-- a refusal has no value
pub none-given : {A E : Type 0} (P : A → Type 0) (x : Result A E) → IsErr x → IfOk x P
none-given P (Ok n) h = absurd (true≢false (sym h))
none-given P (Err e) h = tt

-- what the code takes for a refusal is what the definitions take
pub value-told : (n : ℕ) (x : Result ℕ Refusal) → result_unwrap_or x n ≡ value_or n (answered x)
value-told n (Ok m) = refl
value-told n (Err r) = refl
