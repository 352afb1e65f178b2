-- What an edit of a list does to the plain file: it is accepted as its request is, or refused and changes nothing.
use Prim.Native.Nat.{ℕ, zero, suc}
use mathlib.Core.Path.{◌≡◌, refl}
use lib.ListN.{length}
use Rattle.format.specs.Bytes.{Bytes}
use Rattle.format.specs.Plain.{Plain, step}
use Rattle.format.specs.Calls.{edit_answer, step_answer}
use Rattle.format.specs.Directory.{list_no, refused_by, listed_step, listed_answer}
use Rattle.format.specs.Runs.{Single, request_in, single_answer, single_step}
use Rattle.format.proofs.Questions.{Accepted, step-accepted, step-refused}
use native.Mathlib.Omega.{arith}

-- the answer of an edit is that of its step
pub single-answers : (c : Single) (buffer : Bytes) (used : ℕ) → single_answer c buffer used ≡ step_answer (λ (room : ℕ) (p : Plain). single_step room p c) buffer used
unfolding edit_answer listed_answer
single-answers (Single.edit q) buffer used = refl
single-answers (Single.listed n q) buffer used = refl

-- a question asked before all others
by-accepted : (k room : ℕ) (p : Plain) (q : Bytes) → (refused_by k p (step room p q)).number ≡ 0 → Accepted room p q (refused_by k p (step room p q)).file
by-accepted zero room p q e = step-accepted room p q e
by-accepted (suc k) room p q e = absurd (omega arith)

by-refused : (k room : ℕ) (p : Plain) (q : Bytes) (n : ℕ) → (refused_by k p (step room p q)).number ≡ suc n → (refused_by k p (step room p q)).file ≡ p
by-refused zero room p q n e = step-refused room p q n e
by-refused (suc k) room p q n e = refl

pub single-accepted : (room : ℕ) (p : Plain) (c : Single) → (single_step room p c).number ≡ 0 → Accepted room p (request_in c) (single_step room p c).file
unfolding listed_step
single-accepted room p (Single.edit q) e = step-accepted room p q e
single-accepted room p (Single.listed n q) e = by-accepted (list_no n (length p.sets)) room p q e

-- "refused edits change nothing"
pub single-refused : (room : ℕ) (p : Plain) (c : Single) (k : ℕ) → (single_step room p c).number ≡ suc k → (single_step room p c).file ≡ p
unfolding listed_step
single-refused room p (Single.edit q) k e = step-refused room p q k e
single-refused room p (Single.listed n q) k e = by-refused (list_no n (length p.sets)) room p q k e
