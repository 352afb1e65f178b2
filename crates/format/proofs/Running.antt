-- One edit of a list: the buffer goes on as the plain file does.
use Prim.Native.Nat.{ℕ, zero, suc, ◌≤◌, max}
use native.Mathlib.Omega.{arith}
use mathlib.Core.Path.{◌≡◌, refl, sym, ap, ◌∙◌, subst}
use lib.ListN.{length, take}
use lib.Seq.{length-take-le}
use Rattle.format.specs.Bytes.{Bytes}
use Rattle.format.specs.Pieces.{bytes_of, read_of}
use Rattle.format.specs.Plain.{Plain, plain_of, length_of, Step}
use Rattle.format.specs.Calls.{number_in, value_or, then_no, Filled, placed, edited}
use Rattle.format.specs.Runs.{Single, request_in, single_answer, single_step}
use Rattle.format.proofs.Applying.{agrees-length}
use Rattle.format.proofs.Questions.{Accepted, accepted-fits}
use Rattle.format.proofs.SingleSteps.{single-answers, single-accepted, single-refused}
use Rattle.format.proofs.Passing.{reads_as, Holds, holds-passes, holds-bytes, holds-agrees, edit-holds}
use Rattle.format.proofs.Filling.{padded, padded-length, padded-self, placed-padded}

-- the buffer holds the plain file, with zeros up to the largest length so far and the start's bytes behind them
pub record Stands (start : Bytes) (most : ℕ) (buffer : Bytes) (used : ℕ) (p : Plain) : Type 0 where
  pub holds : Holds buffer used p
  pub bytes : buffer ≡ padded (bytes_of p.pieces) most start
  pub uses : used ≡ length (bytes_of p.pieces)
  pub least : used ≤ most
  pub fits : most ≤ length start

pub stands-start : (buffer : Bytes) (used : ℕ) (p : Plain) → Holds buffer used p → Stands buffer used buffer used p
stands-start buffer used p h =
    let f : used ≤ length buffer = (holds-passes buffer used p h).fits in
    let b : bytes_of p.pieces ≡ take used buffer = holds-bytes buffer used p h in
    record { holds = h; bytes = sym (ap (λ (s : Bytes). padded s used buffer) b ∙ padded-self used buffer f); uses = sym (ap length b ∙ length-take-le used buffer f); least = omega arith; fits = f }

-- the answer of an edit by what it makes of the plain file
abbrev edited_step : Step → Bytes → ℕ → Filled
edited_step s buffer used = edited s.number (bytes_of s.file.pieces) buffer used

edited-number : (n : ℕ) (s buffer : Bytes) (used : ℕ) → number_in (edited n s buffer used).result ≡ n
edited-number zero s buffer used = refl
edited-number (suc k) s buffer used = refl

module _ (start : Bytes) (most : ℕ) (buffer : Bytes) (used : ℕ) (p : Plain) (st : Stands start most buffer used p) where
  pub stands-room : length buffer ≡ length start
  stands-room = ap length st.bytes ∙ padded-length (bytes_of p.pieces) most start (subst (λ (n : ℕ). n ≤ most) st.uses st.least) st.fits

  pub stands-length : used ≡ length_of p
  stands-length = st.uses ∙ sym (agrees-length p (holds-agrees buffer used p st.holds))

  -- the answer of an edit is the plain file's step
  single-answer : (c : Single) → single_answer c buffer used ≡ edited_step (single_step (length start) p c) buffer used
  single-answer c =
      let read : plain_of (read_of (take used buffer)) ≡ p = ap plain_of (reads_as (take used buffer) p.pieces st.holds.reads) ∙ st.holds.plain in
      single-answers c buffer used ∙ (λ i. let s : Step = single_step (stands-room i) (read i) c in edited (then_no (st.holds.passes i) s.number) (bytes_of s.file.pieces) buffer used)

  stands-accepted : (request : Bytes) (p' : Plain) → Accepted (length buffer) p request p' → Stands start (max most (length_of p')) (placed (bytes_of p'.pieces) used buffer) (length (bytes_of p'.pieces)) p'
  stands-accepted request p' a =
      let s : Bytes = bytes_of p.pieces in
      let t : Bytes = bytes_of p'.pieces in
      let h = edit-holds buffer used p request st.holds p' a in
      let n : length_of p' ≡ length t = agrees-length p' (holds-agrees (placed t used buffer) (length t) p' h) in
      let l : length s ≤ most = subst (λ (x : ℕ). x ≤ most) st.uses st.least in
      let b : placed t used buffer ≡ placed t (length s) (padded s most start) = λ i. placed t (st.uses i) (st.bytes i) in
      record { holds = h; bytes = b ∙ placed-padded s t most start l ∙ ap (λ (x : ℕ). padded t (max most x) start) (sym n); uses = refl; least = omega arith; fits = omega (arith, accepted-fits (length buffer) p request p' a, stands-room, st.fits) }

  stands-refused : (p' : Plain) → p' ≡ p → Stands start (max most (length_of p')) buffer used p'
  stands-refused p' e =
      let m : most ≡ max most (length_of p) = omega (arith, stands-length, st.least) in
      subst (λ (x : Plain). Stands start (max most (length_of x)) buffer used x) (sym e) (subst (λ (n : ℕ). Stands start n buffer used p) m st)

  step-stands : (c : Single) (s : Step) → single_step (length buffer) p c ≡ s → (n : ℕ) → s.number ≡ n
      → Stands start (max most (length_of s.file)) (edited n (bytes_of s.file.pieces) buffer used).out (value_or used (edited n (bytes_of s.file.pieces) buffer used).result) s.file
  step-stands c s e zero z = stands-accepted (request_in c) s.file (subst (λ (x : Step). x.number ≡ 0 → Accepted (length buffer) p (request_in c) x.file) e (single-accepted (length buffer) p c) z)
  step-stands c s e (suc k) z = stands-refused s.file (subst (λ (x : Step). x.number ≡ suc k → x.file ≡ p) e (single-refused (length buffer) p c k) z)

  pub single-stands : (c : Single) → let s : Step = single_step (length start) p c in Stands start (max most (length_of s.file)) (single_answer c buffer used).out (value_or used (single_answer c buffer used).result) s.file
  single-stands c =
      let s : Step = single_step (length start) p c in
      subst (λ (x : Filled). Stands start (max most (length_of s.file)) x.out (value_or used x.result) s.file) (sym (single-answer c)) (step-stands c s (ap (λ (n : ℕ). single_step n p c) stands-room) s.number refl)

  pub single-told : (c : Single) → number_in (single_answer c buffer used).result ≡ (single_step (length start) p c).number
  single-told c =
      let s : Step = single_step (length start) p c in
      ap (λ (x : Filled). number_in x.result) (single-answer c) ∙ edited-number s.number (bytes_of s.file.pieces) buffer used
