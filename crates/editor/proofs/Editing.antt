-- What one edit answers: the file passes, the request was read, and where it acts was located.
use Prim.Native.Nat.{ℕ, zero, suc, ◌≤◌, ◌<◌}
use native.Mathlib.Omega.{arith}
use mathlib.Core.Path.{◌≡◌, refl, sym, ap, ◌∙◌, subst}
use mathlib.Core.Logic.{inl, inr}
use mathlib.Core.Bool.{Bool, true, false, true≢false, and-eq-true_iff}
use mathlib.Core.Option.{Option, none, some}
use lib.Dec.{leb}
use lib.ListN.{length, take}
use borrow.Author.Tests.{leb-true}
use Rattle.format.specs.Bytes.{Bytes, pick}
use Rattle.format.specs.Pieces.{bytes_of as pieces_text, pieces, read_of}
use Rattle.format.specs.Limits.{file_bytes}
use Rattle.format.specs.Questions.{verdict, fits_limits}
use Rattle.format.specs.Requests.{Request, request_of}
use Rattle.format.specs.Plain.{plain_of}
use Rattle.format.specs.Calls.{Answer, Filled, filled_by, placed, edit_answer}
use Rattle.format.proofs.Passing.{verdict-read, holds-start}
use Rattle.format.proofs.Requested.{request-pairs}
use Rattle.format.proofs.Judging.{text_no}
use Rattle.format.proofs.Results.{raised_no, edit_no, limit-text}
use Rattle.format.proofs.Answers.{refused_edit, answer-fault, answer-refused, answer-accepted}
use Rattle.std.specs.Prelude.{Result}
use Rattle.std.specs.Result.{IsErr, IsErrAnd}
use Rattle.format.specs.declared.refusals.Refusal.{Refusal}
use Rattle.format.specs.Refusals.{refusal_no}
use Rattle.format.proofs.Refused.{refusal-number, handed-as}
use Rattle.edits.specs.declared.Located.{Located}
use Rattle.edits.specs.declared.Splice.{Splice}
use Rattle.edits.specs.Splices.{made_by, Sound, is_within}
use Rattle.edits.specs.Places.{place_no, result_to, OverAs, Locates}
use Rattle.edits.proofs.Sizes.{over-file}
use Rattle.editor.specs.Overs.{over_no}
use Rattle.editor.specs.Plans.{planned_by, Planned}

-- an accepted edit: its text is within the room

within_by : (b : Bool) (n : ℕ) → pick b n 26 ≡ 0 → b ≡ true
within_by true n e = refl
within_by false n e = absurd (omega arith)

pub number-zero : (room : ℕ) (t : Bytes) → edit_no room 0 t ≡ 0 → length t ≤ room
number-zero room t e = leb-true (length t) room ((and-eq-true_iff (leb (length t) room) (leb (length t) file_bytes)).0 (within_by _ (raised_no (text_no t)) e)).0

-- is it refused, and with which number
abbrev is_refusal : Located → Bool
is_refusal (Located.Refused k) = true
is_refusal (Located.At x) = false
is_refusal (Located.Over n) = false

abbrev number_of : Located → ℕ
number_of (Located.Refused r) = refusal_no r
number_of (Located.At x) = 0
number_of (Located.Over n) = 0

-- the file in a used buffer that passes
module _ (buffer : Bytes) (used : ℕ) (v : verdict buffer used ≡ 0) where
  -- a request that was read, and what was located of it
  module _ (req : Bytes) (q : Request) (e : request_of req ≡ some q) where
    abbrev s : Bytes
    s = take used buffer

    refused-with : (k : ℕ) → 0 < k → place_no (length buffer) s q ≡ k → refused_edit k buffer ≡ edit_answer buffer used req
    refused-with zero h l = absurd (omega arith)
    refused-with (suc k) h l = sym (answer-refused buffer used req v q e (suc k) l (suc k) (omega arith) refl)

    place-refused : (added : Bytes) (r : Refusal) → Locates (take used buffer) req added q (Located.Refused r) → refused_edit (refusal_no r) buffer ≡ edit_answer buffer used req
    place-refused added r l = refused-with (refusal_no r) (refusal-number r) (l (length buffer))

    -- what is over a limit
    over-text : (n : ℕ) → ((room : ℕ) → place_no room s q ≡ 0) → OverAs n (length (pieces_text (result_to s q).pieces)) (fits_limits (result_to s q).sets) → edit_no (length buffer) 0 (pieces_text (result_to s q).pieces) ≡ over_no (length buffer) n
    over-text n y (inl h) = ap (λ (b : Bool). pick b (raised_no (text_no (pieces_text (result_to s q).pieces))) 26) (over-file (length buffer) (length (pieces_text (result_to s q).pieces)) h.1) ∙ sym (ap (λ (b : Bool). pick b 104 26) (over-file (length buffer) n h.0))
    over-text n y (inr h) =
        let t : Bytes = pieces_text (result_to s q).pieces in
        let k : text_no t ≡ 4 = limit-text buffer used (plain_of (read_of s)) (holds-start buffer used (read_of s) v (verdict-read buffer used v)) 0 q (request-pairs req q e) (y 0) h.1 in
        (λ i. pick (is_within (length buffer) (sym h.0 i)) (raised_no (k i)) 26)

    over-some : (b : Bool) → 0 < pick b 104 26
    over-some true = omega arith
    over-some false = omega arith

    over-refused : (added : Bytes) (n k : ℕ) → Locates (take used buffer) req added q (Located.Over n) → k ≡ over_no (length buffer) n → refused_edit k buffer ≡ edit_answer buffer used req
    over-refused added n k l z = sym (answer-refused buffer used req v q e 0 (l.0 (length buffer)) k (subst (λ (x : ℕ). 0 < x) (sym z) (over-some (is_within (length buffer) n))) (over-text n l.0 l.1 ∙ sym z))

    module _ (added : Bytes) (x : Splice) (l : Locates (take used buffer) req added q (Located.At x)) where
      edit-refused : (n : ℕ) → 0 < n → n ≡ edit_no (length buffer) 0 (made_by (take used buffer) req added x) → refused_edit n buffer ≡ edit_answer buffer used req
      edit-refused n h z = sym (answer-refused buffer used req v q e 0 (l.0 (length buffer)) n h (sym (z ∙ ap (edit_no (length buffer) 0) l.1)))

      -- what was carried out is what the request asks for
      edit-accepted : 0 ≡ edit_no (length buffer) 0 (made_by (take used buffer) req added x) → (n : ℕ) (after : Bytes) → n ≡ length (made_by (take used buffer) req added x) → after ≡ placed (made_by (take used buffer) req added x) used buffer → ◌≡◌ {A = Filled} (record { result = Answer.value n; out = after }) (edit_answer buffer used req)
      edit-accepted z n after h k =
          (λ i. record { result = Answer.value ((h ∙ ap length l.1) i); out = (k ∙ ap (λ (t : Bytes). placed t used buffer) l.1) i })
          ∙ sym (answer-accepted buffer used req v q e 0 (l.0 (length buffer)) (sym (z ∙ ap (edit_no (length buffer) 0) l.1)))

  -- what was planned of a request
  module _ (req added : Bytes) where
    plan-read : (x : Located) → is_refusal x ≡ false → Planned (take used buffer) req added x → (q : Request) × (request_of req ≡ some q) × Locates (take used buffer) req added q x
    plan-read x h p = go (request_of req) refl p
      where
        go : (o : Option Request) → request_of req ≡ o → planned_by o (take used buffer) req added x → (q : Request) × (request_of req ≡ some q) × Locates (take used buffer) req added q x
        go none e l = absurd (true≢false (ap is_refusal l ∙ h))
        go (some q) e l = (q, e, l)

    pub plan-refused : (r : Refusal) → Planned (take used buffer) req added (Located.Refused r) → refused_edit (refusal_no r) buffer ≡ edit_answer buffer used req
    plan-refused k p = go (request_of req) refl p
      where
        go : (o : Option Request) → request_of req ≡ o → planned_by o (take used buffer) req added (Located.Refused k) → refused_edit (refusal_no k) buffer ≡ edit_answer buffer used req
        go none e l = ap (λ (x : Located). refused_edit (number_of x) buffer) (sym l) ∙ sym (answer-fault buffer used req v e)
        go (some q) e l = place-refused req q e added k l

    pub plan-over : (n k : ℕ) → Planned (take used buffer) req added (Located.Over n) → k ≡ over_no (length buffer) n → refused_edit k buffer ≡ edit_answer buffer used req
    plan-over n k p z = let r = plan-read (Located.Over n) refl p in over-refused req r.0 r.1 added n k r.2 z

    module _ (x : Splice) (p : Planned (take used buffer) req added (Located.At x)) where
      pub plan-sound : Sound (take used buffer) req added x
      plan-sound = (plan-read (Located.At x) refl p).2.2

      pub plan-fails : (n : ℕ) → (n ≡ 0 → ⊥) → n ≡ edit_no (length buffer) 0 (made_by (take used buffer) req added x) → refused_edit n buffer ≡ edit_answer buffer used req
      plan-fails n h = let r = plan-read (Located.At x) refl p in edit-refused req r.0 r.1 added x r.2 n (omega (arith, h))

      -- the answer y hands a refusal on
      pub plan-hands-on : (r : Refusal) → refusal_no r ≡ edit_no (length buffer) 0 (made_by (take used buffer) req added x) → (y : Result ℕ Refusal) → IsErr y × IsErrAnd y (λ z. z ≡ r) → filled_by y buffer ≡ edit_answer buffer used req
      plan-hands-on k e y h =
          let r = plan-read (Located.At x) refl p in
          ap (λ (z : Result ℕ Refusal). filled_by z buffer) (handed-as y k h) ∙ edit-refused req r.0 r.1 added x r.2 (refusal_no k) (refusal-number k) e

      pub plan-done : 0 ≡ edit_no (length buffer) 0 (made_by (take used buffer) req added x) → (n : ℕ) (after : Bytes) → n ≡ length (made_by (take used buffer) req added x) → after ≡ placed (made_by (take used buffer) req added x) used buffer → ◌≡◌ {A = Filled} (record { result = Answer.value n; out = after }) (edit_answer buffer used req)
      plan-done = let r = plan-read (Located.At x) refl p in edit-accepted req r.0 r.1 added x r.2
