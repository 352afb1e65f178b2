-- The text that a splice makes of another, in a copy of it.
use Rattle.std.specs.Prelude.{Result, Ok, Err}
use Rattle.std.specs.Result.{IsErrAnd, MatchResult}
use Rattle.format.specs.declared.refusals.Question.{Question}
use Rattle.format.specs.declared.refusals.Refusal.{Refusal}
use Rattle.format.specs.Refusals.{question_no, refusal_no, no_of, refused_no}
use Rattle.format.proofs.Refused.{question-number}
use Prim.Native.Nat.{ℕ, zero, suc, ◌+◌, ◌≤◌, ◌<◌}
use native.Mathlib.Omega.{arith}
use mathlib.Core.Path.{◌≡◌, refl, sym, ap, ◌∙◌, subst}
use mathlib.Core.Bool.{Bool, true, ◌&&◌, and-eq-true_iff}
use lib.Dec.{leb}
use borrow.Author.Tests.{leb-true}
use lib.ListN.{length, take, drop}
use lib.Seq.{take-append_seam}
use Rattle.format.specs.Bytes.{Bytes, pick}
use Rattle.format.specs.Limits.{file_bytes}
use Rattle.format.specs.Calls.{over, placed}
use Rattle.format.proofs.Passing.{placed-take}
use Rattle.format.proofs.Judging.{text_no}
use Rattle.format.proofs.Results.{raised_no, edit_no}
use Rattle.edits.specs.Splices.{made_by, Sound}
use Rattle.edits.specs.declared.Splice.{Splice}

-- s copied over the front of d
module _ (s d b req added : Bytes) (x : Splice) (e : b ≡ over s d) where
  copied : take (length s) b ≡ s
  copied = ap (take (length s)) e ∙ take-append_seam s (drop (length s) d)

  pub copied-sound : Sound s req added x → Sound (take (length s) b) req added x
  copied-sound h = subst (λ (t : Bytes). Sound t req added x) (sym copied) h

  pub copied-made : made_by (take (length s) b) req added x ≡ made_by s req added x
  copied-made = ap (λ (t : Bytes). made_by t req added x) copied

  -- what is judged, once the splice was carried out on the copy
  pub copied-judged : (n : ℕ) (after : Bytes) → n ≡ length (made_by (take (length s) b) req added x) → after ≡ placed (made_by (take (length s) b) req added x) (length s) b → take n after ≡ made_by s req added x
  copied-judged n after h k =
      (λ i. take (h i) (k i)) ∙ placed-take (made_by (take (length s) b) req added x) (length s) b ∙ copied-made

-- an edit's number, as the questions are asked: b says whether the made text is within the room

pub number-asked : (room : ℕ) (t : Bytes) (b : Bool) → b ≡ (leb (length t) room && leb (length t) file_bytes) → edit_no room 0 t ≡ pick b (raised_no (text_no t)) 26
number-asked room t b w = ap (λ (x : Bool). pick x (raised_no (text_no t)) 26) (sym w)

raised-number : (n : ℕ) → 0 < n → 100 + n ≡ raised_no n
raised-number zero h = absurd (omega arith)
raised-number (suc n) h = refl

-- the answer of the judged text, handed on as that of an edit's result
pub number-raised : (x : Result Unit Question) (y : Result Unit Refusal) (P : Question → Refusal → Type 0) → ((q : Question) (r : Refusal) → P q r → r ≡ Refusal.Result q)
    → MatchResult x (λ u. y ≡ Ok u) (λ q. IsErrAnd y (P q)) → refused_no y ≡ raised_no (no_of x)
number-raised (Ok u) y P f h = ap refused_no h
number-raised (Err q) (Ok u) P f h = absurd h
number-raised (Err q) (Err r) P f h = ap refusal_no (f q r h) ∙ raised-number (question_no q) (question-number q)

-- a text within the room is no longer than a file
pub within-file : (room : ℕ) (t : Bytes) (b : Bool) → b ≡ (leb (length t) room && leb (length t) file_bytes) → b ≡ true → length t ≤ file_bytes
within-file room t b w h = leb-true (length t) file_bytes ((and-eq-true_iff (leb (length t) room) (leb (length t) file_bytes)).0 (sym w ∙ h)).1
