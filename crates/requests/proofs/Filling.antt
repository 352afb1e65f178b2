-- Writing a record: the answer of each case, and that what is written reads back.
use Rattle.std.specs.Prelude.{Option as Maybe, Some, None, Result, Ok, Err}
use Prim.Native.Nat.{ℕ, zero, suc, ◌≤◌}
use native.Mathlib.Omega.{arith}
use mathlib.Core.Path.{◌≡◌, refl, sym, ap, ◌∙◌, subst}
use mathlib.Core.Bool.{Bool, true, false}
use mathlib.Core.List.{List, [], ◌∷◌, map}
use mathlib.Core.Option.{Option, none, some, none-ne-some}
use lib.Dec.{leb}
use lib.ListN.{length, take, drop}
use lib.Seq.{take-append_seam}
use borrow.Author.Tests.{leb-true, leb-false}
use Rattle.format.proofs.Legal.{legals-writable}
use Rattle.format.proofs.Refused.{answer-refused}
use Rattle.format.proofs.Splices.{set-reads-back}
use Rattle.format.specs.Lists.{onward}
use Rattle.format.specs.Bytes.{Bytes, all}
use Rattle.format.specs.Limits.{file_bytes}
use Rattle.format.specs.Pieces.{Piece, pieces}
use Rattle.format.specs.Sets.{sets_of}
use Rattle.format.specs.Requests.{Request as Asked, request_of}
use Rattle.format.specs.Written.{Pair, written_all, new_field, is_legal_pair}
use Rattle.format.specs.Edits.{Edit}
use Rattle.format.specs.Calls.{Answer, answer, Filled, leaves, over, filled, insert_of, written_by, write_answer, filled_by}
use Rattle.format.proofs.Grouping.{HasPairs, set_by}
use Rattle.format.proofs.Requested.{request-pairs}
use Rattle.requests.specs.declared.kinds.Act.{Act as ReadAct}
use Rattle.requests.specs.declared.kinds.Edit.{Edit as ReadEdit}
use Rattle.requests.specs.declared.kinds.Request.{Request}
use Rattle.format.specs.declared.refusals.Refusal.{Refusal}
use Rattle.format.specs.Refusals.{refusal_no}
use Rattle.requests.specs.Pairs.{pairs_at}
use Rattle.requests.specs.Kinds.{edit_of, request_answer, InEdit, Inside}
use Rattle.requests.proofs.Kinding.{request-long}
use Rattle.requests.proofs.Weighing.{asked-illegal}
use Rattle.requests.specs.Writes.{write_no}

-- a number or a refusal
abbrev pub filled_as : ℕ → Bytes → Bytes → Filled
filled_as n text out = record { result = answer n (length text); out = leaves (answer n (length text)) (over text out) out }

pub filled-refused : (r : Refusal) (n : ℕ) (text out : Bytes) → refusal_no r ≡ n → filled_by (Err r) out ≡ filled_as n text out
filled-refused r n text out e =
    subst (λ (k : ℕ). filled_by (Err r) out ≡ filled_as k text out) e (ap (λ (a : Answer). record { result = a; out = leaves a (over text out) out }) (sym (answer-refused r (length text))))

pub filled-written : (n k : ℕ) (text out after : Bytes) → k ≡ length text → after ≡ over text out → n ≡ 0 → filled_by (Ok k) after ≡ filled_as n text out
filled-written n k text out after l a e = rw (l, a, e)

module _ (s out : Bytes) where
  -- no request, and a request of another kind
  abbrev answered : Option Asked → Filled
  answered x = written_by (onward (λ (q : Asked). insert_of q.edit) x) out

  pub write-fault : request_answer s None ≡ request_of s → filled_by (Err Refusal.Form) out ≡ write_answer s out
  unfolding write_answer
  write-fault e = ap answered e

  module _ (q : Request) (e : request_answer s (Some q) ≡ request_of s) where
    by-asked : written_by (insert_of (edit_of s q.edit)) out ≡ write_answer s out
    unfolding write_answer
    by-asked = ap answered e

    pub write-other : (r : ℕ) (a : ReadAct) → q.edit ≡ ReadEdit.On r a → filled_by (Err Refusal.Form) out ≡ write_answer s out
    write-other r a h = ap (λ (x : ReadEdit). written_by (insert_of (edit_of s x)) out) (sym h) ∙ by-asked

    pub write-insert : (i : ℕ) → q.edit ≡ ReadEdit.Insert i → filled_as (write_no (pairs_at s i) (length out)) (written_all (pairs_at s i)) out ≡ write_answer s out
    write-insert i a = ap (λ (x : ReadEdit). written_by (insert_of (edit_of s x)) out) (sym a) ∙ by-asked

-- the pairs of an insert that was read
pub insert-inside : (s : Bytes) (r : Maybe Request) (q : Request) (i : ℕ) → Inside s r → r ≡ Some q → q.edit ≡ ReadEdit.Insert i → InEdit s (ReadEdit.Insert i)
insert-inside s r q i h e a = subst (InEdit s) a (subst (Inside s) e h).1

-- it is not too long
pub request-bytes : (s : Bytes) (q : Request) → request_answer s (Some q) ≡ request_of s → length s ≤ file_bytes
request-bytes s q e = go (leb (length s) file_bytes) refl
  where
    go : (t : Bool) → leb (length s) file_bytes ≡ t → length s ≤ file_bytes
    go true h = leb-true (length s) file_bytes h
    go false h = absurd (none-ne-some _ ((request-long s (leb-false (length s) file_bytes h)).0 ∙ sym e))

-- What is written reads back as one record: the pairs of the request, with their names and values, in the default set.
pub record ReadsBack (s text : Bytes) : Type 0 where
  pub asked : Asked
  pub first : Pair
  pub others : List Pair
  pub request : request_of s ≡ some asked
  pub pairs : asked.edit ≡ Edit.insert (first ∷ others)
  pub lines : List Piece
  pub reads : pieces text ≡ some lines
  pub sets : sets_of lines ≡ set_by [] (map new_field (first ∷ others) ∷ []) ∷ []

-- an answer that is a length has no refusal, and the text stands at the front
filled-value : (k : ℕ) (text out after : Bytes) (n : ℕ) → record { result = Answer.value n; out = after } ≡ filled_as k text out → (k ≡ 0) × (take n after ≡ text)
filled-value k text out after n e = go k (ap (λ (f : Filled). f.result) e) (ap (λ (f : Filled). f.out) e)
  where
    go : (k : ℕ) → Answer.value n ≡ answer k (length text) → after ≡ leaves (answer k (length text)) (over text out) out → (k ≡ 0) × (take n after ≡ text)
    go zero v o = let l : n ≡ length text = cc in (refl, rw (l, o) (take-append_seam text (drop (length text) out)))
    go (suc k) v o = let z : ◌≡◌ {A = ℕ} 0 1 = cc in absurd (omega arith)

asked-legal : (ps : List Pair) (room : ℕ) → write_no ps room ≡ 0 → all is_legal_pair ps ≡ true
asked-legal ps room e = go (all is_legal_pair ps) refl
  where
    go : (t : Bool) → all is_legal_pair ps ≡ t → all is_legal_pair ps ≡ true
    go true h = h
    go false h = absurd (omega (arith, asked-illegal ps room h))

module _ (s out after : Bytes) (n : ℕ) (e : record { result = Answer.value n; out = after } ≡ write_answer s out) where
  asked-value : (x : Option Asked) → request_of s ≡ x → record { result = Answer.value n; out = after } ≡ answered s out x
  unfolding write_answer
  asked-value x h = e ∙ ap (answered s out) h

  refused : record { result = Answer.value n; out = after } ≡ filled 20 [] out → ⊥
  refused h = omega (arith, (filled-value 20 [] out after n h).0)

  by-edit : (q : Asked) (d : Edit) → request_of s ≡ some q → q.edit ≡ d → HasPairs d → record { result = Answer.value n; out = after } ≡ written_by (insert_of d) out → ReadsBack s (take n after)
  by-edit q (Edit.insert []) h k m v = absurd m
  by-edit q (Edit.insert (p ∷ ps)) h k m v =
      let w = filled-value (write_no (p ∷ ps) (length out)) (written_all (p ∷ ps)) out after n v in
      let b = set-reads-back p ps (legals-writable (p ∷ ps) (asked-legal (p ∷ ps) (length out) w.0)) in
      record { asked = q; first = p; others = ps; request = h; pairs = k; lines = b.0; reads = ap pieces w.1 ∙ b.1; sets = b.2 }
  by-edit q (Edit.on j a) h k m v = absurd (refused v)

  by-request : (x : Option Asked) → request_of s ≡ x → ReadsBack s (take n after)
  by-request none h = absurd (refused (asked-value none h))
  by-request (some q) h = by-edit q q.edit h refl (request-pairs s q h) (asked-value (some q) h)

-- where the answer of `write_record` is a length
pub write-reads-back : (s out after : Bytes) (r : Result ℕ Refusal) (n : ℕ) → filled_by r after ≡ write_answer s out → r ≡ Ok n → ReadsBack s (take n after)
write-reads-back s out after r n e l = by-request s out after n (ap (λ (x : Result ℕ Refusal). filled_by x after) (sym l) ∙ e) (request_of s) refl
