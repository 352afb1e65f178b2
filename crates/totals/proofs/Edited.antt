-- What an accepted edit leaves, by the answers of calls alone: a file that passes, whose sets are those before it with the request's own edited.
use Prim.Native.Nat.{ℕ, zero, suc}
use native.Mathlib.Omega.{arith}
use mathlib.Core.Path.{◌≡◌, refl, sym, ap, ◌∙◌, subst}
use mathlib.Core.Bool.{true}
use mathlib.Core.List.{List}
use mathlib.Core.Option.{Option, some}
use lib.Dec.{ltb}
use lib.ListN.{length, take}
use Rattle.format.specs.Bytes.{Bytes}
use Rattle.format.specs.Lists.{nth}
use Rattle.format.specs.Pieces.{bytes_of, read_of}
use Rattle.format.specs.Sets.{RecSet, sets_of}
use Rattle.format.specs.Numbers.{int_bounds}
use Rattle.format.specs.Records.{Record}
use Rattle.format.specs.Edits.{Edit, in_set}
use Rattle.format.specs.Questions.{occurrences, verdict}
use Rattle.format.specs.Requests.{Request, request_of}
use Rattle.format.specs.Plain.{Plain, plain_of, index_of, completed_by, of_some, members_at, members_in, record_in, Occurrence, row_of, occurrence_of, Step, step}
use Rattle.format.specs.Calls.{Answer, number_in, value_or, then_no, sets_in, placed, edited, edit_answer}
use Rattle.format.proofs.Applying.{agrees-sets, Granted, granted-set}
use Rattle.format.proofs.Completing.{WholeRequest, completed-whole}
use Rattle.format.proofs.Questions.{asked, yes-granted, whole-granted, Accepted, step-accepted}
use Rattle.format.proofs.Passing.{reads_as, verdict-read, Holds, holds-start, holds-agrees, holds-sets, edit-holds}
use Rattle.format.proofs.Tallying.{apply-sets}

-- numbers one after the other
pub none-of-both : (a b : ℕ) → then_no a b ≡ 0 → (a ≡ 0) × (b ≡ 0)
none-of-both zero b e = (refl, e)
none-of-both (suc a) b e = absurd (omega arith)

-- an edit that answers a length is accepted: its text stands in the buffer
edited-value : (k : ℕ) (text buffer : Bytes) (used n : ℕ) → (edited k text buffer used).result ≡ Answer.value n → (k ≡ 0) × (n ≡ length text) × ((edited k text buffer used).out ≡ placed text used buffer)
edited-value zero text buffer used n e = (refl, sym (ap (value_or 0) e), refl)
edited-value (suc k) text buffer used n e = absurd (let z : suc k ≡ 0 = ap number_in e in omega arith)

-- the file before it
abbrev pub plain_in : Bytes → ℕ → Plain
plain_in buffer used = plain_of (read_of (take used buffer))

-- questions 22 and 23 say yes of the record and of the occurrence that an edit names
abbrev pub IsFound : Edit → List Record → Type 0
IsFound e ms = (of_some (λ (j : ℕ). ltb j (length ms)) (row_of e) ≡ true) × (of_some (λ (o : Occurrence). ltb o.number (occurrences o.name (record_in ms (row_of e)))) (occurrence_of e) ≡ true)

-- An accepted edit of a buffer, which answers the length n.
pub record Edited (buffer : Bytes) (used : ℕ) (request : Bytes) (n : ℕ) : Type 0 where
  pub passed : verdict buffer used ≡ 0
  pub asks : Request
  pub reads : request_of request ≡ some asks
  pub whole : Request
  pub completes : completed_by int_bounds (plain_in buffer used) asks ≡ some whole
  pub alike : WholeRequest asks whole
  pub place : ℕ
  pub there : index_of whole.set (sets_in buffer used) ≡ some place
  pub found : IsFound whole.edit (members_at place (sets_in buffer used))
  pub passes : verdict (edit_answer buffer used request).out n ≡ 0
  pub sets : sets_in (edit_answer buffer used request).out n ≡ nth place (in_set whole.edit) (sets_in buffer used)

holds-in : (buffer : Bytes) (used : ℕ) (p : Plain) → Holds buffer used p → sets_in buffer used ≡ p.sets
holds-in buffer used p h = ap sets_of (reads_as (take used buffer) p.pieces h.reads) ∙ agrees-sets p (holds-agrees buffer used p h)

module _ (buffer : Bytes) (used : ℕ) (request : Bytes) (n : ℕ) where
  abbrev p : Plain
  p = plain_in buffer used

  abbrev made : Plain
  made = (step (length buffer) (plain_in buffer used) request).file

  edited-by : verdict buffer used ≡ 0 → Accepted (length buffer) (plain_in buffer used) request (step (length buffer) (plain_in buffer used) request).file
      → n ≡ length (bytes_of (step (length buffer) (plain_in buffer used) request).file.pieces)
      → (edit_answer buffer used request).out ≡ placed (bytes_of (step (length buffer) (plain_in buffer used) request).file.pieces) used buffer
      → Edited buffer used request n
  edited-by v a m o =
      let starts : Holds buffer used p = holds-start buffer used (read_of (take used buffer)) v (verdict-read buffer used v) in
      let ends : Holds (edit_answer buffer used request).out n made = subst (λ (k : ℕ). Holds (edit_answer buffer used request).out k made) (sym m) (subst (λ (b : Bytes). Holds b (length (bytes_of made.pieces)) made) (sym o) (edit-holds buffer used p request starts made a)) in
      let w : WholeRequest a.asks a.whole = completed-whole p a.asks a.whole (holds-sets buffer used p starts).1.1.0 a.completes in
      let g : Granted (asked (length buffer) p a.whole) = whole-granted (length buffer) p a.asks a.whole w (yes-granted int_bounds (asked (length buffer) p a.asks) a.yes) in
      let i = granted-set (asked (length buffer) p a.whole) g in
      let ss : sets_in buffer used ≡ p.sets = holds-in buffer used p starts in
      let f : IsFound a.whole.edit (members_at i.0 p.sets) = subst (λ (x : Option ℕ). IsFound a.whole.edit (members_in p.sets x)) i.1 (g.found.1.0, g.found.1.1.0) in
      record {
        passed = v;
        asks = a.asks;
        reads = a.reads;
        whole = a.whole;
        completes = a.completes;
        alike = w;
        place = i.0;
        there = ap (index_of a.whole.set) ss ∙ i.1;
        found = subst (λ (x : List RecSet). IsFound a.whole.edit (members_at i.0 x)) (sym ss) f;
        passes = ends.passes;
        sets = holds-in (edit_answer buffer used request).out n made ends ∙ ap (λ (x : Plain). x.sets) a.makes ∙ apply-sets a.whole p i.0 i.1 ∙ ap (nth i.0 (in_set a.whole.edit)) (sym ss);
      }

  pub accepted-edited : (edit_answer buffer used request).result ≡ Answer.value n → Edited buffer used request n
  unfolding edit_answer
  accepted-edited e =
      let s : Step = step (length buffer) p request in
      let k = edited-value (then_no (verdict buffer used) s.number) (bytes_of s.file.pieces) buffer used n e in
      let z = none-of-both (verdict buffer used) s.number k.0 in
      edited-by z.0 (step-accepted (length buffer) p request z.1) k.1 k.2
