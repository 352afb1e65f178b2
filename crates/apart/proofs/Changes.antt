-- What an accepted edit changes, and a list of them: the plain file by its pieces and sets, and the file in the buffer.
use Prim.Native.Nat.{ℕ, zero, suc}
use native.Mathlib.Omega.{arith}
use mathlib.Core.Path.{◌≡◌, refl, sym, ap, ◌∙◌, subst}
use mathlib.Core.Logic.{◌≢◌, ◌⊎◌, inl, inr}
use mathlib.Core.List.{List, [], ◌∷◌, map}
use mathlib.Core.Option.{Option, none, some, map-eq-some_iff}
use lib.ListN.{length, take}
use lib.Seq.{length-take-le}
use Rattle.format.specs.Bytes.{Bytes}
use Rattle.format.specs.Lists.{onward, nth}
use Rattle.format.specs.Pieces.{Piece, bytes_of, read_of}
use Rattle.format.specs.Sets.{groups, RecSet, set_of, sets_of}
use Rattle.format.specs.Numbers.{int_bounds}
use Rattle.format.specs.Edits.{Edit, in_set, edit_pieces}
use Rattle.format.specs.Questions.{verdict}
use Rattle.format.specs.Requests.{Request, request_of}
use Rattle.format.specs.Plain.{Plain, plain_of, index_of, set_at, apply_in, apply, completed_edit, completed_at, completed_by, Step}
use Rattle.format.specs.Calls.{value_or, then_no, sets_in, Filled as Answered, edited}
use Rattle.format.specs.Runs.{Single, request_in, single_answer, single_step, singly}
use Rattle.format.proofs.Elements.{Filled, Has}
use Rattle.format.proofs.Legal.{ordinary-not-rec}
use Rattle.format.proofs.Named.{NewNames, NotRec}
use Rattle.format.proofs.Keeping.{writable-names}
use Rattle.format.proofs.Applying.{Agrees, agrees-sets, Granted, granted-set, index-has}
use Rattle.format.proofs.Completing.{WholeRequest, completed-whole}
use Rattle.format.proofs.Questions.{whole_of, asked, yes-granted, whole-granted, Accepted}
use Rattle.format.proofs.SingleSteps.{single-answers, single-accepted}
use Rattle.format.proofs.Passing.{reads_as, verdict-read, Holds, holds-start, holds-passes, holds-bytes, holds-agrees, holds-sets}
use Rattle.format.proofs.Tallying.{apply-sets}
use Rattle.format.proofs.Running.{Stands, stands-start, single-stands, single-told}
use Rattle.apart.specs.Leaving.{AllAccepted}
use Rattle.apart.proofs.Placing.{map-has}

-- what a request makes of the plain file where it is accepted: the completed request, applied
abbrev applied : Option Request → Plain → Plain
applied none p = p
applied (some w) p = apply w p

abbrev pub becomes : Bytes → Plain → Plain
becomes q p = applied (onward (whole_of p) (request_of q)) p

-- An accepted request q: the set that it names is there, at a place, and the edit completed from that set alone is done there.
pub record Changed (q : Bytes) (p m : Plain) : Type 0 where
  pub asks : Request
  pub reads : request_of q ≡ some asks
  pub place : ℕ
  pub there : index_of asks.set p.sets ≡ some place
  pub edit : Edit
  pub completes : completed_edit int_bounds (set_at place p.sets) asks.edit ≡ some edit
  pub names : NewNames NotRec edit
  pub agrees : Agrees p
  pub makes : m ≡ becomes q p
  pub pieces : m.pieces ≡ edit_pieces place edit p.pieces
  pub sets : m.sets ≡ nth place (in_set edit) p.sets

-- its group is there; and where there is another set, the file is not empty
module _ (q : Bytes) (p m : Plain) (c : Changed q p m) where
  groups-there : (k : ℕ) → Has p.sets k → Has (groups p.pieces) k
  unfolding sets_of
  groups-there k h = map-has set_of (groups p.pieces) k (subst (λ (ss : List RecSet). Has ss k) (sym (agrees-sets p c.agrees)) h)

  pub changed-has : Has (groups p.pieces) c.place
  changed-has = groups-there c.place (index-has c.asks.set p.sets c.place c.there)

  two-filled : (ps : List Piece) (i k : ℕ) → Has (groups ps) i → Has (groups ps) k → i ≢ k → Filled ps
  two-filled [] zero zero h l d = absurd (d refl)
  two-filled [] zero (suc k) h l d = absurd l
  two-filled [] (suc i) k h l d = absurd h
  two-filled (x ∷ ps) i k h l d = tt

  pub changed-filled : (k : ℕ) → Has p.sets k → c.place ≢ k → Filled p.pieces
  changed-filled k h d = two-filled p.pieces c.place k changed-has (groups-there k h) d

-- the edit of a completed request is completed from its set
completed-edit : (ss : List RecSet) (q w : Request) (i : ℕ) → completed_at int_bounds ss (some i) q ≡ some w → completed_edit int_bounds (set_at i ss) q.edit ≡ some w.edit
completed-edit ss q w i e =
    let x : Option Edit = completed_edit int_bounds (set_at i ss) q.edit in
    let f = (map-eq-some_iff {B = Request} (λ (d : Edit). record { set = q.set; edit = d }) x).0 e in
    f.1 ∙ ap {B = Option Edit} (λ (r : Request). some r.edit) f.2

apply-pieces : (w : Request) (p : Plain) (i : ℕ) → index_of w.set p.sets ≡ some i → (apply w p).pieces ≡ edit_pieces i w.edit p.pieces
unfolding apply
apply-pieces w p i e = ap (λ (x : Option ℕ). (apply_in x w.edit p).pieces) e

whole-edit : (p : Plain) (q w : Request) (i : ℕ) → index_of q.set p.sets ≡ some i → completed_by int_bounds p q ≡ some w → completed_edit int_bounds (set_at i p.sets) q.edit ≡ some w.edit
unfolding completed_by
whole-edit p q w i h e = completed-edit p.sets q w i (ap (λ (x : Option ℕ). completed_at int_bounds p.sets x q) (sym h) ∙ e)

accepted-changed : (buffer : Bytes) (used : ℕ) (p : Plain) → Holds buffer used p → (room : ℕ) (q : Bytes) (m : Plain) → Accepted room p q m → Changed q p m
accepted-changed buffer used p holds room q m a =
    let w : WholeRequest a.asks a.whole = completed-whole p a.asks a.whole (holds-sets buffer used p holds).1.1.0 a.completes in
    let g : Granted (asked room p a.whole) = whole-granted room p a.asks a.whole w (yes-granted int_bounds (asked room p a.asks) a.yes) in
    let i = granted-set (asked room p a.whole) g in
    let h : index_of a.asks.set p.sets ≡ some i.0 = ap (λ (n : Bytes). index_of n p.sets) (sym w.0) ∙ i.1 in
    record {
      asks = a.asks;
      reads = a.reads;
      place = i.0;
      there = h;
      edit = a.whole.edit;
      completes = whole-edit p a.asks a.whole i.0 h a.completes;
      names = writable-names NotRec ordinary-not-rec a.whole.edit g.writable;
      agrees = holds-agrees buffer used p holds;
      makes = a.makes ∙ ap (λ (x : Option Request). applied x p) (sym (ap (onward (whole_of p)) a.reads ∙ a.completes));
      pieces = ap (λ (x : Plain). x.pieces) a.makes ∙ apply-pieces a.whole p i.0 i.1;
      sets = ap (λ (x : Plain). x.sets) a.makes ∙ apply-sets a.whole p i.0 i.1;
    }

-- Requests one after another, each on what the one before made.
abbrev pub Steps : List Bytes → Plain → Plain → Type 0
Steps [] p m = m ≡ p
Steps (q ∷ qs) p m = (n : Plain) × Changed q p n × Steps qs n m

-- a list of accepted edits, from any state on the way
accepted-steps : (start : Bytes) (es : List Single) (most : ℕ) (buffer : Bytes) (used : ℕ) (p : Plain) → Stands start most buffer used p → AllAccepted (singly es buffer used).told
    → (m : Plain) × Holds (singly es buffer used).buffer (singly es buffer used).length m × Steps (map request_in es) p m
unfolding singly
accepted-steps start [] most buffer used p st h = (p, st.holds, refl)
accepted-steps start (c ∷ cs) most buffer used p st h =
    let s : Step = single_step (length start) p c in
    let next = single-stands start most buffer used p st c in
    let a = single-accepted (length start) p c (sym (single-told start most buffer used p st c) ∙ h.0) in
    let r = accepted-steps start cs _ (single_answer c buffer used).out (value_or used (single_answer c buffer used).result) s.file next h.1 in
    (r.0, r.1, (s.file, accepted-changed buffer used p st.holds (length start) (request_in c) s.file a, r.2))

abbrev pub plain_in : Bytes → ℕ → Plain
plain_in buffer used = plain_of (read_of (take used buffer))

starts : (buffer : Bytes) (used : ℕ) → verdict buffer used ≡ 0 → Stands buffer used buffer used (plain_in buffer used)
starts buffer used v = stands-start buffer used (plain_in buffer used) (holds-start buffer used (read_of (take used buffer)) v (verdict-read buffer used v))

pub list_steps : (buffer : Bytes) (used : ℕ) (es : List Single) → verdict buffer used ≡ 0 → AllAccepted (singly es buffer used).told
    → (m : Plain) × Holds (singly es buffer used).buffer (singly es buffer used).length m × Steps (map request_in es) (plain_of (read_of (take used buffer))) m
list_steps buffer used es v h = accepted-steps buffer es used buffer used (plain_in buffer used) (starts buffer used v) h

-- An edit of any buffer leaves all as it was, or is accepted.

abbrev pub Stayed : Bytes → ℕ → Answered → Type 0
Stayed buffer used a = (a.out ≡ buffer) × (value_or used a.result ≡ used)

pub record Edited (buffer : Bytes) (used : ℕ) (q : Bytes) (a : Answered) : Type 0 where
  pub before : Plain
  pub after : Plain
  pub held : Holds buffer used before
  pub holds : Holds a.out (value_or used a.result) after
  pub changed : Changed q before after

edited-stayed : (k : ℕ) (text buffer : Bytes) (used j : ℕ) → k ≡ suc j → Stayed buffer used (edited k text buffer used)
edited-stayed zero text buffer used j e = absurd (omega arith)
edited-stayed (suc k) text buffer used j e = (refl, refl)

none-of-both : (v n : ℕ) → then_no v n ≡ 0 → (v ≡ 0) × (n ≡ 0)
none-of-both zero n e = (refl, e)
none-of-both (suc v) n e = absurd (omega arith)

module _ (buffer : Bytes) (used : ℕ) (c : Single) where
  abbrev made : Step
  made = single_step (length buffer) (plain_in buffer used) c

  edit-accepted : verdict buffer used ≡ 0 → (single_step (length buffer) (plain_in buffer used) c).number ≡ 0 → Edited buffer used (request_in c) (single_answer c buffer used)
  edit-accepted v z =
      let st = starts buffer used v in
      record {
        before = plain_in buffer used;
        after = made.file;
        held = st.holds;
        holds = (single-stands buffer used buffer used (plain_in buffer used) st c).holds;
        changed = accepted-changed buffer used (plain_in buffer used) st.holds (length buffer) (request_in c) made.file (single-accepted (length buffer) (plain_in buffer used) c z);
      }

  either-by : (k : ℕ) → then_no (verdict buffer used) (single_step (length buffer) (plain_in buffer used) c).number ≡ k → Stayed buffer used (single_answer c buffer used) ⊎ Edited buffer used (request_in c) (single_answer c buffer used)
  either-by zero e = let z = none-of-both (verdict buffer used) made.number e in inr (edit-accepted z.0 z.1)
  either-by (suc k) e = inl (subst (Stayed buffer used) (sym (single-answers c buffer used)) (edited-stayed (then_no (verdict buffer used) made.number) (bytes_of made.file.pieces) buffer used k e))

  pub single-either : Stayed buffer used (single_answer c buffer used) ⊎ Edited buffer used (request_in c) (single_answer c buffer used)
  single-either = either-by (then_no (verdict buffer used) (single_step (length buffer) (plain_in buffer used) c).number) refl

-- What a file holds: its sets, its pieces, its bytes.

module _ (buffer : Bytes) (used : ℕ) (p : Plain) (h : Holds buffer used p) where
  pub pieces-held : read_of (take used buffer) ≡ p.pieces
  pieces-held = reads_as (take used buffer) p.pieces h.reads

  pub sets-held : sets_in buffer used ≡ p.sets
  sets-held = ap sets_of pieces-held ∙ agrees-sets p (holds-agrees buffer used p h)

  length-held : length (bytes_of p.pieces) ≡ used
  length-held = ap length (holds-bytes buffer used p h) ∙ length-take-le used buffer (holds-passes buffer used p h).fits

-- two buffers that hold alike pieces hold alike files
pub alike-held : (b c : Bytes) (u v : ℕ) (p q : Plain) → Holds b u p → Holds c v q → p.pieces ≡ q.pieces → (u ≡ v) × (take u b ≡ take v c)
alike-held b c u v p q h k e =
    (sym (length-held b u p h) ∙ ap (λ (ps : List Piece). length (bytes_of ps)) e ∙ length-held c v q k, sym (holds-bytes b u p h) ∙ ap bytes_of e ∙ holds-bytes c v q k)
