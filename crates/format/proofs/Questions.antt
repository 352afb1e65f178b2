-- Questions in order: none says no where each says yes; and what an accepted and a refused request are.
use Prim.Native.Nat.{ℕ, zero, suc, ◌≤◌}
use native.Mathlib.Omega.{arith}
use mathlib.Core.Path.{◌≡◌, refl, sym, ap, ◌∙◌, subst}
use mathlib.Core.Bool.{Bool, true, false, and-eq-true_iff, false≢true}
use mathlib.Core.List.{List, [], ◌∷◌}
use mathlib.Core.Option.{Option, none, some}
use lib.Dec.{leb, ltb}
use borrow.Author.Tests.{leb-true, ltb-true}
use Rattle.format.specs.Bytes.{Bytes, pick, all, is_some}
use Rattle.format.specs.Limits.{file_bytes}
use Rattle.format.specs.Numbers.{Bounds, int_bounds}
use Rattle.format.specs.Questions.{Row, first_no, file_of, questions, verdict_in, verdict}
use Rattle.format.specs.Edits.{Edit}
use Rattle.format.specs.Requests.{Request, request_of}
use Rattle.format.specs.Plain.{Plain, length_of, index_of, apply, completed_by, Sought, sought_record, found_rows, Asked, row_of, occurrence_of, sought_by, leaves_field, edit_questions, request_or, Step, step_by, step_of, step}
use Rattle.format.proofs.Elements.{Each}
use Rattle.format.proofs.Grouping.{HasPairs}
use Rattle.format.proofs.Requested.{request-pairs}
use Rattle.format.proofs.Keeping.{legal-edit}
use Rattle.format.proofs.Applying.{Granted}
use Rattle.format.proofs.Completing.{WholeRequest, whole-writable, whole-alike}

abbrev pub Yes : {A : Type 0} → A → Row A → Type 0
Yes a r = r.asks a ≡ true

-- the number of a no is not 0
abbrev is_numbered : {A : Type 0} → Row A → Bool
is_numbered r = ltb 0 r.number

picked-yes : (b : Bool) (others number : ℕ) → ltb 0 number ≡ true → pick b others number ≡ 0 → (b ≡ true) × (others ≡ 0)
picked-yes true others number h e = (refl, e)
picked-yes false others number h e = absurd (omega (arith, ltb-true 0 number h))

module _ {A : Type 0} where
  pub first-yes : (rs : List (Row A)) (a : A) → all is_numbered rs ≡ true → first_no rs a ≡ 0 → Each (Yes a) rs
  first-yes [] a h e = tt
  first-yes (r ∷ rs) a h e =
      let n = (and-eq-true_iff (is_numbered r) (all is_numbered rs)).0 h in
      let k = picked-yes (r.asks a) (first_no rs a) r.number n.0 e in
      (k.0, first-yes rs a n.1 k.1)

  yes-first : (rs : List (Row A)) (a : A) → Each (Yes a) rs → first_no rs a ≡ 0
  yes-first [] a h = refl
  yes-first (r ∷ rs) a h = ap (λ (b : Bool). pick b (first_no rs a) r.number) h.0 ∙ yes-first rs a h.1

-- a file passes where all its questions say yes
pub verdict-yes : (buffer : Bytes) (used : ℕ) → verdict buffer used ≡ 0 → Each (Yes (file_of buffer used)) (questions int_bounds)
unfolding verdict verdict_in
verdict-yes buffer used e = first-yes (questions int_bounds) (file_of buffer used) refl e

pub yes-verdict : (buffer : Bytes) (used : ℕ) → Each (Yes (file_of buffer used)) (questions int_bounds) → verdict buffer used ≡ 0
unfolding verdict verdict_in
yes-verdict buffer used h = yes-first (questions int_bounds) (file_of buffer used) h

-- what a request to the plain file is completed to, and what is asked of it
abbrev pub whole_of : Plain → Request → Option Request
whole_of p q = completed_by int_bounds p q

abbrev pub asked : ℕ → Plain → Request → Asked
asked room p q = record { room = room; file = p; formed = true; request = q; complete = is_some (whole_of p q); result = apply (request_or (whole_of p q)) p }

-- an edit's questions by name: 21 to 25, 31, 26, and those of the result
module _ (b : Bounds) (a : Asked) (y : Each (Yes a) (edit_questions b)) where
  pub yes-granted : Granted a
  yes-granted = let f = y.1 in record { found = (f.0, (f.1.0, (f.1.1.0, tt))); left = f.1.1.1.0; writable = legal-edit a.request.edit f.1.1.1.1.0 }

  yes-complete : a.complete ≡ true
  yes-complete = y.1.1.1.1.1.1.0

  pub yes-fits : (length_of a.result ≤ a.room) × (length_of a.result ≤ file_bytes)
  yes-fits =
      let n : ℕ = length_of a.result in
      let k = (and-eq-true_iff (leb n a.room) (leb n file_bytes)).0 y.1.1.1.1.1.1.1.0 in
      (leb-true n a.room k.0, leb-true n file_bytes k.1)

-- what questions 21 to 25 grant of a request, they grant of the completed one
pub whole-granted : (room : ℕ) (p : Plain) (q w : Request) → WholeRequest q w → Granted (asked room p q) → Granted (asked room p w)
whole-granted room p q w h g =
    let seek : (e : q.set ≡ w.set) (j : row_of q.edit ≡ row_of w.edit) (o : occurrence_of q.edit ≡ occurrence_of w.edit) → sought_by (asked room p q) ≡ sought_by (asked room p w) = λ e j o i. record { sets = p.sets; set = index_of (e i) p.sets; row = j i; field = o i } in
    let s : sought_by (asked room p q) ≡ sought_by (asked room p w) = seek (sym h.0) (whole-alike row_of (λ new ps. refl) q.edit w.edit h.1) (whole-alike occurrence_of (λ new ps. refl) q.edit w.edit h.1) in
    let f : leaves_field q.edit (sought_record (sought_by (asked room p w))) ≡ leaves_field w.edit (sought_record (sought_by (asked room p w))) = whole-alike (λ (e : Edit). leaves_field e (sought_record (sought_by (asked room p w)))) (λ new ps. refl) q.edit w.edit h.1 in
    record {
      found = subst (λ (x : Sought). Each (λ (r : Row Sought). r.asks x ≡ true) found_rows) s g.found;
      left = sym f ∙ ap (λ (x : Sought). leaves_field q.edit (sought_record x)) (sym s) ∙ g.left;
      writable = whole-writable q.edit w.edit h.1 g.writable;
    }

-- an accepted request has the form of one, all its questions say yes, it is completed, and the plain file is what the completed one makes of it
pub record Accepted (room : ℕ) (p : Plain) (request : Bytes) (file : Plain) : Type 0 where
  pub asks : Request
  pub reads : request_of request ≡ some asks
  pub whole : Request
  pub completes : whole_of p asks ≡ some whole
  pub yes : Each (Yes (asked room p asks)) (edit_questions int_bounds)
  pub makes : file ≡ apply whole p

pub accepted-pairs : (room : ℕ) (p : Plain) (request : Bytes) (file : Plain) (a : Accepted room p request file) → HasPairs a.asks.edit
accepted-pairs room p request file a = request-pairs request a.asks a.reads

pub accepted-result : (room : ℕ) (p : Plain) (request : Bytes) (file : Plain) (a : Accepted room p request file) → (asked room p a.asks).result ≡ file
accepted-result room p request file a = ap (λ (x : Option Request). apply (request_or x) p) a.completes ∙ sym a.makes

pub accepted-fits : (room : ℕ) (p : Plain) (request : Bytes) (file : Plain) → Accepted room p request file → length_of file ≤ room
accepted-fits room p request file a = subst (λ (x : Plain). length_of x ≤ room) (accepted-result room p request file a) (yes-fits int_bounds (asked room p a.asks) a.yes).0

abbrev Answered : ℕ → Plain → Bytes → Step → Type 0
Answered room p request s = (s.number ≡ 0 → Accepted room p request s.file) × ((k : ℕ) → s.number ≡ suc k → s.file ≡ p)

pub completed-some : (x : Option Request) → is_some x ≡ true → (w : Request) × (x ≡ some w)
completed-some none e = absurd (false≢true e)
completed-some (some w) e = (w, refl)

answered-by : (room : ℕ) (p : Plain) (request : Bytes) (q : Request) (n : ℕ) → request_of request ≡ some q → first_no (edit_questions int_bounds) (asked room p q) ≡ n → Answered room p request (step_by n p (asked room p q).result)
answered-by room p request q zero e h =
    let y = first-yes (edit_questions int_bounds) (asked room p q) refl h in
    let w = completed-some (whole_of p q) (yes-complete int_bounds (asked room p q) y) in
    (λ z. record { asks = q; reads = e; whole = w.0; completes = w.1; yes = y; makes = ap (λ (x : Option Request). apply (request_or x) p) w.1 }, λ k z. absurd (omega arith))
answered-by room p request q (suc n) e h = (λ z. absurd (omega arith), λ k z. refl)

answered-of : (room : ℕ) (p : Plain) (request : Bytes) (x : Option Request) → request_of request ≡ x → Answered room p request (step_of int_bounds room p x)
answered-of room p request none e = (λ z. absurd (omega arith), λ k z. refl)
answered-of room p request (some q) e = answered-by room p request q (first_no (edit_questions int_bounds) (asked room p q)) e refl

pub step-accepted : (room : ℕ) (p : Plain) (request : Bytes) → (step room p request).number ≡ 0 → Accepted room p request (step room p request).file
unfolding step
step-accepted room p request e = (answered-of room p request (request_of request) refl).0 e

-- "refused edits change nothing"
pub step-refused : (room : ℕ) (p : Plain) (request : Bytes) (k : ℕ) → (step room p request).number ≡ suc k → (step room p request).file ≡ p
unfolding step
step-refused room p request k e = (answered-of room p request (request_of request) refl).1 k e
