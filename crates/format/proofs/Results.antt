-- An edit's number, by parts: questions 21 to 25 and 31, the room, and the number of the result's bytes.
use Prim.Native.Nat.{ℕ, zero, suc, ◌+◌, ◌≤◌, ◌<◌}
use native.Mathlib.Omega.{arith}
use mathlib.Core.Path.{◌≡◌, refl, sym, ap, ◌∙◌}
use mathlib.Core.Bool.{Bool, true, false, ◌&&◌, and-eq-true_iff}
use mathlib.Core.List.{List, [], ◌∷◌, ◌++◌, map}
use mathlib.Core.Option.{Option, none, some}
use lib.Dec.{leb, eqb}
use lib.ListN.{length, take, drop}
use borrow.Author.Tests.{ne_eqb, leb-true}
use Rattle.format.specs.Bytes.{Bytes, pick, is_allowed, all, is_some}
use Rattle.format.specs.Lines.{is_ended}
use Rattle.format.specs.Pieces.{Piece, bytes_of, pieces}
use Rattle.format.specs.Sets.{RecSet, sets_of}
use Rattle.format.specs.Limits.{file_bytes}
use Rattle.format.specs.Numbers.{int_bounds}
use Rattle.format.specs.Questions.{Row, first_no, ask_of, fits_limits, describes_once, describes_well, types_well, limit_rows, rule_rows}
use Rattle.format.specs.Requests.{Request}
use Rattle.format.specs.Plain.{Plain, length_of, apply, Asked, raised, edit_questions, request_or}
use Rattle.format.proofs.Whole.{sound-pieces}
use Rattle.format.proofs.Grouping.{HasPairs}
use Rattle.format.proofs.Keeping.{legal-edit}
use Rattle.format.proofs.Applying.{Agrees, agrees-length, agrees-sets, Granted, apply-agrees, apply-allowed}
use Rattle.format.proofs.Completing.{WholeRequest, completed-whole, whole-pairs}
use Rattle.format.proofs.Questions.{first-yes, asked, whole_of, completed-some, whole-granted}
use Rattle.format.proofs.Describing.{describes-once, describes-well, types-well}
use Rattle.format.proofs.Passing.{SetsPass, bytes-ended, Holds, holds-passes, holds-bytes, holds-agrees, holds-sets}
use Rattle.format.proofs.Least.{Rise, rise-less, first-append}
use Rattle.format.proofs.Judging.{set_questions, first-ask, read_no, text_no}

-- questions 21 to 25 and 31
abbrev pub place_rows : List (Row Asked)
place_rows = take 6 (drop 1 (edit_questions int_bounds))

-- "numbered 104 and 108 to 114", and 130
abbrev pub raised_no : ℕ → ℕ
raised_no zero = 0
raised_no (suc k) = 100 + suc k

-- an edit's number in a buffer of `room` bytes, by that of these questions and the text that it makes
abbrev pub edit_no : ℕ → ℕ → Bytes → ℕ
edit_no room zero t = pick (leb (length t) room && leb (length t) file_bytes) (raised_no (text_no t)) 26
edit_no room (suc k) t = suc k

-- the raised rows

raised_by : (b : Bool) (n k : ℕ) → 0 < k → pick b (raised_no n) (100 + k) ≡ raised_no (pick b n k)
raised_by true n k h = refl
raised_by false n zero h = absurd (omega arith)
raised_by false n (suc k) h = refl

first-raised : {A : Type 0} (rs : List (Row A)) (a : A) → Rise 0 rs → first_no (map raised rs) a ≡ raised_no (first_no rs a)
first-raised [] a h = refl
first-raised (r ∷ rs) a h = ap (λ (n : ℕ). pick (r.asks a) n (100 + r.number)) (first-raised rs a (rise-less rs r.number h.1)) ∙ raised_by (r.asks a) (first_no rs a) r.number h.0

-- questions 26 on
abbrev result_fits : Asked → Bool
result_fits a = leb (length_of a.result) a.room && leb (length_of a.result) file_bytes

abbrev result_no : Asked → ℕ
result_no a = pick (result_fits a) (raised_no (first_no (limit_rows ++ rule_rows int_bounds) a.result.sets)) 26

cut-number : (a : Asked) → a.formed ≡ true → first_no (edit_questions int_bounds) a ≡ pick (eqb (first_no place_rows a) 0) (result_no a) (first_no place_rows a)
cut-number a f =
    let parts : Asked → List RecSet = λ (x : Asked). x.result.sets in
    let rows : List (Row (List RecSet)) = limit_rows ++ rule_rows int_bounds in
    let e : first_no (ask_of parts (map raised rows)) a ≡ raised_no (first_no rows (parts a)) = first-ask parts (map raised rows) a ∙ first-raised rows (parts a) (omega arith) in
    ap (λ (b : Bool). pick b (first_no (drop 1 (edit_questions int_bounds)) a) 20) f
    ∙ first-append place_rows (record { number = 26; asks = result_fits } ∷ ask_of parts (map raised rows)) a (omega arith)
    ∙ ap (λ (n : ℕ). pick (eqb (first_no place_rows a) 0) (pick (result_fits a) n 26) (first_no place_rows a)) e

-- questions 21 to 25 and 31 say yes
place-granted : (a : Asked) → first_no place_rows a ≡ 0 → Granted a × (a.complete ≡ true)
place-granted a e =
    let y = first-yes place_rows a refl e in
    (record { found = (y.0, (y.1.0, (y.1.1.0, tt))); left = y.1.1.1.0; writable = legal-edit a.request.edit y.1.1.1.1.0 }, y.1.1.1.1.1.0)

-- of sets whose descriptors pass, questions 4 to 14 and 30 are 4, 8 to 14 and 30
skip-descriptors : (ss : List RecSet) → describes_once ss ≡ true → describes_well int_bounds ss ≡ true → types_well int_bounds ss ≡ true → first_no (set_questions int_bounds) ss ≡ first_no (limit_rows ++ rule_rows int_bounds) ss
skip-descriptors ss a b c =
    let n : ℕ = first_no (rule_rows int_bounds) ss in
    λ i. pick (fits_limits ss) (pick (a i) (pick (b i) (pick (c i) n 7) 6) 5) 4

-- a file that passes, a request, and what the completed one makes of the plain file
module _ (buffer : Bytes) (used : ℕ) (p : Plain) (h : Holds buffer used p) (room : ℕ) (q : Request) (f : HasPairs q.edit) (e : first_no place_rows (asked room p q) ≡ 0) where
  found : (w : Request) × (whole_of p q ≡ some w)
  found = completed-some (whole_of p q) (place-granted (asked room p q) e).1

  abbrev w : Request
  w = found.0

  whole : WholeRequest q w
  whole = completed-whole p q w (holds-sets buffer used p h).1.1.0 found.1

  granted : Granted (asked room p w)
  granted = whole-granted room p q w whole (place-granted (asked room p q) e).0

  agrees : Agrees (apply w p)
  agrees = apply-agrees (asked room p w) (whole-pairs q.edit w.edit whole.1 f) granted (holds-agrees buffer used p h)

  made : (asked room p q).result ≡ apply w p
  made = ap (λ (x : Option Request). apply (request_or x) p) found.1

  -- its length is that of its bytes
  result-length : length_of (apply w p) ≡ length (bytes_of (apply w p).pieces)
  result-length = agrees-length (apply w p) agrees

  -- the number of its bytes is that of questions 4, 8 to 14 and 30
  result-text : text_no (bytes_of (apply w p).pieces) ≡ first_no (limit_rows ++ rule_rows int_bounds) (apply w p).sets
  unfolding text_no
  result-text =
      let r : Plain = apply w p in
      let s : Bytes = bytes_of r.pieces in
      let c = holds-passes buffer used p h in
      let a = holds-agrees buffer used p h in
      let old : SetsPass p.sets = holds-sets buffer used p h in
      let allowed : all is_allowed s ≡ true = apply-allowed w p granted.writable a.0 (ap (all is_allowed) (holds-bytes buffer used p h) ∙ c.allowed) in
      let clear : (all is_allowed s && is_ended s) ≡ true = (and-eq-true_iff (all is_allowed s) (is_ended s)).1 (allowed, bytes-ended r.pieces) in
      ap (λ (b : Bool). pick b (read_no (pieces s)) 2) clear
      ∙ ap read_no (sound-pieces r.pieces agrees.0)
      ∙ ap (first_no (set_questions int_bounds)) (agrees-sets r agrees)
      ∙ skip-descriptors r.sets (describes-once w p granted.writable a old.1.0) (describes-well int_bounds w p ∙ old.1.1.0) (types-well int_bounds w p ∙ old.1.1.1.0)

  made-number : first_no (edit_questions int_bounds) (asked room p q) ≡ edit_no room 0 (bytes_of (asked room p q).result.pieces)
  made-number =
      cut-number (asked room p q) refl
      ∙ ap (λ (n : ℕ). pick (eqb n 0) (result_no (asked room p q)) n) e
      ∙ ap (λ (r : Plain). result_no (record { room = room; file = p; formed = true; request = q; complete = is_some (whole_of p q); result = r })) made
      ∙ (λ i. pick (leb (result-length i) room && leb (result-length i) file_bytes) (raised_no (sym result-text i)) 26)
      ∙ ap (λ (r : Plain). edit_no room 0 (bytes_of r.pieces)) (sym made)

  -- what is over a limit there fails question 4
  pub limit-text : fits_limits (asked room p q).result.sets ≡ false → text_no (bytes_of (asked room p q).result.pieces) ≡ 4
  limit-text l =
      ap (λ (r : Plain). text_no (bytes_of r.pieces)) made
      ∙ result-text
      ∙ ap (λ (b : Bool). pick b (first_no (rule_rows int_bounds) (apply w p).sets) 4) (ap (λ (r : Plain). fits_limits r.sets) (sym made) ∙ l)

refused-number : (a : Asked) (k : ℕ) → a.formed ≡ true → first_no place_rows a ≡ suc k → first_no (edit_questions int_bounds) a ≡ suc k
refused-number a k f e =
    cut-number a f ∙ ap (λ (n : ℕ). pick (eqb n 0) (result_no a) n) e ∙ ap (λ (b : Bool). pick b (result_no a) (suc k)) (ne_eqb (suc k) 0 (λ x. omega arith))

-- the number of an edit
pub edit-number : (buffer : Bytes) (used : ℕ) (p : Plain) → Holds buffer used p → (room : ℕ) (q : Request) → HasPairs q.edit → (k : ℕ) → first_no place_rows (asked room p q) ≡ k → first_no (edit_questions int_bounds) (asked room p q) ≡ edit_no room k (bytes_of (asked room p q).result.pieces)
edit-number buffer used p h room q f zero e = made-number buffer used p h room q f e
edit-number buffer used p h room q f (suc k) e = refused-number (asked room p q) k refl e

-- no number of a text is above 30

below_by : (b : Bool) (n k m : ℕ) → n ≤ m → leb k m ≡ true → pick b n k ≤ m
below_by true n k m h e = h
below_by false n k m h e = leb-true k m e

first_below : {A : Type 0} (rs : List (Row A)) (m : ℕ) (a : A) → all (λ (r : Row A). leb r.number m) rs ≡ true → first_no rs a ≤ m
first_below [] m a h = omega arith
first_below (r ∷ rs) m a h =
    let k = (and-eq-true_iff (leb r.number m) (all (λ (x : Row _). leb x.number m) rs)).0 h in
    below_by (r.asks a) (first_no rs a) r.number m (first_below rs m a k.1) k.0

read_below : (x : Option (List Piece)) → read_no x ≤ 30
read_below none = omega arith
read_below (some ps) = first_below (set_questions int_bounds) 30 (sets_of ps) refl

pub text-below : (s : Bytes) → text_no s ≤ 30
unfolding text_no
text-below s = below_by (all is_allowed s && is_ended s) (read_no (pieces s)) 2 30 (read_below (pieces s)) refl
