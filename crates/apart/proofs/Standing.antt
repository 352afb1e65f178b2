-- "an edit on one set changes no fetch, count or view of another set, whether it was accepted or refused" (document 02, order 13): of any buffer, by a request of any bytes; and no other answer that looks at another set alone.
use Prim.Native.Nat.{ℕ, zero, suc}
use mathlib.Core.Path.{◌≡◌, refl, sym, ap, ◌∙◌}
use mathlib.Core.Logic.{◌≢◌, ⊎_elim}
use mathlib.Core.List.{List, [], ◌∷◌}
use mathlib.Core.Option.{Option, none, some, map, none-ne-some}
use lib.ListN.{length, get_or, get_or-map}
use Rattle.format.specs.Bytes.{Bytes, pick, is_some}
use Rattle.format.specs.Lists.{nth}
use Rattle.format.specs.Pieces.{Piece}
use Rattle.format.specs.Sets.{Group, groups, RecSet}
use Rattle.format.specs.Edits.{Edit, in_group, in_set, edit_pieces}
use Rattle.format.specs.Questions.{verdict}
use Rattle.format.specs.Requests.{Request}
use Rattle.format.specs.Plain.{Plain, index_of, set_at}
use Rattle.format.specs.Calls.{answer, value_or, then_no, sets_in, Filled as Answered, count_answer, fetch_answer, view_answer, edit_answer}
use Rattle.format.specs.Runs.{Single, request_in, single_answer, Ran, singly, Call, singles, run}
use Rattle.format.proofs.Elements.{Each, Filled, Has}
use Rattle.format.proofs.Whole.{Sound}
use Rattle.format.proofs.Named.{NewNames, NotRec}
use Rattle.format.proofs.Applying.{index-has}
use Rattle.format.proofs.Demand.{run-singly}
use Rattle.drafts.specs.Drafts.{to_fill, Draft, draft_of, rules_at, draft_answer, to_fill_answer}
use Rattle.totals.specs.Totals.{total_answer}
use Rattle.selection.specs.Found.{find_answer}
use Rattle.apart.specs.Naming.{set_named}
use Rattle.apart.specs.Leaving.{buffer_after, length_after}
use Rattle.apart.specs.Looking.{set_called, texts_of, texts_at, LooksAt, shown}
use Rattle.apart.proofs.Framing.{framed, edited-groups, framed-texts}
use Rattle.apart.proofs.Placing.{nth-other, index_stays, places-differ}
use Rattle.apart.proofs.Changes.{Changed, changed-has, changed-filled, Edited, single-either, pieces-held, sets-held}
use Rattle.apart.proofs.Looking.{count-looks, fetch-looks, total-looks, find-looks, view-looks}

-- the texts of another group's records stay
texts-other : (i k : ℕ) (e : Edit) → NewNames NotRec e → (ps : List Piece) → Each Sound ps → Filled ps → Has (groups ps) i → i ≢ k → texts_of (get_or (groups (edit_pieces i e ps)) k []) ≡ texts_of (get_or (groups ps) k [])
texts-other i k e names ps sound f h d =
    let at : (xs : List Piece) → texts_of (get_or (framed xs) k []) ≡ texts_of (get_or (groups xs) k []) = λ xs. sym (get_or-map texts_of (framed xs) k []) ∙ ap (λ (x : List (List Bytes)). get_or x k []) (framed-texts xs) ∙ get_or-map texts_of (groups xs) k [] in
    sym (at (edit_pieces i e ps)) ∙ ap (λ (gs : List Group). texts_of (get_or gs k [])) (edited-groups i e names ps sound f h) ∙ ap texts_of (nth-other (in_group e) [] i k (framed ps) d) ∙ at ps

-- An accepted edit of another set: the set of a name and the texts of its records.
module _ (p m : Plain) (request set : Bytes) (c : Changed request p m) (other : c.asks.set ≢ set) where
  changed-index : index_of set m.sets ≡ index_of set p.sets
  changed-index = ap (index_of set) c.sets ∙ index_stays set c.place c.edit p.sets

  set-at : (x : Option ℕ) → index_of set p.sets ≡ x → map (λ (k : ℕ). set_at k m.sets) x ≡ map (λ (k : ℕ). set_at k p.sets) x
  set-at none e = refl
  set-at (some k) e = ap {B = Option RecSet} (λ (s : RecSet). some s) (ap (set_at k) c.sets ∙ nth-other (in_set c.edit) _ c.place k p.sets (places-differ c.asks.set set p.sets c.place k c.there e other))

  changed-set : set_called m.sets set ≡ set_called p.sets set
  changed-set = ap (map (λ (k : ℕ). set_at k m.sets)) changed-index ∙ set-at (index_of set p.sets) refl

  texts-at : (x : Option ℕ) → index_of set p.sets ≡ x → texts_at (groups m.pieces) x ≡ texts_at (groups p.pieces) x
  texts-at none e = refl
  texts-at (some k) e =
      let d : c.place ≢ k = places-differ c.asks.set set p.sets c.place k c.there e other in
      ap (λ (ps : List Piece). texts_of (get_or (groups ps) k [])) c.pieces ∙ texts-other c.place k c.edit c.names p.pieces c.agrees.0 (changed-filled request p m c k (index-has set p.sets k e) d) (changed-has request p m c) d

  changed-texts : texts_at (groups m.pieces) (index_of set m.sets) ≡ texts_at (groups p.pieces) (index_of set p.sets)
  changed-texts = ap (texts_at (groups m.pieces)) changed-index ∙ texts-at (index_of set p.sets) refl

-- An edit, accepted or refused, which may be given a list of entries: every answer that looks at a set that it does not name is the same after it.
module _ {A : Type 0} (answers : Bytes → ℕ → A) (set : Bytes) (looks : LooksAt set answers) where
  edited-stays : (buffer : Bytes) (used : ℕ) (request : Bytes) (a : Answered) → set_named request ≢ some set → Edited buffer used request a → answers a.out (value_or used a.result) ≡ answers buffer used
  edited-stays buffer used request a other d =
      let b : Bytes = a.out in
      let u : ℕ = value_or used a.result in
      let c = d.changed in
      let p : Plain = d.before in
      let m : Plain = d.after in
      let another : c.asks.set ≢ set = λ e. other (ap (map (λ (r : Request). r.set)) c.reads ∙ ap {B = Option Bytes} (λ (x : Bytes). some x) e) in
      looks.is b u
      ∙ (λ i. looks.by (d.holds.passes i) (set_called (sets-held b u m d.holds i) set) (texts_at (groups (pieces-held b u m d.holds i)) (index_of set (sets-held b u m d.holds i))))
      ∙ (λ i. looks.by 0 (changed-set p m request set c another i) (changed-texts p m request set c another i))
      ∙ sym (λ i. looks.by (d.held.passes i) (set_called (sets-held buffer used p d.held i) set) (texts_at (groups (pieces-held buffer used p d.held i)) (index_of set (sets-held buffer used p d.held i))))
      ∙ sym (looks.is buffer used)

  pub single-stays : (buffer : Bytes) (used : ℕ) (c : Single) → set_named (request_in c) ≢ some set → answers (single_answer c buffer used).out (value_or used (single_answer c buffer used).result) ≡ answers buffer used
  single-stays buffer used c other = ⊎_elim (λ s i. answers (s.0 i) (s.1 i)) (edited-stays buffer used (request_in c) (single_answer c buffer used) other) (single-either buffer used c)

  pub answer-stays : (buffer : Bytes) (used : ℕ) (request : Bytes) → set_named request ≢ some set → answers (buffer_after buffer used request) (length_after buffer used request) ≡ answers buffer used
  answer-stays buffer used request other = single-stays buffer used (Single.edit request) other

  -- so it is after a list of edits none of which names it, and after a list of calls
  pub list-stays : (es : List Single) (buffer : Bytes) (used : ℕ) → Each (λ (c : Single). set_named (request_in c) ≢ some set) es → answers (singly es buffer used).buffer (singly es buffer used).length ≡ answers buffer used
  unfolding singly
  list-stays [] buffer used h = refl
  list-stays (c ∷ cs) buffer used h = list-stays cs (single_answer c buffer used).out (value_or used (single_answer c buffer used).result) h.1 ∙ single-stays buffer used c h.0

  pub calls-stay : (calls : List Call) (buffer : Bytes) (used : ℕ) → Each (λ (c : Single). set_named (request_in c) ≢ some set) (singles calls) → answers (run calls buffer used).buffer (run calls buffer used).length ≡ answers buffer used
  calls-stay calls buffer used h = ap (λ (r : Ran). answers r.buffer r.length) (run-singly calls buffer used) ∙ list-stays (singles calls) buffer used h

-- A request that isn't of the form changes nothing at all.
pub none_stays : (buffer : Bytes) (used : ℕ) (request : Bytes) → set_named request ≡ none → (buffer_after buffer used request ≡ buffer) × (length_after buffer used request ≡ used)
none_stays buffer used request e = ⊎_elim (λ s. s) (λ d. absurd (none-ne-some d.changed.asks.set (sym e ∙ ap (map (λ (r : Request). r.set)) d.changed.reads))) (single-either buffer used (Single.edit request))

-- The calls, for every buffer, used length, request and name of a set that is not the request's.
module _ (buffer : Bytes) (used : ℕ) (request set : Bytes) (other : set_named request ≢ some set) where
  pub count-stays : count_answer (buffer_after buffer used request) (length_after buffer used request) set ≡ count_answer buffer used set
  count-stays = answer-stays (λ (b : Bytes) (u : ℕ). count_answer b u set) set (count-looks set) buffer used request other

  pub fetch-stays : (row : ℕ) (name : Bytes) (occurrence : ℕ) (out : Bytes) → fetch_answer (buffer_after buffer used request) (length_after buffer used request) set row name occurrence out ≡ fetch_answer buffer used set row name occurrence out
  fetch-stays row name occurrence out = answer-stays (λ (b : Bytes) (u : ℕ). fetch_answer b u set row name occurrence out) set (fetch-looks set row name occurrence out) buffer used request other

  -- "of a view, its bytes are meant and not its place"
  pub view-stays : (row : ℕ) → shown (view_answer (buffer_after buffer used request) (length_after buffer used request) set row) ≡ shown (view_answer buffer used set row)
  view-stays row = answer-stays (λ (b : Bytes) (u : ℕ). shown (view_answer b u set row)) set (view-looks set row) buffer used request other

  pub total-stays : (name : Bytes) → total_answer (buffer_after buffer used request) (length_after buffer used request) set name ≡ total_answer buffer used set name
  total-stays name = answer-stays (λ (b : Bytes) (u : ℕ). total_answer b u set name) set (total-looks set name) buffer used request other

  pub find-stays : (expression : Bytes) (list : List ℕ) → find_answer (buffer_after buffer used request) (length_after buffer used request) set expression list ≡ find_answer buffer used set expression list
  find-stays expression list = answer-stays (λ (b : Bytes) (u : ℕ). find_answer b u set expression list) set (find-looks set expression list) buffer used request other

-- The names that a draft has still to fill. No edit touches a descriptor, so that they stay under every edit, of the draft's own set too.
rules-nth : (e : Edit) (i k : ℕ) (ss : List RecSet) → (set_at k (nth i (in_set e) ss)).rules ≡ (set_at k ss).rules
rules-nth e i k [] = refl
rules-nth e zero zero (s ∷ ss) = refl
rules-nth e zero (suc k) (s ∷ ss) = refl
rules-nth e (suc i) zero (s ∷ ss) = refl
rules-nth e (suc i) (suc k) (s ∷ ss) = rules-nth e i k ss

rules-stay : (e : Edit) (i : ℕ) (ss : List RecSet) (x : Option ℕ) → rules_at (nth i (in_set e) ss) x ≡ rules_at ss x
rules-stay e i ss none = refl
rules-stay e i ss (some k) = rules-nth e i k ss

draft-stays : (v i : ℕ) (e : Edit) (ss : List RecSet) (x : Option Draft) → draft_answer v (nth i (in_set e) ss) x ≡ draft_answer v ss x
draft-stays v i e ss none = refl
draft-stays v i e ss (some d) =
    let n : index_of d.set (nth i (in_set e) ss) ≡ index_of d.set ss = index_stays d.set i e ss in
    let r : rules_at (nth i (in_set e) ss) (index_of d.set (nth i (in_set e) ss)) ≡ rules_at ss (index_of d.set ss) = ap (rules_at (nth i (in_set e) ss)) n ∙ rules-stay e i ss (index_of d.set ss) in
    λ j. answer (then_no v (pick (is_some (n j)) 0 21)) (length (to_fill (r j) d.new))

pub to-fill-stays : (buffer : Bytes) (used : ℕ) (request draft : Bytes) → to_fill_answer (buffer_after buffer used request) (length_after buffer used request) draft ≡ to_fill_answer buffer used draft
unfolding to_fill_answer
to-fill-stays buffer used request draft = ⊎_elim (λ s i. draft_answer (verdict (s.0 i) (s.1 i)) (sets_in (s.0 i) (s.1 i)) (draft_of draft)) changes (single-either buffer used (Single.edit request))
  where
    changes : Edited buffer used request (edit_answer buffer used request) → draft_answer (verdict (buffer_after buffer used request) (length_after buffer used request)) (sets_in (buffer_after buffer used request) (length_after buffer used request)) (draft_of draft) ≡ draft_answer (verdict buffer used) (sets_in buffer used) (draft_of draft)
    changes d =
        let c = d.changed in
        (λ i. draft_answer (d.holds.passes i) ((sets-held (buffer_after buffer used request) (length_after buffer used request) d.after d.holds ∙ c.sets) i) (draft_of draft))
        ∙ draft-stays 0 c.place c.edit d.before.sets (draft_of draft)
        ∙ sym (λ i. draft_answer (d.held.passes i) (sets-held buffer used d.before d.held i) (draft_of draft))
