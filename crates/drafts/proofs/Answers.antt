-- What the call answers of drafts: nothing is to fill of one that an insert takes, and a pair more takes at most one off.
use Prim.Native.Nat.{ℕ, zero, suc, ◌+◌}
use native.Mathlib.Omega.{arith}
use mathlib.Core.Path.{◌≡◌, refl, sym, ap, ◌∙◌, subst}
use mathlib.Core.Bool.{Bool, true, and-eq-true_iff}
use mathlib.Core.List.{List, [], ◌∷◌, ◌++◌, map}
use mathlib.Core.Option
use mathlib.Core.Option.{Option, none, some}
use lib.ListN.{length, take}
use borrow.Author.Tests.{eqb-true}
use Rattle.format.specs.Bytes.{Bytes, pick, all, among}
use Rattle.format.specs.Lists.{onward, nth}
use Rattle.format.specs.Records.{Record}
use Rattle.format.specs.Sets.{RecSet}
use Rattle.format.specs.Pieces.{read_of}
use Rattle.format.specs.Numbers.{int_bounds}
use Rattle.format.specs.Questions.{first_no, each_record, all_present, verdict}
use Rattle.format.specs.Written.{Pair, new_field}
use Rattle.format.specs.Numbering.{completed}
use Rattle.format.specs.Edits.{Edit, in_set}
use Rattle.format.specs.Requests.{Request, request_of}
use Rattle.format.specs.Plain.{Plain, plain_of, index_of, set_at, found_rows, apply, apply_in, step}
use Rattle.format.specs.Calls.{Answer, answer, number_in, value_or, then_no, sets_in, sought_set, insert_of, edit_answer}
use Rattle.format.proofs.Elements.{Has}
use Rattle.format.proofs.Lines.{all_append}
use Rattle.format.proofs.Applying.{granted-set, index-has}
use Rattle.format.proofs.Completing.{completed-insert}
use Rattle.format.proofs.Questions.{asked, yes-granted, Accepted, accepted-result, step-accepted}
use Rattle.drafts.specs.Drafts.{to_fill, Draft, draft_of, rules_at, draft_answer, to_fill_answer}
use Rattle.drafts.proofs.Filling.{filled-completed, pair-more}

-- a number that is no refusal
answer-value : (k n m : ℕ) → answer k n ≡ Answer.value m → k ≡ 0
answer-value zero n m e = refl
answer-value (suc k) n m e = ap number_in e

both-none : (v k : ℕ) → then_no v k ≡ 0 → (v ≡ 0) × (k ≡ 0)
both-none zero k e = (refl, e)
both-none (suc v) k e = absurd (omega (arith, e))

-- what a draft is of the request that is read
draft-edit : (q : Request) (e : Edit) (d : Draft) → q.edit ≡ e → Option.map (λ (ps : List Pair). record { set = q.set; new = ps }) (insert_of e) ≡ some d → (q.set ≡ d.set) × (q.edit ≡ Edit.insert d.new)
draft-edit q (Edit.insert new) d e f = (ap (λ (x : Option Draft). (on_else x).set) f, e ∙ ap (λ (x : Option Draft). Edit.insert (on_else x).new) f)
  where
    on_else : Option Draft → Draft
    on_else none = d
    on_else (some c) = c
draft-edit q (Edit.on j a) d e f = absurd (none-some f)
  where
    is_there : Option Draft → Type 0
    is_there none = Unit {0}
    is_there (some c) = ⊥

    none-some : none ≡ some d → ⊥
    none-some g = subst is_there g tt

draft-read : (request : Bytes) (q : Request) (d : Draft) → request_of request ≡ some q → draft_of request ≡ some d → (q.set ≡ d.set) × (q.edit ≡ Edit.insert d.new)
draft-read request q d r e = draft-edit q q.edit d refl (sym (ap (onward (λ (q : Request). Option.map (λ (ps : List Pair). record { set = q.set; new = ps }) (insert_of q.edit))) r) ∙ e)

-- what is asked of all sets after an edit of one is asked of that one
all-edited : (p : RecSet → Bool) (f : RecSet → RecSet) (i : ℕ) (ss : List RecSet) → Has ss i → all p (nth i f ss) ≡ true → p (f (set_at i ss)) ≡ true
all-edited p f i [] h e = absurd h
all-edited p f zero (s ∷ ss) h e = ((and-eq-true_iff (p (f s)) (all p ss)).0 e).0
all-edited p f (suc i) (s ∷ ss) h e = all-edited p f i ss h ((and-eq-true_iff (p s) (all p (nth i f ss))).0 e).1

-- the set of a draft is there
found_none : (ss : List RecSet) (n : Bytes) (i : ℕ) → index_of n ss ≡ some i → first_no found_rows (sought_set ss n) ≡ 0
found_none ss n i e = ap (λ (x : Option ℕ). first_no found_rows (record { sets = ss; set = x; row = none; field = none })) e

-- what a completed insert is
completed-as : (q whole : Request) (x : Option (List Pair)) → Option.map (λ (e : Edit). record { set = q.set; edit = e }) (Option.map (λ (ps : List Pair). Edit.insert ps) x) ≡ some whole → (ps : List Pair) × ((x ≡ some ps) × (whole ≡ record { set = q.set; edit = Edit.insert ps }))
completed-as q whole none e = absurd (subst (λ (y : Option Request). is_none y) e tt)
  where
    is_none : Option Request → Type 0
    is_none none = Unit {0}
    is_none (some r) = ⊥
completed-as q whole (some ps) e = (ps, (refl, sym (ap or_whole e)))
  where
    or_whole : Option Request → Request
    or_whole none = whole
    or_whole (some r) = r

module _ (buffer : Bytes) (used : ℕ) (request : Bytes) (d : Draft) (drafts : draft_of request ≡ some d) where
  abbrev file : Plain
  file = plain_of (read_of (take used buffer))

  abbrev ss : List RecSet
  ss = sets_in buffer used

  taken-filled : verdict buffer used ≡ 0 → Accepted (length buffer) file request (step (length buffer) file request).file → to_fill_answer buffer used request ≡ Answer.value 0
  unfolding to_fill_answer plain_of apply
  taken-filled v a =
      let q : Request = a.asks in
      let is = draft-read request q d a.reads drafts in
      let at = granted-set (asked (length buffer) file q) (yes-granted int_bounds (asked (length buffer) file q) a.yes) in
      let i : ℕ = at.0 in
      let here : index_of d.set ss ≡ some i = ap (λ (n : Bytes). index_of n ss) (sym is.0) ∙ at.1 in
      let c = completed-as q a.whole (completed int_bounds (set_at i ss) d.new) (sym (completed-insert file q d.new i at.1 is.1) ∙ a.completes) in
      let ps : List Pair = c.0 in
      let made : (asked (length buffer) file q).result.sets ≡ nth i (in_set (Edit.insert ps)) ss =
      ap (λ (p : Plain). p.sets) (accepted-result (length buffer) file request (step (length buffer) file request).file a ∙ a.makes)
      ∙ ap (λ (w : Request). (apply w file).sets) c.1.1 ∙ ap (λ (x : Option ℕ). (apply_in x (Edit.insert ps) file).sets) at.1 in
      let all_there : each_record all_present (nth i (in_set (Edit.insert ps)) ss) ≡ true = ap (each_record all_present) (sym made) ∙ a.yes.1.1.1.1.1.1.1.1.1.1.1.0 in
      let own : RecSet = set_at i ss in
      let of-set : all (all_present own.rules) (own.members ++ (map new_field ps ∷ [])) ≡ true =
      all-edited (λ (s : RecSet). all (all_present s.rules) s.members) (in_set (Edit.insert ps)) i ss (index-has d.set ss i here) all_there in
      let two = ((and-eq-true_iff (all (all_present own.rules) own.members) (all (all_present own.rules) (map new_field ps ∷ []))).0 (sym (all_append (all_present own.rules) own.members (map new_field ps ∷ [])) ∙ of-set)).1 in
      let present : all_present own.rules (map new_field ps) ≡ true = ((and-eq-true_iff (all_present own.rules (map new_field ps)) true).0 two).0 in
      let count : length (to_fill own.rules d.new) ≡ 0 = eqb-true (length (to_fill own.rules d.new)) 0 (filled-completed own d.new ps c.1.0 ∙ present) in
      ap (draft_answer (verdict buffer used) ss) drafts
      ∙ (λ j. answer (then_no (v j) (found_none ss d.set i here j)) (length (to_fill (rules_at ss (here j)) d.new)))
      ∙ ap Answer.value count

  -- an insert of a draft that is accepted had 0
  pub accepted-filled : (m : ℕ) → (edit_answer buffer used request).result ≡ Answer.value m → to_fill_answer buffer used request ≡ Answer.value 0
  unfolding edit_answer
  accepted-filled m e =
      let no = both-none (verdict buffer used) (step (length buffer) file request).number (answer-value (then_no (verdict buffer used) (step (length buffer) file request).number) _ m e) in
      taken-filled no.0 (step-accepted (length buffer) file request no.1)

-- an added pair with a missing name takes one off, and no other pair changes the answer
pub answer-more : (buffer : Bytes) (used : ℕ) (request more set : Bytes) (xs ys : List Pair) (p : Pair)
    → draft_of request ≡ some (record { set = set; new = xs ++ ys }) → draft_of more ≡ some (record { set = set; new = xs ++ (p ∷ ys) })
    → let names : List Bytes = to_fill (rules_at (sets_in buffer used) (index_of set (sets_in buffer used))) (xs ++ ys) in
    (number_in (to_fill_answer buffer used more) ≡ number_in (to_fill_answer buffer used request))
    × (number_in (to_fill_answer buffer used request) ≡ 0 → value_or 0 (to_fill_answer buffer used request) ≡ pick (among p.name names) 1 0 + value_or 0 (to_fill_answer buffer used more))
unfolding to_fill_answer
answer-more buffer used request more set xs ys p e f =
    let ss : List RecSet = sets_in buffer used in
    let rules : Record = rules_at ss (index_of set ss) in
    let k : ℕ = then_no (verdict buffer used) (first_no found_rows (sought_set ss set)) in
    let a : draft_answer (verdict buffer used) ss (draft_of request) ≡ answer k (length (to_fill rules (xs ++ ys))) = ap (draft_answer (verdict buffer used) ss) e in
    let b : draft_answer (verdict buffer used) ss (draft_of more) ≡ answer k (length (to_fill rules (xs ++ (p ∷ ys)))) = ap (draft_answer (verdict buffer used) ss) f in
    let same : number_in (answer k (length (to_fill rules (xs ++ (p ∷ ys))))) ≡ number_in (answer k (length (to_fill rules (xs ++ ys)))) = number_of k (length (to_fill rules (xs ++ (p ∷ ys)))) (length (to_fill rules (xs ++ ys))) in (
      ap number_in b ∙ same ∙ sym (ap number_in a),
      λ z.
          ap (value_or 0) a
          ∙ counts k (length (to_fill rules (xs ++ ys))) (length (to_fill rules (xs ++ (p ∷ ys)))) (pick (among p.name (to_fill rules (xs ++ ys))) 1 0) (sym (ap number_in a) ∙ z) (pair-more rules xs ys p)
          ∙ ap (λ (x : Answer). pick (among p.name (to_fill rules (xs ++ ys))) 1 0 + value_or 0 x) (sym b),
    )
  where
    number_of : (k m n : ℕ) → number_in (answer k m) ≡ number_in (answer k n)
    number_of zero m n = refl
    number_of (suc k) m n = refl

    counts : (k m n c : ℕ) → number_in (answer k m) ≡ 0 → m ≡ c + n → value_or 0 (answer k m) ≡ c + value_or 0 (answer k n)
    counts zero m n c z h = h
    counts (suc k) m n c z h = absurd (omega (arith, z))
