-- What the call answers, case by case: a bad request, one of another kind, an unknown set, and a draft of a set.
use Rattle.std.specs.Prelude.{Some, None, Result}
use Rattle.std.specs.Result.{IsErr, IsErrAnd}
use native.Mathlib.Omega.{arith}
use Rattle.format.specs.declared.refusals.Question.{Question}
use Rattle.format.specs.declared.refusals.Refusal.{Refusal}
use Rattle.format.specs.Refusals.{question_no}
use Rattle.format.proofs.Refused.{question-number, handed-answer}
use Prim.Native.Nat.{ℕ, zero, suc, ◌≤◌, ◌<◌}
use mathlib.Core.Path.{◌≡◌, refl, sym, ap, ◌∙◌}
use mathlib.Core.List.{List}
use mathlib.Core.Option.{Option, none, some, map}
use lib.ListN.{length, take}
use Rattle.format.specs.Bytes.{Bytes}
use Rattle.format.specs.Lists.{onward}
use Rattle.format.specs.Limits.{file_bytes}
use Rattle.format.specs.Pieces.{read_of}
use Rattle.format.specs.Records.{Record}
use Rattle.format.specs.Sets.{RecSet, sets_of}
use Rattle.format.specs.Questions.{first_no}
use Rattle.format.specs.Written.{Pair}
use Rattle.format.specs.Requests.{Request as Asked, request_of}
use Rattle.format.specs.Edits.{Edit}
use Rattle.format.specs.Plain.{index_of, found_rows}
use Rattle.format.specs.Calls.{Answer, answer, answered, check_answer, sets_in, insert_of}
use Rattle.format.proofs.Dense.{dense}
use Rattle.format.proofs.Passing.{SetsPass}
use Rattle.words.specs.Spans.{span}
use Rattle.records.specs.Sets.{set_behind}
use Rattle.records.specs.Walk.{record_in}
use Rattle.records.specs.declared.Head.{Head}
use Rattle.records.proofs.Members.{HeadFound}
use Rattle.records.proofs.SetOf.{SetOf, head-set, passing-set}
use Rattle.joints.proofs.Fields.{dense-same}
use Rattle.dictionary.specs.Known.{Described}
use Rattle.dictionary.proofs.SetRules.{set-described}
use Rattle.requests.specs.Fields.{bytes_of}
use Rattle.requests.specs.Pairs.{pairs_at}
use Rattle.requests.specs.Kinds.{edit_of, request_answer}
use Rattle.requests.specs.declared.kinds.Act.{Act as ReadAct}
use Rattle.requests.specs.declared.kinds.Edit.{Edit as ReadEdit}
use Rattle.requests.specs.declared.kinds.Request.{Request}
use Rattle.drafts.specs.Drafts.{to_fill, Draft, draft_of, rules_at, draft_answer, to_fill_answer}
use Rattle.drafts.proofs.Giving.{toFill-bare}

module _ (ss : List RecSet) (s : Bytes) where
  drafted : Bytes → Edit → Option Draft
  drafted set e = map (λ (ps : List Pair). record { set = set; new = ps }) (insert_of e)

  asked : Option Asked → Answer
  asked x = draft_answer 0 ss (onward (λ (q : Asked). drafted q.set q.edit) x)

  -- no request, and a request of another kind
  pub draft-fault : request_answer s None ≡ request_of s → Answer.refusal 20 ≡ draft_answer 0 ss (draft_of s)
  unfolding asked drafted
  draft-fault e = ap asked e

  module _ (q : Request) (e : request_answer s (Some q) ≡ request_of s) where
    by-asked : draft_answer 0 ss (drafted (bytes_of s q.set) (edit_of s q.edit)) ≡ draft_answer 0 ss (draft_of s)
    unfolding asked drafted
    by-asked = ap asked e

    pub draft-other : (row : ℕ) (a : ReadAct) → q.edit ≡ ReadEdit.On row a → Answer.refusal 20 ≡ draft_answer 0 ss (draft_of s)
    unfolding drafted
    draft-other row a is = ap (λ (x : ReadEdit). draft_answer 0 ss (drafted (bytes_of s q.set) (edit_of s x))) (sym is) ∙ by-asked

    pub draft-insert : (i : ℕ) → q.edit ≡ ReadEdit.Insert i → draft_answer 0 ss (some (record { set = bytes_of s q.set; new = pairs_at s i })) ≡ draft_answer 0 ss (draft_of s)
    unfolding drafted
    draft-insert i a = ap (λ (x : ReadEdit). draft_answer 0 ss (drafted (bytes_of s q.set) (edit_of s x))) (sym a) ∙ by-asked

-- the set of a draft
module _ (ss : List RecSet) (d : Draft) where
  by_place : Option ℕ → Answer
  by_place x = answer (first_no found_rows (record { sets = ss; set = x; row = none; field = none })) (length (to_fill (rules_at ss x) d.new))

  pub draft-missing : index_of d.set ss ≡ none → Answer.refusal 21 ≡ draft_answer 0 ss (some d)
  unfolding by_place
  draft-missing e = sym (ap by_place e)

  pub draft-found : (i : ℕ) → index_of d.set ss ≡ some i → Answer.value (length (to_fill (rules_at ss (some i)) d.new)) ≡ draft_answer 0 ss (some d)
  unfolding by_place
  draft-found i e = sym (ap by_place e)

-- the descriptor of its set, in a text that passes
module _ (s n : Bytes) (h : Head) (f : HeadFound s n (sets_of (read_of s)) h) where
  pub head-described : length s ≤ file_bytes → SetsPass (sets_of (read_of s)) → Described (span h.start h.end s)
  head-described short passes = set-described s n (set_behind s h) (passing-set s n (set_behind s h) (head-set s n h f) short passes)

  pub head-filled : (new : List Pair) → Answer.value (length (to_fill (record_in (span h.start h.end s)) new)) ≡ draft_answer 0 (sets_of (read_of s)) (some (record { set = n; new = new }))
  head-filled new =
      let g : SetOf s n (set_behind s h) = head-set s n h f in
      ap (λ (r : Record). Answer.value (length (to_fill r new))) g.rules ∙ draft-found (sets_of (read_of s)) (record { set = n; new = new }) g.index g.there

-- what is to fill by a descriptor and by the dense one
pub dense-filled : (d : Bytes) → Described d → (new : List Pair) → to_fill (record_in (dense d)) new ≡ to_fill (record_in d) new
dense-filled d h new = dense-same d h.reads (λ (r : Record). to_fill r new) (λ r. toFill-bare r new)

-- the file's own questions come first
refused-by : (k : ℕ) (ss : List RecSet) (x : Option Draft) → 0 < k → Answer.refusal k ≡ draft_answer k ss x
refused-by zero ss x h = absurd (omega arith)
refused-by (suc k) ss none h = refl
refused-by (suc k) ss (some d) h = refl

module _ (buffer : Bytes) (used : ℕ) (request : Bytes) where
  -- question q said no, which `?` handed on
  pub call-refused : (q : Question) → question_no q ≡ check_answer buffer used → (x : Result ℕ Refusal) → IsErr x × IsErrAnd x (λ r. r ≡ Refusal.File q) → answered x ≡ to_fill_answer buffer used request
  unfolding check_answer to_fill_answer
  call-refused q e x h =
      handed-answer x q h ∙ refused-by (question_no q) (sets_in buffer used) (draft_of request) (question-number q)
      ∙ ap (λ (n : ℕ). draft_answer n (sets_in buffer used) (draft_of request)) e

  pub call-inside : 0 ≡ check_answer buffer used → draft_answer 0 (sets_of (read_of (take used buffer))) (draft_of request) ≡ to_fill_answer buffer used request
  unfolding check_answer to_fill_answer
  call-inside e = ap (λ (n : ℕ). draft_answer n (sets_in buffer used) (draft_of request)) e
