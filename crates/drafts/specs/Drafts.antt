-- How many names of a draft are still to fill (document 02, order 8).
use Rattle.std.specs.Prelude.{ℕ, Bool, ◌||◌, not, List, [], ◌++◌, map, length}
use Rattle.std.proofs.Math.Option
use Rattle.std.proofs.Math.Option.{Option, none, some}
use Rattle.format.specs.Bytes.{Bytes, among}
use Rattle.format.specs.Lists.{onward, filter}
use Rattle.format.specs.Records.{Record}
use Rattle.format.specs.Sets.{RecSet}
use Rattle.format.specs.Rules.{mandatory, key, auto}
use Rattle.format.specs.Questions.{first_no, verdict}
use Rattle.format.specs.Written.{Pair, new_field}
use Rattle.format.specs.Numbering.{firsts, pair_names}
use Rattle.format.specs.Requests.{Request, request_of}
use Rattle.format.specs.Plain.{index_of, set_at, found_rows}
use Rattle.format.specs.Calls.{Answer, answer, then_no, sets_in, sought_set, insert_of}

-- "the number of distinct mandatory names of the draft's set, the key among them": each once
abbrev pub required : Record → List Bytes
required rules = firsts (mandatory rules ++ key rules)

-- "that neither the draft nor an `%auto` list names"
abbrev pub is_given : Record → List Pair → Bytes → Bool
is_given rules new n = among n (pair_names new) || among n (auto rules)

unfoldable pub to_fill : Record → List Pair → List Bytes
to_fill rules new = filter (λ (n : Bytes). not (is_given rules new n)) (required rules)

-- "that draft, with the `%auto` names added", as a record
abbrev pub with_autos : Record → List Pair → Record
with_autos rules new = map new_field (new ++ map (λ (n : Bytes). record { name = n; value = [] }) (auto rules))

-- "a draft insert": its set and its pairs; none of "a bad request or one of another kind"
pub record Draft : Type 0 where
  pub set : Bytes
  pub new : List Pair

abbrev pub draft_of : Bytes → Option Draft
draft_of request = onward (λ (q : Request). Option.map (λ (ps : List Pair). record { set = q.set; new = ps }) (insert_of q.edit)) (request_of request)

-- the rules of the set of a place
abbrev pub rules_at : List RecSet → Option ℕ → Record
rules_at ss none = []
rules_at ss (some i) = (set_at i ss).rules

-- "A file that fails, a bad request or one of another kind, or an unknown set gets 1 to 14 and 30, 20 or 21, marked as refusals."
abbrev pub draft_answer : ℕ → List RecSet → Option Draft → Answer
draft_answer file_no ss none = answer (then_no file_no 20) 0
draft_answer file_no ss (some d) =
    answer (then_no file_no (first_no found_rows (sought_set ss d.set))) (length (to_fill (rules_at ss (index_of d.set ss)) d.new))

unfoldable pub to_fill_answer : Bytes → ℕ → Bytes → Answer
to_fill_answer buffer used request = draft_answer (verdict buffer used) (sets_in buffer used) (draft_of request)
