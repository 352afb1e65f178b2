-- Bringing a spare file's records over (document 02, order 12): the answer of a merge, by the answers of edits.
use Rattle.std.specs.Prelude.{ℕ, zero, suc, Bool, true, false, ◌&&◌, List, [], ◌∷◌, ◌++◌, map, eqb}
use Rattle.format.specs.Bytes.{Bytes, pick, all, any, same, is_some}
use Rattle.format.specs.Lists.{is_filled, flat}
use Rattle.format.specs.Records.{Field, Record}
use Rattle.format.specs.Sets.{RecSet}
use Rattle.format.specs.Rules.{key}
use Rattle.format.specs.Questions.{verdict}
use Rattle.format.specs.Written.{Pair}
use Rattle.format.specs.Numbering.{or_else}
use Rattle.format.specs.Edits.{Edit}
use Rattle.format.specs.Requests.{Request, encoded}
use Rattle.format.specs.Plain.{set_at, index_of}
use Rattle.format.specs.Calls.{Answer, value_or, then_no, sets_in, Filled, leaves, edit_answer}
use Rattle.format.specs.Runs.{Single, Told, Ran, singly, Call, stands_for, then_ran}

-- "Each record of the spare file, in order": the name of its set, its names and values. Descriptors and comments are none.
pub record SpareRecord : Type 0 where
  pub set : Bytes
  pub pairs : List Pair

abbrev pub pair_of : Field → Pair
pair_of f = record { name = f.name; value = f.value }

abbrev pub records_in : RecSet → List SpareRecord
records_in s = map (λ (r : Record). record { set = s.name; pairs = map pair_of r }) s.members

abbrev pub records_of : List RecSet → List SpareRecord
records_of ss = flat (map records_in ss)

-- "is inserted into the set of that name, as the request of its names and values"
abbrev pub insert_for : SpareRecord → Request
insert_for x = record { set = x.set; edit = Edit.insert x.pairs }

abbrev pub request_for : SpareRecord → Bytes
request_for x = encoded (insert_for x)

-- "a record with the very same names and values in the same order"
abbrev pub is_same_pair : Pair → Field → Bool
is_same_pair p f = same p.name f.name && same p.value f.value

abbrev pub is_twin : List Pair → Record → Bool
is_twin [] [] = true
is_twin [] (f ∷ r) = false
is_twin (p ∷ ps) [] = false
is_twin (p ∷ ps) (f ∷ r) = is_same_pair p f && is_twin ps r

-- "It is skipped if the main set has a key and, as it then stands, holds" one.
abbrev pub has_twin : List Pair → RecSet → Bool
has_twin new s = is_filled (key s.rules) && any (is_twin new) s.members

-- a test of the set of a name, which fails where there is none
abbrev pub of_named : (RecSet → Bool) → Bytes → List RecSet → Bool
of_named test n ss = or_else false (λ (i : ℕ). test (set_at i ss)) (index_of n ss)

abbrev pub is_skipped : SpareRecord → List RecSet → Bool
is_skipped x ss = of_named (has_twin x.pairs) x.set ss

-- what becomes of one record: nothing changes, or it is one edit of the main file as it then stands
abbrev pub answer_unless : Bool → SpareRecord → Bytes → ℕ → Filled
answer_unless true x buffer used = record { result = Answer.value used; out = buffer }
answer_unless false x buffer used = edit_answer buffer used (request_for x)

abbrev pub record_answer : SpareRecord → Bytes → ℕ → Filled
record_answer x buffer used = answer_unless (is_skipped x (sets_in buffer used)) x buffer used

-- the next one is given what this one left; a refusal ends it
abbrev pub then_answer : Answer → Bytes → (Bytes → ℕ → Filled) → Filled
then_answer (Answer.value n) out later = later out n
then_answer (Answer.refusal k) out later = record { result = Answer.refusal k; out = out }

unfoldable pub records_answer : List SpareRecord → Bytes → ℕ → Filled
records_answer [] buffer used = record { result = Answer.value used; out = buffer }
records_answer (x ∷ xs) buffer used = let a : Filled = record_answer x buffer used in then_answer a.result a.out (records_answer xs)

-- "35 if the spare file fails the check, then 36 if it has a set that the main file lacks"
abbrev pub has_sets : List RecSet → List RecSet → Bool
has_sets main spare = all (λ (s : RecSet). is_some (index_of s.name main)) spare

abbrev pub spare_no : List RecSet → Bytes → ℕ → ℕ
spare_no main spare n = pick (eqb (verdict spare n) 0) (pick (has_sets main (sets_in spare n)) 0 36) 35

-- a number that is asked before an answer
abbrev pub unless_no : ℕ → Answer → Answer
unless_no zero a = a
unless_no (suc k) a = Answer.refusal (suc k)

-- "If any insert would be refused, the main file keeps every byte and the answer is the first such insert's number. Otherwise the result is that of the list of inserts.
-- Refused, after the main file's own numbers: 35 .., then 36"
unfoldable pub merge_answer : Bytes → ℕ → Bytes → ℕ → Filled
merge_answer buffer used spare n =
    let a : Filled = records_answer (records_of (sets_in spare n)) buffer used in
    let r : Answer = unless_no (then_no (verdict buffer used) (spare_no (sets_in buffer used) spare n)) a.result in
    record { result = r; out = leaves r a.out buffer }

-- "the list of inserts": the requests of the records that are not skipped as the main file then stands
abbrev pub insert_unless : Bool → SpareRecord → List Single → List Single
insert_unless true x es = es
insert_unless false x es = Single.edit (request_for x) ∷ es

unfoldable pub inserts_from : List SpareRecord → Bytes → ℕ → List Single
inserts_from [] buffer used = []
inserts_from (x ∷ xs) buffer used =
    let a : Filled = record_answer x buffer used in
    insert_unless (is_skipped x (sets_in buffer used)) x (inserts_from xs a.out (value_or used a.result))

abbrev pub merge_inserts : Bytes → ℕ → Bytes → ℕ → List Single
merge_inserts buffer used spare n = inserts_from (records_of (sets_in spare n)) buffer used

-- the first number told that is not 0
abbrev pub first_number : List Told → ℕ
first_number [] = 0
first_number (t ∷ ts) = then_no t.number (first_number ts)

-- A list of calls with merges in it. A merge stands for its inserts, a refused one for none.
pub data MergeCall : Type 0 where
  call : Call → MergeCall
  merge : Bytes → ℕ → MergeCall

abbrev pub edits_of : MergeCall → Bytes → ℕ → List Single
edits_of (call c) buffer used = stands_for c
edits_of (merge spare n) buffer used = leaves (merge_answer buffer used spare n).result (merge_inserts buffer used spare n) []

-- what it tells of each edit that it stands for, and the length and the buffer that it leaves
abbrev pub call_ran : MergeCall → Bytes → ℕ → Ran
call_ran (call c) buffer used = singly (stands_for c) buffer used
call_ran (merge spare n) buffer used =
    let a : Filled = merge_answer buffer used spare n in
    record { told = (singly (edits_of (merge spare n) buffer used) buffer used).told; length = value_or used a.result; buffer = a.out }

-- each call on what the one before left, and the edits that all of them stand for
unfoldable pub calls_ran : List MergeCall → Bytes → ℕ → Ran
calls_ran [] buffer used = record { told = []; length = used; buffer = buffer }
calls_ran (c ∷ cs) buffer used = let r : Ran = call_ran c buffer used in then_ran r (calls_ran cs r.buffer r.length)

unfoldable pub edits_in : List MergeCall → Bytes → ℕ → List Single
edits_in [] buffer used = []
edits_in (c ∷ cs) buffer used = let r : Ran = call_ran c buffer used in edits_of c buffer used ++ edits_in cs r.buffer r.length
