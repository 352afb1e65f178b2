-- A list of calls, run on a buffer, on the plain file and on a list of entries.
use Rattle.std.specs.Prelude.{ℕ, max, ◌&&◌, List, [], ◌∷◌, ◌++◌, map, leb, eqb, length}
use Rattle.std.proofs.Math.Option.{Option, none, some}
use Rattle.format.specs.Bytes.{Bytes, pick}
use Rattle.format.specs.Lists.{flat, only_if, onward}
use Rattle.format.specs.Limits.{run_requests}
use Rattle.format.specs.Requests.{requests_in}
use Rattle.format.specs.Plain.{Plain, length_of, Step, step}
use Rattle.format.specs.Calls.{Answer, answer, number_in, value_or, Filled, over, edit_answer}
use Rattle.format.specs.Directory.{listed_step, listed_answer, fill_answer}
use Rattle.format.specs.declared.Entry.{Entry}

-- One edit after another.

-- a single edit, by its request, and one given a list of so many entries
pub data Single : Type 0 where
  edit : Bytes → Single
  listed : ℕ → Bytes → Single

abbrev pub request_in : Single → Bytes
request_in (edit q) = q
request_in (listed n q) = q

abbrev pub single_answer : Single → Bytes → ℕ → Filled
single_answer (edit q) buffer used = edit_answer buffer used q
single_answer (listed n q) buffer used = listed_answer n buffer used q

abbrev pub single_step : ℕ → Plain → Single → Step
single_step room p (edit q) = step room p q
single_step room p (listed n q) = listed_step n room p q

-- an edit's number, 0 if accepted, and the length after it
pub record Told : Type 0 where
  pub number : ℕ
  pub length : ℕ

-- "each later one the buffer as the one before left it and the length that one returned"
pub record Ran : Type 0 where
  pub told : List Told
  pub length : ℕ
  pub buffer : Bytes

abbrev pub ran_on : Told → Ran → Ran
ran_on t r = record { told = t ∷ r.told; length = r.length; buffer = r.buffer }

unfoldable pub singly : List Single → Bytes → ℕ → Ran
singly [] buffer used = record { told = []; length = used; buffer = buffer }
singly (e ∷ es) buffer used =
    let a : Filled = single_answer e buffer used in
    let n : ℕ = value_or used a.result in
    ran_on (record { number = number_in a.result; length = n }) (singly es a.out n)

-- the plain file under the same list, given the buffer's length; most: "the largest length so far, the start's included"
pub record PlainRan : Type 0 where
  pub told : List Told
  pub file : Plain
  pub most : ℕ

abbrev pub plain_ran_on : Step → PlainRan → PlainRan
plain_ran_on s r = record { told = record { number = s.number; length = length_of s.file } ∷ r.told; file = r.file; most = r.most }

unfoldable pub plain_run : ℕ → List Single → Plain → ℕ → PlainRan
plain_run room [] p most = record { told = []; file = p; most = most }
plain_run room (e ∷ es) p most = let s : Step = single_step room p e in plain_ran_on s (plain_run room es s.file (max most (length_of s.file)))

-- A list of n entries under a list of edits: one that is given it, which is given its length n, leaves there what filling would put; any other leaves it alone.
abbrev pub entries_by : Single → Bytes → ℕ → List Entry → List Entry
entries_by (edit q) buffer used es = es
entries_by (listed n q) buffer used es = pick (eqb n (length es)) (fill_answer buffer used es).entries es

unfoldable pub entries_after : List Single → Bytes → ℕ → List Entry → List Entry
entries_after [] buffer used es = es
entries_after (c ∷ cs) buffer used es =
    let a : Filled = single_answer c buffer used in
    let n : ℕ = value_or used a.result in
    entries_after cs a.out n (entries_by c a.out n es)

-- A run of requests (document 02, order 3).

-- so many requests that there are at most 64, and an answer for each
abbrev pub few_enough : ℕ → List Bytes → Option (List Bytes)
few_enough n qs = only_if (leb (length qs) run_requests && leb (length qs) n) qs

-- "if the lengths don't add up to the run, there are more than 64 requests, or the answer list is too short" it is refused: the requests of a run, given a list of so many answers
abbrev pub taken : ℕ → Bytes → Option (List Bytes)
taken n s = onward (few_enough n) (requests_in s)

-- in a list a run stands for its requests, a refused one for none
abbrev pub edits_of : Option (List Bytes) → List Single
edits_of none = []
edits_of (some qs) = map Single.edit qs

abbrev pub taken_no : Option (List Bytes) → ℕ
taken_no none = 29
taken_no (some qs) = 0

-- its result, the buffer, and the list of answers: "one number per request, 0 if accepted", "whose later entries stay", "the last length, or the given one if there is no request"
pub record Numbered : Type 0 where
  pub result : Answer
  pub out : Bytes
  pub answers : List ℕ

abbrev pub numbers_told : List Told → List ℕ
numbers_told ts = map (λ (t : Told). t.number) ts

abbrev pub numbered : Option (List Bytes) → Bytes → ℕ → List ℕ → Numbered
numbered x buffer used old =
    let r : Ran = singly (edits_of x) buffer used in
    record { result = answer (taken_no x) r.length; out = r.buffer; answers = over (numbers_told r.told) old }

unfoldable pub run_answer : Bytes → ℕ → Bytes → List ℕ → Numbered
run_answer buffer used s old = numbered (taken (length old) s) buffer used old

-- A list of calls.

-- a call: a single edit, or a run given a list of so many answers
pub data Call : Type 0 where
  one : Single → Call
  many : ℕ → Bytes → Call

abbrev pub stands_for : Call → List Single
stands_for (one e) = e ∷ []
stands_for (many n s) = edits_of (taken n s)

abbrev pub singles : List Call → List Single
singles cs = flat (map stands_for cs)

-- each call on what the one before left
abbrev pub then_ran : Ran → Ran → Ran
then_ran r q = record { told = r.told ++ q.told; length = q.length; buffer = q.buffer }

unfoldable pub run : List Call → Bytes → ℕ → Ran
run [] buffer used = record { told = []; length = used; buffer = buffer }
run (c ∷ cs) buffer used = let r : Ran = singly (stands_for c) buffer used in then_ran r (run cs r.buffer r.length)
