-- Calls from C that edit, one after another, each given the buffer and the length that the one before left.
use Rattle.std.specs.Prelude.{ℕ, ◌≡◌, Bool, true, false, List, [], ◌∷◌, ◌++◌, map, length, take, drop}
use Rattle.format.specs.Bytes.{Bytes}
use Rattle.format.specs.Pieces.{read_of}
use Rattle.format.specs.Questions.{verdict}
use Rattle.format.specs.Plain.{Plain, plain_of}
use Rattle.format.specs.Calls.{Answer, number_in, value_or, edit_answer}
use Rattle.format.specs.Directory.{kept_answer}
use Rattle.format.specs.Runs.{Single, Told, plain_run, numbers_told, run_answer, Call, stands_for, singles, run}
use Rattle.format.specs.Demand.{Demand}
use Rattle.format.specs.declared.Entry.{Entry}

-- a call of `recfile_edit`, of `recfile_edit_listed` with a list of entries, of `recfile_edit_run` with a list of answers; and the call of the definition's lists that it is
pub data EditFromC : Type 0 where
  edit : Bytes → EditFromC
  listed : List Entry → Bytes → EditFromC
  many : List ℕ → Bytes → EditFromC

abbrev pub call_of : EditFromC → Call
call_of (edit q) = Call.one (Single.edit q)
call_of (listed es q) = Call.one (Single.listed (length es) q)
call_of (many old s) = Call.many (length old) s

-- what a call left: the length that it returned, `*number`, the buffer, the list of answers, and the list of entries
pub record Left : Type 0 where
  pub length : ℕ
  pub number : ℕ
  pub buffer : Bytes
  pub answers : List ℕ
  pub entries : List Entry

-- what a contract says of the first three
abbrev pub Answers : Answer → Bytes → ℕ → Left → Type 0
Answers a out used l = (l.length ≡ value_or used a) × (l.number ≡ number_in a) × (l.buffer ≡ out)

-- and of the list, where a call is given one
abbrev pub Edited : Bytes → ℕ → EditFromC → Left → Type 0
Edited buffer used (edit q) l = Answers (edit_answer buffer used q).result (edit_answer buffer used q).out used l
Edited buffer used (listed es q) l = Answers (kept_answer buffer used q es).result (kept_answer buffer used q es).out used l × (l.entries ≡ (kept_answer buffer used q es).entries)
Edited buffer used (many old s) l = Answers (run_answer buffer used s old).result (run_answer buffer used s old).out used l × (l.answers ≡ (run_answer buffer used s old).answers)

-- what each call left, and the buffer and the length that the last one left
abbrev pub Chain : List EditFromC → Bytes → ℕ → List Left → Bytes → ℕ → Type 0
Chain [] buffer used [] last n = (last ≡ buffer) × (n ≡ used)
Chain [] buffer used (l ∷ ls) last n = ⊥
Chain (c ∷ cs) buffer used [] last n = ⊥
Chain (c ∷ cs) buffer used (l ∷ ls) last n = Edited buffer used c l × Chain cs l.buffer l.length ls last n

-- The list of entries goes along: a call that is given a list is given the one that was left, at first `es`, and `last` is left at the end; other calls leave it.
abbrev pub Along : List Entry → List EditFromC → List Left → List Entry → Type 0
Along es [] ls last = last ≡ es
Along es (c ∷ cs) [] last = ⊥
Along es (edit q ∷ cs) (l ∷ ls) last = Along es cs ls last
Along es (listed given q ∷ cs) (l ∷ ls) last = (given ≡ es) × Along l.entries cs ls last
Along es (many old s ∷ cs) (l ∷ ls) last = Along es cs ls last

abbrev pub is_listed : EditFromC → Bool
is_listed (edit q) = false
is_listed (listed es q) = true
is_listed (many old s) = false

-- the numbers that the calls told, one for each edit: a run's stand in front of its list of answers
abbrev pub numbers_by : EditFromC → Left → List ℕ
numbers_by (edit q) l = l.number ∷ []
numbers_by (listed es q) l = l.number ∷ []
numbers_by (many old s) l = take (length (stands_for (Call.many (length old) s))) l.answers

abbrev pub numbers_in : List EditFromC → List Left → List ℕ
numbers_in [] ls = []
numbers_in (c ∷ cs) [] = []
numbers_in (c ∷ cs) (l ∷ ls) = numbers_by c l ++ numbers_in cs ls

-- the lengths that they returned, one for each call
abbrev pub lengths_in : List Left → List ℕ
lengths_in ls = map (λ (l : Left). l.length) ls

-- those that are told of a list's edits: of each call the length after its last edit, or the given one if it stands for none
abbrev pub last_length : ℕ → List Told → ℕ
last_length used [] = used
last_length used (t ∷ ts) = last_length t.length ts

abbrev pub lengths_told : ℕ → List Call → List Told → List ℕ
lengths_told used [] ts = []
lengths_told used (c ∷ cs) ts =
    let k : ℕ = length (stands_for c) in
    let n : ℕ = last_length used (take k ts) in
    n ∷ lengths_told n cs (drop k ts)

-- They left what the definition's run leaves, and told each edit's number and each call's length as that does; and if the file passes, demand 3 holds of it.
pub record Leaves (buffer : Bytes) (used : ℕ) (calls : List Call) (numbers returned : List ℕ) (last : Bytes) (n : ℕ) : Type 0 where
  pub buffers : last ≡ (run calls buffer used).buffer
  pub lengths : n ≡ (run calls buffer used).length
  pub tells : numbers ≡ numbers_told (run calls buffer used).told
  pub returns : returned ≡ lengths_told used calls (run calls buffer used).told
  pub demand : verdict buffer used ≡ 0 → let first : Plain = plain_of (read_of (take used buffer)) in Demand buffer used first (singles calls) (run calls buffer used) (plain_run (length buffer) (singles calls) first used)
