-- The records that an expression finds, and the answer of the call (document 02, order 11).
use Rattle.std.specs.Prelude.{ℕ, suc, Bool, List, [], ◌∷◌, leb, length, Result}
use Rattle.std.proofs.Math.Option.{Option, none, some}
use Rattle.format.specs.Bytes.{Bytes, pick, is_some}
use Rattle.format.specs.Pieces.{read_of}
use Rattle.format.specs.Records.{Record}
use Rattle.format.specs.Sets.{sets_of}
use Rattle.format.specs.Questions.{first_no}
use Rattle.format.specs.Plain.{Sought, sought_members, found_rows}
use Rattle.format.specs.Calls.{Answer, answer, answered, then_no, sets_in, lookup_no, sought_set, leaves, over}
use Rattle.format.specs.declared.refusals.Refusal.{Refusal}
use Rattle.selection.specs.Expressions.{Expression}
use Rattle.selection.specs.Reading.{read_expression}
use Rattle.selection.specs.Meaning.{holds}

-- the numbers of those records that pass a test, the first one's number given
abbrev pub numbers_from : (Record → Bool) → ℕ → List Record → List ℕ
numbers_from p k [] = []
numbers_from p k (r ∷ rs) = pick (p r) (k ∷ numbers_from p (suc k) rs) (numbers_from p (suc k) rs)

-- "the numbers of the records that satisfy it, in rising order"
abbrev pub found_by : Option Expression → List Record → List ℕ
found_by none rs = []
found_by (some e) rs = numbers_from (holds e) 0 rs

-- 33: the expression is not of the form; 34: the list has fewer entries than records are found
abbrev pub find_no : Option Expression → List ℕ → List ℕ → ℕ
find_no e found list = then_no (pick (is_some e) 0 33) (pick (leb (length found) (length list)) 0 34)

-- what a list of numbers holds after a call; "later entries stay"
pub record Listed : Type 0 where
  pub result : Answer
  pub list : List ℕ

abbrev pub listed : ℕ → List ℕ → List ℕ → Listed
listed number found list = let a : Answer = answer number (length found) in record { result = a; list = leaves a (over found list) list }

-- what the code answers and what the list holds after it, in these words
abbrev pub listed_by : Result ℕ Refusal → List ℕ → Listed
listed_by r list = record { result = answered r; list = list }

-- asked in this order: the file's numbers, 21, 33, 34
unfoldable pub find_answer : Bytes → ℕ → Bytes → Bytes → List ℕ → Listed
find_answer buffer used set expression list =
    let q : Sought = sought_set (sets_in buffer used) set in
    let e : Option Expression = read_expression expression in
    let found : List ℕ = found_by e (sought_members q) in
    listed (then_no (lookup_no buffer used q) (find_no e found list)) found list

-- the same in a text that passes
unfoldable pub find_in : Bytes → Bytes → Bytes → List ℕ → Listed
find_in s set expression list =
    let q : Sought = sought_set (sets_of (read_of s)) set in
    let e : Option Expression = read_expression expression in
    let found : List ℕ = found_by e (sought_members q) in
    listed (then_no (first_no found_rows q) (find_no e found list)) found list
