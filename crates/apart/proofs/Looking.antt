-- The calls that look at one set: each answers by the check's number, the set of the name that it is given, and the texts of its records.
use Prim.Native.Nat.{ℕ, zero, suc}
use mathlib.Core.Path.{◌≡◌, refl, sym, ap, ◌∙◌}
use mathlib.Core.List.{List, [], ◌∷◌, ◌++◌, map}
use mathlib.Core.Option
use mathlib.Core.Option.{Option, none, some}
use lib.Dec.{ltb}
use lib.ListN.{length, take, get_or, get_or-map}
use Rattle.format.specs.Bytes.{Bytes, pick}
use Rattle.format.specs.Lists.{filter}
use Rattle.format.specs.Pieces.{bytes_of, read_of}
use Rattle.format.specs.Records.{Record, Block}
use Rattle.format.specs.Sets.{values_of, Group, groups, is_member, RecSet}
use Rattle.format.specs.Numbering.{every}
use Rattle.format.specs.Questions.{first_no, occurrences, values_in, verdict}
use Rattle.format.specs.Plain.{index_of, set_at, members_at, record_in, Occurrence, of_some, Sought, sought_members, found_rows}
use Rattle.format.specs.Calls.{then_no, answer, sets_in, lookup_no, count_answer, filled, fetch_answer, lead, from_first, to_last, block_at, pieces_before, viewed, viewed_at, sought_row, view_answer}
use Rattle.totals.specs.Totals.{millionths_of, totalled, total_answer}
use Rattle.selection.specs.Expressions.{Expression}
use Rattle.selection.specs.Reading.{read_expression}
use Rattle.selection.specs.Found.{found_by, find_no, listed, find_answer}
use Rattle.apart.specs.Looking.{texts_at, LooksAt, Shown, shown}

-- What is looked for among sets is looked for in the one of that name.

abbrev pub sought_in : Option RecSet → Option ℕ → Option Occurrence → Sought
sought_in none row field = record { sets = []; set = none; row = row; field = field }
sought_in (some s) row field = record { sets = s ∷ []; set = some zero; row = row; field = field }

abbrev sought : List RecSet → Option ℕ → Option ℕ → Option Occurrence → Sought
sought ss x row field = record { sets = ss; set = x; row = row; field = field }

members-at : (i : ℕ) (ss : List RecSet) → members_at i ss ≡ (set_at i ss).members
members-at i [] = refl
members-at zero (s ∷ ss) = refl
members-at (suc i) (s ∷ ss) = members-at i ss

abbrev rows_no : List Record → Option ℕ → Option Occurrence → ℕ
rows_no ms row field = pick (of_some (λ (j : ℕ). ltb j (length ms)) row) (pick (of_some (λ (o : Occurrence). ltb o.number (occurrences o.name (record_in ms row))) field) 0 23) 22

module _ (ss : List RecSet) (row : Option ℕ) (field : Option Occurrence) where
  sought-number : (x : Option ℕ) → first_no found_rows (sought ss x row field) ≡ first_no found_rows (sought_in (Option.map (λ (i : ℕ). set_at i ss) x) row field)
  sought-number none = refl
  sought-number (some i) = ap (λ (ms : List Record). rows_no ms row field) (members-at i ss)

  sought-members : (x : Option ℕ) → sought_members (sought ss x row field) ≡ sought_members (sought_in (Option.map (λ (i : ℕ). set_at i ss) x) row field)
  sought-members none = refl
  sought-members (some i) = members-at i ss

-- an answer by the number of what is looked for, the file's questions first, and by the records of the set
pub looks-at : {A : Type 0} (f : ℕ → List Record → A) (set : Bytes) (row : Option ℕ) (field : Option Occurrence)
    → LooksAt set (λ (b : Bytes) (u : ℕ). let q : Sought = record { sets = sets_in b u; set = index_of set (sets_in b u); row = row; field = field } in f (lookup_no b u q) (sought_members q))
looks-at f set row field = record {
  by = λ (v : ℕ) (x : Option RecSet) (ts : List Bytes). f (then_no v (first_no found_rows (sought_in x row field))) (sought_members (sought_in x row field));
  is = λ (b : Bytes) (u : ℕ) i. let ss : List RecSet = sets_in b u in f (then_no (verdict b u) (sought-number ss row field (index_of set ss) i)) (sought-members ss row field (index_of set ss) i);
}

pub count-looks : (set : Bytes) → LooksAt set (λ (b : Bytes) (u : ℕ). count_answer b u set)
unfolding count_answer
count-looks set = looks-at (λ (k : ℕ) (ms : List Record). answer k (length ms)) set none none

pub fetch-looks : (set : Bytes) (row : ℕ) (name : Bytes) (occurrence : ℕ) (out : Bytes) → LooksAt set (λ (b : Bytes) (u : ℕ). fetch_answer b u set row name occurrence out)
unfolding fetch_answer
fetch-looks set row name occurrence out = looks-at (λ (k : ℕ) (ms : List Record). filled k (get_or (values_of name (get_or ms row [])) occurrence []) out) set (some row) (some (record { name = name; number = occurrence }))

pub total-looks : (set name : Bytes) → LooksAt set (λ (b : Bytes) (u : ℕ). total_answer b u set name)
unfolding total_answer
total-looks set name = looks-at (λ (k : ℕ) (ms : List Record). totalled k (every millionths_of (values_in name ms))) set none none

pub find-looks : (set expression : Bytes) (list : List ℕ) → LooksAt set (λ (b : Bytes) (u : ℕ). find_answer b u set expression list)
unfolding find_answer
find-looks set expression list =
    looks-at (λ (k : ℕ) (ms : List Record). let e : Option Expression = read_expression expression in let found : List ℕ = found_by e ms in listed (then_no k (find_no e found list)) found list) set none none

-- A view, by its number and its part.
abbrev shown_by : ℕ → Bytes → Shown
shown_by zero part = record { number = zero; part = part }
shown_by (suc k) part = record { number = suc k; part = [] }

viewed-is : (k start : ℕ) (part : Bytes) → shown (viewed k start part) ≡ shown_by k part
viewed-is zero start part = refl
viewed-is (suc k) start part = refl

no_bytes : bytes_of [] ≡ []
unfolding bytes_of
no_bytes = refl

view-at : (k : ℕ) (gs : List Group) (x : Option ℕ) (row : ℕ) → shown (viewed_at k gs x row) ≡ shown_by k (get_or (texts_at gs x) row [])
view-at k gs none row = viewed-is k 0 []
view-at k gs (some i) row =
    let text : Block → Bytes = λ (b : Block). bytes_of (to_last (from_first b)) in
    let b : Block = block_at gs i row in
    viewed-is k (length (bytes_of (pieces_before gs i row ++ lead b))) (text b)
    ∙ ap (shown_by k) (sym (ap (get_or (map text (filter is_member (get_or gs i []))) row) (sym no_bytes) ∙ get_or-map text (filter is_member (get_or gs i [])) row []))

pub view-looks : (set : Bytes) (row : ℕ) → LooksAt set (λ (b : Bytes) (u : ℕ). shown (view_answer b u set row))
unfolding view_answer
view-looks set row = record {
  by = λ (v : ℕ) (x : Option RecSet) (ts : List Bytes). shown_by (then_no v (first_no found_rows (sought_in x (some row) none))) (get_or ts row []);
  is = λ (b : Bytes) (u : ℕ).
      let ss : List RecSet = sets_in b u in
      let gs : List Group = groups (read_of (take u b)) in
      view-at (lookup_no b u (sought_row ss set row)) gs (index_of set ss) row ∙ ap (λ (k : ℕ). shown_by (then_no (verdict b u) k) (get_or (texts_at gs (index_of set ss)) row [])) (sought-number ss (some row) none (index_of set ss));
}
