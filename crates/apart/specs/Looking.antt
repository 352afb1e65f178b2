-- The set of a name, and answers that look at it alone.
use Rattle.std.specs.Prelude.{ℕ, ◌≡◌, List, [], map, take, get_or}
use Rattle.std.proofs.Math.Option
use Rattle.std.proofs.Math.Option.{Option, none, some}
use Rattle.format.specs.Bytes.{Bytes}
use Rattle.format.specs.Lists.{filter}
use Rattle.format.specs.Pieces.{bytes_of, read_of}
use Rattle.format.specs.Records.{Block}
use Rattle.format.specs.Sets.{Group, groups, is_member, RecSet}
use Rattle.format.specs.Questions.{verdict}
use Rattle.format.specs.Plain.{index_of, set_at}
use Rattle.format.specs.Calls.{number_in, sets_in, Viewed, from_first, to_last}

-- the set, where there is one
abbrev pub set_called : List RecSet → Bytes → Option RecSet
set_called ss n = Option.map (λ (i : ℕ). set_at i ss) (index_of n ss)

-- the texts of its records, each from its first field to its last, as views show them
abbrev pub texts_of : Group → List Bytes
texts_of g = map (λ (b : Block). bytes_of (to_last (from_first b))) (filter is_member g)

abbrev pub texts_at : List Group → Option ℕ → List Bytes
texts_at gs none = []
texts_at gs (some i) = texts_of (get_or gs i [])

abbrev pub texts_called : Bytes → ℕ → Bytes → List Bytes
texts_called buffer used n = texts_at (groups (read_of (take used buffer))) (index_of n (sets_in buffer used))

-- An answer looks at one set: it is a function of the check's number, of the set of that name and of the texts of its records.
pub record LooksAt {A : Type 0} (set : Bytes) (answer : Bytes → ℕ → A) : Type 0 where
  pub by : ℕ → Option RecSet → List Bytes → A
  pub is : (buffer : Bytes) (used : ℕ) → answer buffer used ≡ by (verdict buffer used) (set_called (sets_in buffer used) set) (texts_called buffer used set)

-- "of a view, its bytes are meant and not its place": a view's number, 0 if accepted, and the bytes of its part
pub record Shown : Type 0 where
  pub number : ℕ
  pub part : Bytes

abbrev pub shown : Viewed → Shown
shown v = record { number = number_in v.result; part = v.part }
