-- What questions 3, 4 and 5 say of a file, and where its descriptors stand.
use Rattle.std.specs.Prelude.{ℕ, ◌≤◌, ◌≡◌, true, List, length, Result, Ok, Err}
use Rattle.format.specs.Pieces.{read_of}
use Rattle.format.proofs.Records.{records}
use Rattle.format.specs.Bytes.{Bytes, pick, all}
use Rattle.format.specs.Limits.{descriptors}
use Rattle.format.specs.Questions.{fits_record}
use Rattle.format.specs.Records.{Record}
use Rattle.format.specs.Refusals.{question_no}
use Rattle.format.specs.declared.refusals.Question.{Question}
use Rattle.format.proofs.Walking.{heads, walk_fits, walk_once}
use Rattle.records.specs.Places.{is_readable}
use Rattle.records.specs.Heads.{HeadRows}
use Rattle.limits.specs.declared.Scan.{Scan}

-- the first of questions 3, 4 and 5 that says no, 0 if all say yes
unfoldable pub bounds_no : Bytes → ℕ
bounds_no s = pick (is_readable s) (pick (walk_fits (records (read_of s))) (pick (walk_once (records (read_of s))) 0 5) 4) 3

-- by a walk over the pieces, before descriptors are asked their own limits
abbrev pub Scanned : Bytes → List ℕ → List ℕ → List ℕ → Result Scan Question → Type 0
Scanned s starts ends afters (Err q) = question_no q ≡ bounds_no s
Scanned s starts ends afters (Ok x) =
    let rs : List Record = records (read_of s) in
    (is_readable s ≡ true)
    × (all fits_record rs ≡ true)
    × (walk_once rs ≡ x.once)
    × (x.count ≡ length (heads rs))
    × (x.count ≤ descriptors → HeadRows s starts ends afters x.count)

abbrev pub BoundedAs : Bytes → List ℕ → List ℕ → List ℕ → Result ℕ Question → Type 0
BoundedAs s starts ends afters (Err q) = question_no q ≡ bounds_no s
BoundedAs s starts ends afters (Ok n) =
    (is_readable s ≡ true)
    × (walk_fits (records (read_of s)) ≡ true)
    × (walk_once (records (read_of s)) ≡ true)
    × (n ≡ length (heads (records (read_of s))))
    × HeadRows s starts ends afters n
