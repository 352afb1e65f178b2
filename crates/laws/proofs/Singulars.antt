-- Computed examples of edits in a set with singular names: each of the edits that would make a second value, and those that make none.
use Prim.Native.Nat.{ℕ}
use Prim.Native.String.{String}
use mathlib.Core.Path.{◌≡◌, refl}
use mathlib.Core.Bool.{true}
use mathlib.Core.List.{List, [], ◌∷◌}
use lib.ListN.{length}
use Rattle.format.specs.Bytes.{Bytes, text, class_of, all}
use Rattle.format.specs.Pieces.{bytes_of, pieces, read_of}
use Rattle.format.specs.Sets.{sets_of}
use Rattle.format.specs.Questions.{file_of, verdict_in, verdict}
use Rattle.format.specs.Written.{Pair, written}
use Rattle.format.specs.Edits.{Change, Act, Edit}
use Rattle.format.specs.Requests.{tagged, request_of, encoded}
use Rattle.format.specs.Numbering.{completed}
use Rattle.format.specs.Plain.{plain_of, length_of, apply, completed_by, step}
use Rattle.format.specs.Calls.{check_answer, edit_answer}
use Rattle.format.proofs.Cases.{asks, pair, change, Case, holds}

-- two sets with tax stamps; those of one set do not matter to the other
abbrev stamps : Bytes
stamps = text "%rec: Scan\n%key: Id\n%singular: Stamp Roll\n%singular: Stamp\n%size: <= 3\n\nId: 1\nStamp: a\nStamp: b\nRoll:\n\nId: 2\nStamp: c\nOld: b\n\n%rec: Till\n%singular: Stamp\n\nStamp: a\n"

abbrev edits : Edit → ℕ → ℕ → Case
edits e k n = record { file = stamps; spare = 300; request = asks "Scan" e; number = k; length = n }

abbrev inserts : List Pair → ℕ → ℕ → Case
inserts ps k n = edits (Edit.insert ps) k n

abbrev adds : ℕ → String → String → ℕ → ℕ → Case
adds r m v k n = edits (Edit.on r (Act.add (pair m v))) k n

abbrev sets : ℕ → String → ℕ → String → ℕ → ℕ → Case
sets r m o v k n = edits (change r m o (Change.value (text v))) k n

abbrev renames : ℕ → String → ℕ → String → ℕ → ℕ → Case
renames r m o v k n = edits (change r m o (Change.name (text v))) k n

singular-edits : all holds (
    -- a second one in another record, in its own, in the new one; of an empty value; and in a field that its new name makes singular
    inserts (pair "Id" "3" ∷ pair "Stamp" "a" ∷ []) 130 164 ∷
    inserts (pair "Id" "3" ∷ pair "Roll" "" ∷ []) 130 164 ∷
    inserts (pair "Id" "3" ∷ pair "Stamp" "d" ∷ pair "Stamp" "d" ∷ []) 130 164 ∷
    adds 1 "Stamp" "b" 130 164 ∷
    adds 0 "Stamp" "b" 130 164 ∷
    sets 1 "Stamp" 0 "a" 130 164 ∷
    sets 0 "Stamp" 1 "a" 130 164 ∷
    renames 1 "Old" 0 "Stamp" 130 164 ∷
    -- earlier questions come first
    inserts (pair "Id" "2" ∷ pair "Stamp" "a" ∷ []) 113 164 ∷
    adds 0 "Id" "9" 111 164 ∷
    -- no second one: another value, another name, the same value again, blanks, another set
    inserts (pair "Id" "3" ∷ pair "Stamp" "d" ∷ pair "Roll" "a" ∷ []) 0 188 ∷
    adds 1 "Stamp" "a " 0 174 ∷
    adds 1 "Other" "a" 0 173 ∷
    sets 0 "Stamp" 0 "a" 0 164 ∷
    sets 0 "Stamp" 0 "d" 0 164 ∷
    renames 1 "Old" 0 "Roll" 0 165 ∷
    renames 1 "Stamp" 0 "Roll" 0 163 ∷
    edits (change 0 "Stamp" 0 Change.dropped) 0 155 ∷
    edits (Edit.on 0 Act.delete) 0 134 ∷ []) ≡ true
unfolding class_of bytes_of pieces read_of sets_of written file_of verdict_in verdict tagged request_of encoded plain_of length_of apply completed completed_by step check_answer edit_answer
singular-edits = refl
