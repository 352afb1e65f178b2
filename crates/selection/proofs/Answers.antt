-- Computed: what the call answers, and the list behind it.
use Prim.Native.Nat.{ℕ}
use mathlib.Core.Path.{◌≡◌, refl}
use mathlib.Core.List.{List, [], ◌∷◌, map}
use lib.ListN.{length}
use Rattle.format.specs.Bytes.{Bytes, text}
use Rattle.format.specs.Pieces.{pieces, read_of}
use Rattle.format.specs.Sets.{sets_of}
use Rattle.format.specs.Questions.{file_of, verdict_in, verdict}
use Rattle.format.specs.Calls.{Answer}
use Rattle.selection.specs.Reading.{parts_of, read_expression}
use Rattle.selection.specs.Meaning.{holds}
use Rattle.selection.specs.Found.{Listed, find_answer}

abbrev file : Bytes
file = text "%rec: R\n\na: 1\nb: x\n\na: 2\n\nb: y\n"

abbrev full : List ℕ
full = 7 ∷ 7 ∷ 7 ∷ []

abbrev listing : ℕ → List ℕ → Listed
listing n list = record { result = Answer.value n; list = list }

abbrev refusing : ℕ → Listed
refusing k = record { result = Answer.refusal k; list = full }

-- `!`, `&&` and `||`; `!=` where the field is missing; none found
finds : map (λ (e : Bytes). find_answer file (length file) (text "R") e full) (text "a=1" ∷ text "!a=1" ∷ text "!(a=1 && b='x')" ∷ text "!a=1 || !b='x'" ∷ text "a!=1" ∷ text "a=3" ∷ [])
    ≡ listing 1 (0 ∷ 7 ∷ 7 ∷ []) ∷ listing 2 (1 ∷ 2 ∷ 7 ∷ []) ∷ listing 2 (1 ∷ 2 ∷ 7 ∷ []) ∷ listing 2 (1 ∷ 2 ∷ 7 ∷ []) ∷ listing 1 (1 ∷ 7 ∷ 7 ∷ []) ∷ listing 0 full ∷ []
unfolding pieces read_of sets_of file_of verdict_in verdict find_answer parts_of read_expression holds
finds = refl

-- the file's numbers, 21, 33, in this order
refuses : find_answer file 0 (text "S") (text "a=") full ∷ find_answer file 99 (text "S") (text "a=") full ∷ find_answer file (length file) (text "S") (text "a=") full ∷ find_answer file (length file) (text "R") (text "a=") full ∷ []
    ≡ refusing 21 ∷ refusing 1 ∷ refusing 21 ∷ refusing 33 ∷ []
unfolding pieces read_of sets_of file_of verdict_in verdict find_answer parts_of read_expression
refuses = refl

-- 34, and a list of no entries that none are found for
narrow : find_answer file (length file) (text "R") (text "!a=1") (7 ∷ []) ∷ find_answer file (length file) (text "R") (text "a=3") [] ∷ []
    ≡ record { result = Answer.refusal 34; list = 7 ∷ [] } ∷ listing 0 [] ∷ []
unfolding pieces read_of sets_of file_of verdict_in verdict find_answer parts_of read_expression holds
narrow = refl
