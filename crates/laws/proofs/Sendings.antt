-- Computed examples of runs of requests: how a run is read, which are refused, and what a run leaves of a file that passes and of one that fails.
use Prim.Native.Nat.{ℕ, suc}
use Prim.Native.String.{String}
use mathlib.Core.Path.{◌≡◌, refl}
use mathlib.Core.Bool.{Bool, true, ◌&&◌}
use mathlib.Core.List.{List, [], ◌∷◌, ◌++◌}
use mathlib.Core.Option.{Option, none, some}
use lib.Dec.{eqb}
use lib.ListN.{length, replicate}
use Rattle.format.specs.Bytes.{Bytes, text, same, all}
use Rattle.format.specs.Pieces.{bytes_of, pieces, read_of}
use Rattle.format.specs.Sets.{sets_of}
use Rattle.format.specs.Questions.{file_of, verdict_in, verdict}
use Rattle.format.specs.Written.{Pair, written}
use Rattle.format.specs.Edits.{Act, Edit}
use Rattle.format.specs.Requests.{tagged, request_of, encoded, requests_in, run_bytes}
use Rattle.format.specs.Numbering.{completed}
use Rattle.format.specs.Plain.{plain_of, length_of, apply, completed_by, step}
use Rattle.format.specs.Calls.{number_in, value_or, edit_answer}
use Rattle.format.specs.Runs.{singly, Numbered, run_answer}

-- how a run is read: two requests, one of no bytes, a byte left over, a length that reaches past the end by one
pub read_told : (requests_in (0 ∷ 2 ∷ 7 ∷ 8 ∷ 0 ∷ 0 ∷ []) ≡ some ((7 ∷ 8 ∷ []) ∷ [] ∷ []))
    × (requests_in (0 ∷ 1 ∷ 7 ∷ 0 ∷ []) ≡ none)
    × (requests_in (0 ∷ 2 ∷ 7 ∷ []) ≡ none)
    × (requests_in (1 ∷ 0 ∷ replicate 256 5) ≡ some (replicate 256 5 ∷ []))
unfolding requests_in
read_told = (refl, refl, refl, refl)

-- a buffer, a run, what its answers were; and what it tells and leaves: number, length, answers, buffer
pub record Case : Type 0 where
  pub file : Bytes
  pub used : ℕ
  pub sends : Bytes
  pub before : List ℕ
  pub number : ℕ
  pub length : ℕ
  pub after : List ℕ
  pub left : Bytes

abbrev holds : Case → Bool
holds c =
    let a : Numbered = run_answer c.file c.used c.sends c.before in
    eqb (number_in a.result) c.number && eqb (value_or c.used a.result) c.length && same a.answers c.after && same a.out c.left

abbrev inserts : String → Bytes
inserts v = encoded (record { set = []; edit = Edit.insert (record { name = text "A"; value = text v } ∷ []) })

abbrev deletes : ℕ → Bytes
deletes j = encoded (record { set = []; edit = Edit.on j Act.delete })

abbrev shop : Bytes
shop = text "A: 1\n" ++ replicate 12 7

-- of the file of five bytes in the shop's buffer, and nothing changed
abbrev case : Bytes → List ℕ → ℕ → ℕ → List ℕ → Bytes → Case
case s old k n new left = record { file = shop; used = 5; sends = s; before = old; number = k; length = n; after = new; left = left }

abbrev same29 : Bytes → List ℕ → Case
same29 s old = case s old 29 5 old shop

abbrev cases : List Case
cases =
    case (run_bytes (inserts "2" ∷ [] ∷ deletes 7 ∷ deletes 0 ∷ inserts "34" ∷ [])) (9 ∷ 9 ∷ 9 ∷ 9 ∷ 9 ∷ 9 ∷ []) 0 13 (0 ∷ 20 ∷ 22 ∷ 0 ∷ 0 ∷ 9 ∷ []) (text "\nA: 2\n\nA: 34\n" ++ replicate 4 7) ∷
    case (run_bytes (inserts "2" ∷ inserts "3" ∷ inserts "4" ∷ [])) (9 ∷ 9 ∷ 9 ∷ []) 0 17 (0 ∷ 0 ∷ 26 ∷ []) (text "A: 1\n\nA: 2\n\nA: 3\n") ∷
    case [] [] 0 5 [] shop ∷
    case [] (9 ∷ []) 0 5 (9 ∷ []) shop ∷
    case (replicate 128 0) (replicate 65 9) 0 5 (replicate 64 20 ++ (9 ∷ [])) shop ∷
    same29 (replicate 130 0) (replicate 65 9) ∷
    same29 (run_bytes (inserts "2" ∷ deletes 0 ∷ [])) (9 ∷ []) ∷
    same29 (run_bytes (inserts "2" ∷ []) ++ (0 ∷ [])) (9 ∷ 9 ∷ []) ∷
    same29 (0 ∷ 1 ∷ []) (9 ∷ 9 ∷ []) ∷
    record { file = text "A\n"; used = 2; sends = run_bytes (inserts "2" ∷ [] ∷ []); before = 9 ∷ 9 ∷ 9 ∷ []; number = 0; length = 2; after = 3 ∷ 3 ∷ 9 ∷ []; left = text "A\n" } ∷
    record { file = text "A\n"; used = 2; sends = []; before = 9 ∷ []; number = 0; length = 2; after = 9 ∷ []; left = text "A\n" } ∷
    record { file = text "A\n"; used = 3; sends = []; before = []; number = 0; length = 3; after = []; left = text "A\n" } ∷
    record { file = text "A\n"; used = 3; sends = 0 ∷ 0 ∷ []; before = 9 ∷ []; number = 0; length = 3; after = 1 ∷ []; left = text "A\n" } ∷ []

pub sent-told : all holds cases ≡ true
unfolding pieces read_of sets_of file_of verdict_in verdict bytes_of written tagged request_of encoded requests_in plain_of length_of apply completed completed_by step edit_answer singly run_answer
sent-told = refl
