-- Computed examples of the directory of sets: comments and blank lines around blocks, sets without records, lists too short, and calls given a list.
use Prim.Native.Nat.{ℕ}
use Prim.Native.String.{String}
use mathlib.Core.Path.{◌≡◌, refl}
use mathlib.Core.Bool.{Bool, true, false, ◌&&◌}
use mathlib.Core.List.{List, [], ◌∷◌, ◌++◌, map}
use lib.Dec.{eqb}
use lib.ListN.{length}
use Rattle.format.specs.Bytes.{Bytes, text, all}
use Rattle.format.specs.Pieces.{bytes_of, pieces, read_of}
use Rattle.format.specs.Sets.{sets_of}
use Rattle.format.specs.Questions.{file_of, verdict_in, verdict}
use Rattle.format.specs.Written.{written}
use Rattle.format.specs.Edits.{Act, Edit}
use Rattle.format.specs.Requests.{tagged, request_of, encoded}
use Rattle.format.specs.Numbering.{completed}
use Rattle.format.specs.Plain.{plain_of, length_of, apply, completed_by, step}
use Rattle.format.specs.Calls.{Answer, number_in, value_or}
use Rattle.format.specs.Directory.{directory_of, Listed, fill_answer, listed_step, listed_answer, Kept, kept_answer, count_at_answer}
use Rattle.format.specs.declared.Entry.{Entry}

abbrev entry : ℕ → ℕ → ℕ → Entry
entry p c e = record { place = p; count = c; end = e }

abbrev alike : List Entry → List Entry → Bool
alike [] [] = true
alike [] (y ∷ ys) = false
alike (x ∷ xs) [] = false
alike (x ∷ xs) (y ∷ ys) = eqb x.place y.place && eqb x.count y.count && eqb x.end y.end && alike xs ys

-- what stood in a list before
abbrev old : Entry
old = entry 9 9 9

-- a file, a list of so many entries, and what filling it answers: number, value, entries
pub record Case : Type 0 where
  pub file : String
  pub before : List Entry
  pub number : ℕ
  pub value : ℕ
  pub after : List Entry

abbrev holds : Case → Bool
holds c =
    let s : Bytes = text c.file in
    let l : Listed = fill_answer s (length s) c.before in
    eqb (number_in l.result) c.number && eqb (value_or 0 l.result) c.value && alike l.entries c.after

-- filled, and two entries behind the last set stay
abbrev fills : String → List Entry → Case
fills s es = record { file = s; before = map (λ (e : Entry). old) es ++ (old ∷ old ∷ []); number = 0; value = length es; after = es ++ (old ∷ old ∷ []) }

abbrev stops : String → List Entry → ℕ → Case
stops s es k = record { file = s; before = es; number = k; value = 0; after = es }

-- a file of four sets, the second and the last with records
abbrev shop : String
shop = "%rec: A\n\nX: 1\n\nX: 2\n\n%rec: B\n\n\n# c\n# d\n%rec: C\n\nY: 3\n"

abbrev cases : List Case
cases =
    fills "" (entry 0 0 0 ∷ []) ∷
    fills "\n" (entry 0 0 0 ∷ []) ∷
    fills "# c\n" (entry 0 0 0 ∷ []) ∷
    fills "A: 1\n" (entry 0 1 5 ∷ []) ∷
    fills "\n\nA: 1\n# t\n\n# u\n" (entry 0 1 11 ∷ []) ∷
    fills "%rec: A\n" (entry 0 0 0 ∷ entry 0 0 8 ∷ []) ∷
    fills "# n\n%rec: A\n# i\n\n# l\n" (entry 0 0 0 ∷ entry 0 0 16 ∷ []) ∷
    fills "# h\n\nA: 1\n\n# n\n%rec: B\n%key: Id\n# i\n\n# l\n\nId: 1\n# t\n\n# e\n" (entry 0 1 10 ∷ entry 11 1 52 ∷ []) ∷
    fills "A: 1\\\n\nB: 2\n\n%rec: Z\n\n \t\nA: \\\n\n\nC: 4\n" (entry 0 1 12 ∷ entry 13 2 37 ∷ []) ∷
    fills shop (entry 0 0 0 ∷ entry 0 2 20 ∷ entry 21 0 29 ∷ entry 31 1 53 ∷ []) ∷
    stops "" [] 28 ∷
    stops "%rec: A\n" (old ∷ []) 28 ∷
    stops shop (old ∷ old ∷ old ∷ []) 28 ∷
    stops "A\n" (old ∷ []) 3 ∷
    stops "%rec: A\n\n%rec: A\n" (old ∷ []) 6 ∷ []

pub filled-told : all holds cases ≡ true
unfolding pieces read_of sets_of file_of verdict_in verdict bytes_of directory_of fill_answer
filled-told = refl

-- an edit given the list: a delete, a request of no form, and the same with a list too short
pub record Given : Type 0 where
  pub request : Bytes
  pub before : List Entry
  pub number : ℕ
  pub after : List Entry

abbrev keeps : Given → Bool
keeps g =
    let s : Bytes = text shop in
    let k : Kept = kept_answer s (length s) g.request g.before in
    eqb (number_in k.result) g.number && alike k.entries g.after

abbrev deletes : ℕ → Bytes
deletes j = encoded (record { set = text "A"; edit = Edit.on j Act.delete })

abbrev givens : List Given
givens =
    record { request = deletes 0; before = old ∷ old ∷ old ∷ old ∷ old ∷ []; number = 0; after = entry 0 0 0 ∷ entry 0 1 15 ∷ entry 16 0 24 ∷ entry 26 1 48 ∷ entry 9 9 9 ∷ [] } ∷
    record { request = deletes 5; before = old ∷ old ∷ old ∷ old ∷ old ∷ []; number = 22; after = entry 0 0 0 ∷ entry 0 2 20 ∷ entry 21 0 29 ∷ entry 31 1 53 ∷ entry 9 9 9 ∷ [] } ∷
    record { request = []; before = old ∷ old ∷ old ∷ old ∷ old ∷ []; number = 20; after = entry 0 0 0 ∷ entry 0 2 20 ∷ entry 21 0 29 ∷ entry 31 1 53 ∷ entry 9 9 9 ∷ [] } ∷
    record { request = deletes 0; before = old ∷ old ∷ old ∷ []; number = 28; after = entry 9 9 9 ∷ entry 9 9 9 ∷ entry 9 9 9 ∷ [] } ∷
    record { request = []; before = old ∷ old ∷ old ∷ []; number = 28; after = entry 9 9 9 ∷ entry 9 9 9 ∷ entry 9 9 9 ∷ [] } ∷ []

pub kept-told : all keeps givens ≡ true
unfolding pieces read_of sets_of file_of verdict_in verdict bytes_of written tagged request_of encoded plain_of length_of apply completed completed_by step directory_of fill_answer listed_step listed_answer kept_answer
kept-told = refl

-- the count at a position, and past the list's end
counts-told : (count_at_answer (entry 0 3 4 ∷ entry 5 7 9 ∷ []) 1 ≡ Answer.value 7) × (count_at_answer (entry 0 3 4 ∷ entry 5 7 9 ∷ []) 2 ≡ Answer.refusal 21)
unfolding count_at_answer
counts-told = (refl, refl)
