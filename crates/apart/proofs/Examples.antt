-- Computed examples: edits of two sets in either order, and that each hypothesis of the laws is needed.
use Prim.Native.Nat.{ℕ}
use Prim.Native.String.{String}
use mathlib.Core.Path.{◌≡◌, refl}
use mathlib.Core.Bool.{Bool, true, ◌&&◌}
use mathlib.Core.List.{List, [], ◌∷◌, ◌++◌, map}
use mathlib.Core.Option.{none, some}
use lib.IntN.{pos}
use lib.ListN.{length, replicate}
use Rattle.format.specs.Bytes.{Bytes, text, all, same}
use Rattle.format.specs.Pieces.{bytes_of, pieces, read_of}
use Rattle.format.specs.Sets.{sets_of}
use Rattle.format.specs.Questions.{file_of, verdict_in, verdict}
use Rattle.format.specs.Written.{written}
use Rattle.format.specs.Numbering.{decimal, completed}
use Rattle.format.specs.Edits.{Act, Edit}
use Rattle.format.specs.Requests.{tagged, request_of, encoded}
use Rattle.format.specs.Plain.{plain_of, length_of, apply, completed_by, step}
use Rattle.format.specs.Calls.{Answer, number_in, count_answer, Filled, fetch_answer, Viewed, view_answer, edit_answer}
use Rattle.format.proofs.Cases.{asks, pair}
use Rattle.totals.specs.Totals.{millionths_of, hundredths_of, Totalled, total_answer}
use Rattle.apart.specs.Naming.{set_named}
use Rattle.apart.specs.Leaving.{buffer_after, length_after, file_after}

-- A file with a default set without records, a set whose records are numbered, and a third with a singular name.

abbrev rules : Bytes
rules = text "%rec: R\n%key: Id\n%type: Id int\n%auto: Id\n"

abbrev seventh : Bytes
seventh = text "\nId: 7\nSum: 1.5\n"

abbrev warranty : Bytes
warranty = text "\n%rec: W\n%auto: Id\n%singular: Code\n\n# first\nId: 3\nCode: x\n"

abbrev sheet : Bytes
sheet = rules ++ seventh ++ warranty

-- in a buffer with so many bytes behind it
abbrev room : ℕ → Bytes
room n = sheet ++ replicate n 170

abbrev used : ℕ
used = length sheet

-- inserts into each set, and a delete
abbrev inserts : String → String → String → Bytes
inserts set name value = asks set (Edit.insert (pair name value ∷ []))

abbrev to_default : Bytes
to_default = inserts "" "Note" "n"

abbrev to_w : Bytes
to_w = inserts "W" "Code" "y"

abbrev leave_r : Bytes
leave_r = asks "R" (Edit.on 0 Act.delete)

-- two requests one after the other, in a buffer with so much space: the number of each, and the file that they leave
pub record Two : Type 0 where
  pub spare : ℕ
  pub first : Bytes
  pub second : Bytes
  pub numbers : List ℕ
  pub file : Bytes

abbrev holds : Two → Bool
holds x =
    let b : Bytes = room x.spare in
    let c : Bytes = buffer_after b used x.first in
    let n : ℕ = length_after b used x.first in
    same (number_in (edit_answer b used x.first).result ∷ number_in (edit_answer c n x.second).result ∷ []) x.numbers && same (file_after c n x.second) x.file

abbrev asked : ℕ → Bytes → Bytes → ℕ → ℕ → Bytes → Two
asked spare q r j k file = record { spare = spare; first = q; second = r; numbers = j ∷ k ∷ []; file = file }

abbrev leaves : Bytes → Bytes → Bytes → Two
leaves q r file = asked 60 q r 0 0 file

-- two sets: the same file in either order, with the numbers that they get; also in front of the file, and where another set has a value that is singular in its own
abbrev two_sets : List Two
two_sets =
    let second : Bytes = text "\nId: 8\nSum: 2\n" in
    let fourth : Bytes = text "\nId: 4\nCode: y\n" in
    let note : Bytes = text "Note: n\n\n" in
    leaves to_default (inserts "R" "Sum" "2") (note ++ rules ++ seventh ++ second ++ warranty) ∷
    leaves (inserts "R" "Sum" "2") to_default (note ++ rules ++ seventh ++ second ++ warranty) ∷
    leaves to_w (inserts "R" "Sum" "2") (rules ++ seventh ++ second ++ warranty ++ fourth) ∷
    leaves (inserts "R" "Sum" "2") to_w (rules ++ seventh ++ second ++ warranty ++ fourth) ∷
    leaves to_w (inserts "R" "Code" "y") (rules ++ seventh ++ text "\nId: 8\nCode: y\n" ++ warranty ++ fourth) ∷
    leaves (inserts "R" "Code" "y") to_w (rules ++ seventh ++ text "\nId: 8\nCode: y\n" ++ warranty ++ fourth) ∷
    leaves to_default leave_r (note ++ rules ++ text "\n" ++ warranty) ∷
    leaves leave_r to_default (note ++ rules ++ text "\n" ++ warranty) ∷ []

-- one set: accepted in both orders, and not alike
abbrev one_set : List Two
one_set =
    leaves (inserts "R" "Sum" "2") (inserts "R" "Sum" "3") (rules ++ seventh ++ text "\nId: 8\nSum: 2\n\nId: 9\nSum: 3\n" ++ warranty) ∷
    leaves (inserts "R" "Sum" "3") (inserts "R" "Sum" "2") (rules ++ seventh ++ text "\nId: 8\nSum: 3\n\nId: 9\nSum: 2\n" ++ warranty) ∷ []

-- refused in one order: the insert needs the space that the delete frees. The other order leaves the file that the delete alone leaves.
abbrev refused_once : List Two
refused_once =
    asked 0 leave_r to_w 0 0 (rules ++ text "\n" ++ warranty ++ text "\nId: 4\nCode: y\n") ∷
    asked 0 to_w leave_r 26 0 (rules ++ text "\n" ++ warranty) ∷ []

-- no request: refused, and the other is as if it were alone
abbrev no_request : List Two
no_request =
    asked 60 [] to_w 20 0 (rules ++ seventh ++ warranty ++ text "\nId: 4\nCode: y\n") ∷
    asked 60 to_w [] 0 20 (rules ++ seventh ++ warranty ++ text "\nId: 4\nCode: y\n") ∷
    asked 60 (1 ∷ 0 ∷ []) (2 ∷ 0 ∷ 1 ∷ 82 ∷ []) 20 20 sheet ∷ []

pub two-edits : all holds (two_sets ++ one_set ++ refused_once ++ no_request) ≡ true
unfolding bytes_of pieces read_of sets_of written file_of verdict_in verdict tagged request_of encoded plain_of length_of apply decimal completed completed_by step edit_answer
two-edits = refl

-- which set a request names
pub names : map set_named (to_default ∷ to_w ∷ leave_r ∷ [] ∷ (1 ∷ 0 ∷ []) ∷ []) ≡ some [] ∷ some (text "W") ∷ some (text "R") ∷ none ∷ none ∷ []
unfolding tagged request_of encoded
names = refl

-- What calls answer before an insert into R and after it: its own answers move, so the hypothesis is needed; those of another set stay, but for the place of a view.

pub record Looked : Type 0 where
  pub count : Answer
  pub fetched : Filled
  pub viewed : Viewed
  pub total : Totalled

abbrev looked : Bytes → ℕ → String → ℕ → String → Looked
looked b u set row name = record {
  count = count_answer b u (text set);
  fetched = fetch_answer b u (text set) row (text name) 0 (text "....");
  viewed = view_answer b u (text set) row;
  total = total_answer b u (text set) (text name);
}

abbrev before : String → ℕ → String → Looked
before set row name = looked (room 60) used set row name

abbrev after : String → ℕ → String → Looked
after set row name = let q : Bytes = inserts "R" "Sum" "2" in looked (buffer_after (room 60) used q) (length_after (room 60) used q) set row name

abbrev no : ℕ → Answer
no k = Answer.refusal k

pub own-before : before "R" 1 "Sum" ≡ record { count = Answer.value 1; fetched = record { result = no 22; out = text "...." }; viewed = record { result = no 22; part = [] }; total = Totalled.value (record { hundredths = pos 150; millionths = pos 1500000; number = 1 }) }
unfolding bytes_of pieces read_of sets_of file_of verdict_in verdict count_answer fetch_answer view_answer millionths_of hundredths_of total_answer
own-before = refl

pub own-after : after "R" 1 "Sum" ≡ record { count = Answer.value 2; fetched = record { result = Answer.value 1; out = text "2..." }; viewed = record { result = Answer.value 58; part = text "Id: 8\nSum: 2\n" }; total = Totalled.value (record { hundredths = pos 350; millionths = pos 3500000; number = 2 }) }
unfolding bytes_of pieces read_of sets_of written file_of verdict_in verdict tagged request_of encoded plain_of length_of apply decimal completed completed_by step edit_answer count_answer fetch_answer view_answer millionths_of hundredths_of total_answer
own-after = refl

pub other-before : before "W" 0 "Code" ≡ record { count = Answer.value 1; fetched = record { result = Answer.value 1; out = text "x..." }; viewed = record { result = Answer.value 101; part = text "Id: 3\nCode: x\n" }; total = Totalled.refusal 32 }
unfolding bytes_of pieces read_of sets_of file_of verdict_in verdict count_answer fetch_answer view_answer millionths_of hundredths_of total_answer
other-before = refl

pub other_after : after "W" 0 "Code" ≡ record { count = Answer.value 1; fetched = record { result = Answer.value 1; out = text "x..." }; viewed = record { result = Answer.value 115; part = text "Id: 3\nCode: x\n" }; total = Totalled.refusal 32 }
unfolding bytes_of pieces read_of sets_of written file_of verdict_in verdict tagged request_of encoded plain_of length_of apply decimal completed completed_by step edit_answer count_answer fetch_answer view_answer millionths_of hundredths_of total_answer
other_after = refl
