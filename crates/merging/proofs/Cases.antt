-- Computed merges: each point of order 12, and what the laws suppose.
use Prim.Native.Nat.{ℕ, ◌+◌, ◌-◌}
use mathlib.Core.Path.{◌≡◌, refl}
use mathlib.Core.Bool.{Bool, true, false, ◌&&◌}
use mathlib.Core.List.{List, [], ◌∷◌, ◌++◌, map}
use Prim.Native.String.{String}
use lib.Dec.{eqb, leb}
use lib.ListN.{length, take, replicate}
use borrow.Author.Tests.{leb-true}
use Rattle.format.specs.Bytes.{Bytes, text, class_of, all, same}
use Rattle.format.specs.Lists.{flat}
use Rattle.format.specs.Pieces.{bytes_of, pieces, read_of}
use Rattle.format.specs.Sets.{sets_of}
use Rattle.format.specs.Written.{written}
use Rattle.format.specs.Questions.{file_of, verdict_in, verdict}
use Rattle.format.specs.Requests.{tagged, request_of, encoded}
use Rattle.format.specs.Numbering.{completed, decimal}
use Rattle.format.specs.Plain.{Plain, plain_of, length_of, apply, completed_by, step}
use Rattle.format.specs.Calls.{Answer, number_in, value_or, Filled, edit_answer}
use Rattle.merging.specs.Merging.{SpareRecord, records_of, records_answer, merge_answer}
use Rattle.merging.specs.Appending.{is_skipped_by_key, is_lasting, with_inserts, left_by, sets_no, accepted_count, halving}
use Rattle.merging.proofs.Falling.{AllGranted, passes_after}
use Rattle.merging.proofs.Granting.{granted-by-parts}

-- a main file and so many bytes behind it, a spare, the number told, and the file afterwards
record Case : Type 0 where
  main : String
  room : ℕ
  spare : String
  number : ℕ
  after : String

abbrev book : String
book = "%rec: Scan\n%key: Id\n%prohibit: No\n\nId: 1\nPage: a\n"

abbrev behind : ℕ → Bytes
behind n = replicate n 170

abbrev holds : Case → Bool
holds c =
    let used : ℕ = length (text c.main) in
    let a : Filled = merge_answer (text c.main ++ behind c.room) used (text c.spare) (length (text c.spare)) in
    let n : ℕ = length (text c.after) in
    eqb (number_in a.result) c.number && eqb (value_or used a.result) n && same a.out (text c.after ++ behind ((used + c.room) - n))

abbrev into : ℕ → String → ℕ → String → Case
into room spare number after = record { main = book; room = room; spare = spare; number = number; after = after }

merges : all holds (
    -- two records; the spare's own rules and comments have no effect
    into 40 "# spare\n%rec: Scan\n%key: Other\n\nId: 2\nOther: x\n\nId: 3\nOther: y\n" 0 "%rec: Scan\n%key: Id\n%prohibit: No\n\nId: 1\nPage: a\n\nId: 2\nOther: x\n\nId: 3\nOther: y\n" ∷
    -- a spare without records
    into 0 "%rec: Scan\n" 0 book ∷
    -- a twin, where there is no room for it
    into 0 "%rec: Scan\n\nId: 1\nPage: a\n" 0 book ∷
    -- twins within the spare
    into 20 "%rec: Scan\n\nId: 2\n\nId: 2\n" 0 "%rec: Scan\n%key: Id\n%prohibit: No\n\nId: 1\nPage: a\n\nId: 2\n" ∷
    -- the key is there with other values, or with the same fields in another order
    into 40 "%rec: Scan\n\nId: 1\nPage: b\n" 113 book ∷
    into 40 "%rec: Scan\n\nPage: a\nId: 1\n" 113 book ∷
    -- the first refused insert's number, where the whole has another: a key that is there and a prohibited name, in both orders
    into 40 "%rec: Scan\n\nId: 2\n\nId: 1\n\nId: 3\nNo: x\n" 113 book ∷
    into 40 "%rec: Scan\n\nId: 3\nNo: x\n\nId: 1\n" 108 book ∷
    -- a spare that fails; one with a set that the main file lacks and no record in it
    into 40 "%rec: Scan\n%key: Id\n\nPage: b\n" 35 book ∷
    into 40 "%rec: Sale\n" 36 book ∷
    into 40 "%rec: Sale\n%key: Id\n\nPage: b\n" 35 book ∷
    -- the spare's order of sets, where the main file's is another
    record { main = "%rec: A\n%prohibit: No\n\n%rec: B\n%key: K\n\nK: 1\n"; room = 40; spare = "%rec: B\n\nK: 1\nX: y\n\n%rec: A\n\nNo: x\n"; number = 113; after = "%rec: A\n%prohibit: No\n\n%rec: B\n%key: K\n\nK: 1\n" } ∷
    -- room for one of two
    into 8 "%rec: Scan\n\nId: 2\n\nId: 3\n" 26 book ∷
    -- a value of joined lines that ends in a backslash
    into 40 "%rec: Scan\n\nId: a\\\\\n\n" 25 book ∷
    -- a main file that fails, whatever the spare
    record { main = "%rec: A\n%key: K\n\nB: c\n"; room = 40; spare = "x"; number = 10; after = "%rec: A\n%key: K\n\nB: c\n" } ∷
    -- the same record in a set without a key
    record { main = "A: b\n"; room = 20; spare = "A: b\n"; number = 0; after = "A: b\n\nA: b\n" } ∷
    -- a record that is to get a number is compared without it
    record { main = "%rec: A\n%key: K\n%type: K int\n%auto: K\n\nK: 0\nB: c\n"; room = 20; spare = "%rec: A\n\nB: c\n"; number = 0; after = "%rec: A\n%key: K\n%type: K int\n%auto: K\n\nK: 0\nB: c\n\nK: 1\nB: c\n" } ∷ []) ≡ true
unfolding class_of bytes_of pieces read_of sets_of written file_of verdict_in verdict tagged request_of encoded plain_of length_of apply completed decimal completed_by step edit_answer merge_answer records_answer
merges = refl

-- 256 fields of 255 bytes fit as text, and make a request over 65,536 bytes
abbrev long : Bytes
long = flat (replicate 256 (text "A: " ++ (replicate 251 97 ++ (10 ∷ []))))

too_long : number_in (merge_answer (replicate 65536 170) 0 long (length long)).result ≡ 20
unfolding class_of bytes_of pieces read_of sets_of written file_of verdict_in verdict tagged request_of encoded plain_of length_of apply completed decimal completed_by step edit_answer merge_answer records_answer
too_long = refl

-- halving finds every place
halves : map (λ (last : ℕ). halving 3 (λ (k : ℕ). leb k last) 0 8) (0 ∷ 1 ∷ 2 ∷ 3 ∷ 4 ∷ 5 ∷ 6 ∷ 7 ∷ []) ≡ 0 ∷ 1 ∷ 2 ∷ 3 ∷ 4 ∷ 5 ∷ 6 ∷ 7 ∷ []
halves = refl

-- three records are left; the second is refused with 13, and the whole has 8
abbrev main : Plain
main = plain_of (read_of (text book))

abbrev spare : List SpareRecord
spare = records_of (sets_of (read_of (text "%rec: Scan\n\nId: 2\n\nId: 1\nPage: a\n\nId: 1\n\nId: 3\nNo: x\n")))

abbrev left : List SpareRecord
left = left_by is_skipped_by_key spare main

halved : (length left ≡ 3) × (halving 2 (passes_after left main) 0 3 ≡ 1) × (accepted_count 100 left main ≡ 1) × (sets_no (with_inserts (take 2 left) main) ≡ 13) × (sets_no (with_inserts left main) ≡ 8)
unfolding class_of bytes_of pieces read_of sets_of written tagged request_of encoded plain_of length_of apply completed decimal completed_by step accepted_count
halved = (refl, refl, refl, refl, refl)

let-in : AllGranted 100 left main
unfolding class_of bytes_of pieces read_of sets_of written tagged request_of encoded plain_of length_of apply completed decimal completed_by
let-in =
    granted-by-parts 100 left main (record { reads = refl; legal = refl; there = refl }, (record { reads = refl; legal = refl; there = refl }, (record { reads = refl; legal = refl; there = refl }, tt)))
    (refl, (refl, (refl, tt))) (leb-true (length_of (with_inserts left main)) 100 refl) (leb-true (length_of (with_inserts left main)) 65536 refl)

-- lasting records, and one that is to get a number
settled : (all (λ (x : SpareRecord). is_lasting x main.sets) spare ≡ true) × (is_lasting (record { set = text "A"; pairs = record { name = text "B"; value = text "c" } ∷ [] }) (plain_of (read_of (text "%rec: A\n%key: K\n%type: K int\n%auto: K\n"))).sets ≡ false)
unfolding class_of pieces read_of sets_of plain_of
settled = (refl, refl)

abbrev two : Bytes
two = text "%rec: Scan\n\nId: 2\n\nId: 1\nPage: a\n"

again : (let a : Filled = merge_answer (text book ++ behind 40) 49 two 33 in merge_answer a.out (value_or 0 a.result) two 33) ≡ record { result = Answer.value 56; out = text book ++ (text "\nId: 2\n" ++ behind 33) }
unfolding class_of bytes_of pieces read_of sets_of written file_of verdict_in verdict tagged request_of encoded plain_of length_of apply completed decimal completed_by step edit_answer merge_answer records_answer
again = refl
