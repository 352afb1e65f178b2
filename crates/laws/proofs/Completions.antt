-- Computed examples of inserts into a set with `%auto` lists: the whole file after each, or its number.
use Prim.Native.Nat.{ℕ}
use Prim.Native.String.{String}
use mathlib.Core.Path.{◌≡◌, refl}
use mathlib.Core.Bool.{Bool, true, ◌&&◌}
use mathlib.Core.List.{List, [], ◌∷◌, ◌++◌}
use lib.Dec.{eqb}
use lib.ListN.{length, take, replicate}
use Rattle.format.specs.Bytes.{Bytes, text, class_of, same, all}
use Rattle.format.specs.Pieces.{bytes_of, pieces, read_of}
use Rattle.format.specs.Sets.{sets_of}
use Rattle.format.specs.Questions.{file_of, verdict_in, verdict}
use Rattle.format.specs.Written.{Pair, written}
use Rattle.format.specs.Edits.{Edit}
use Rattle.format.specs.Requests.{tagged, request_of, encoded}
use Rattle.format.specs.Numbering.{decimal, completed}
use Rattle.format.specs.Plain.{plain_of, length_of, apply, completed_by, step}
use Rattle.format.specs.Calls.{number_in, value_or, Filled, edit_answer}
use Rattle.format.proofs.Cases.{asks, pair}

-- a file, so many bytes behind it in the buffer, the pairs of an insert into its set Scan, the number of the answer and the file after it
pub record Inserted : Type 0 where
  pub file : Bytes
  pub spare : ℕ
  pub new : List Pair
  pub number : ℕ
  pub after : Bytes

abbrev holds : Inserted → Bool
holds c =
    let a : Filled = edit_answer (c.file ++ replicate c.spare 0) (length c.file) (asks "Scan" (Edit.insert c.new)) in
    eqb (number_in a.result) c.number && same (take (value_or (length c.file) a.result) a.out) c.after

-- accepted, with what is written behind the file; and refused
abbrev adds : Bytes → ℕ → List Pair → String → Inserted
adds file spare new t = record { file = file; spare = spare; new = new; number = 0; after = file ++ text t }

abbrev refuses : Bytes → ℕ → List Pair → ℕ → Inserted
refuses file spare new k = record { file = file; spare = spare; new = new; number = k; after = file }

-- two lists, the second with a name again; No has one number left
abbrev book : Bytes
book = text "%rec: Scan\n%key: Id\n%auto: Id No\n%auto: No Id\n%type: Id int\n%type: No range 5 7\n%mandatory: Page\n%prohibit: Old\n\nId: 0x10\nNo: 6\nPage: a\n\nId: -1\nPage: b\n"

-- No has none left
abbrev full : Bytes
full = book ++ text "\nId: 17\nNo: 7\nPage: c\n"

-- a listed name of 65 bytes, and lists whose names may not occur
abbrev long : Bytes
long = text "%rec: Scan\n%auto: AAAAAAAAAAAAAAAAAAAAAAAAAAAAAAAAAAAAAAAAAAAAAAAAAAAAAAAAAAAAAAAAA\n"

abbrev forbidden : String → Bytes
forbidden rule = text "%rec: Scan\n%auto: Id\n" ++ text rule

numbered-inserts : all holds (
    adds book 30 (pair "Page" "p" ∷ []) "\nId: 17\nNo: 7\nPage: p\n" ∷
    adds book 40 (pair "Page" "p" ∷ pair "Id" "3" ∷ []) "\nNo: 7\nPage: p\nId: 3\n" ∷
    adds book 40 (pair "No" "6" ∷ pair "Page" "p" ∷ []) "\nId: 17\nNo: 6\nPage: p\n" ∷
    adds book 22 (pair "Page" "p" ∷ []) "\nId: 17\nNo: 7\nPage: p\n" ∷
    adds full 40 (pair "No" "5" ∷ pair "Page" "p" ∷ []) "\nId: 18\nNo: 5\nPage: p\n" ∷
    -- 25 comes before 31, and that before 26 and all others
    refuses full 0 (pair "Page" "p\\" ∷ []) 25 ∷
    refuses full 0 (pair "Page" "p" ∷ []) 31 ∷
    refuses full 40 (pair "Old" "x" ∷ []) 31 ∷
    refuses book 21 (pair "Page" "p" ∷ []) 26 ∷
    refuses book 40 (pair "Old" "x" ∷ pair "Page" "p" ∷ []) 108 ∷
    refuses book 40 (pair "Note" "x" ∷ []) 110 ∷
    refuses book 40 (pair "Page" "p" ∷ pair "Id" "0x10" ∷ []) 113 ∷
    -- a name over 64 bytes
    refuses long 99 (pair "A" "x" ∷ []) 104 ∷
    refuses long 73 (pair "A" "x" ∷ []) 26 ∷
    -- an added name is asked like any other
    refuses (forbidden "%prohibit: Id\n") 40 (pair "A" "x" ∷ []) 108 ∷
    refuses (forbidden "%allowed: A\n") 40 (pair "A" "x" ∷ []) 109 ∷
    adds (forbidden "%mandatory: Id\n") 40 (pair "A" "x" ∷ []) "\nId: 0\nA: x\n" ∷
    adds (forbidden "%key: Id\n%singular: Id\n") 40 (pair "A" "x" ∷ []) "\nId: 0\nA: x\n" ∷ []) ≡ true
unfolding class_of bytes_of pieces read_of sets_of written file_of verdict_in verdict tagged request_of encoded plain_of length_of apply decimal completed completed_by step edit_answer
numbered-inserts = refl
