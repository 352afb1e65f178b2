-- The marked cases (a) to (l) of document 01, as one table about the definitions.
use Prim.Native.Nat.{ℕ}
use mathlib.Core.Path.{◌≡◌, refl}
use mathlib.Core.Bool.{Bool, true, ◌&&◌}
use mathlib.Core.List.{List, [], ◌∷◌, ◌++◌}
use Prim.Native.String.{String}
use lib.Dec.{eqb}
use lib.ListN.{length, replicate}
use Rattle.format.specs.Bytes.{Bytes, text, class_of, all}
use Rattle.format.specs.Pieces.{bytes_of, pieces, read_of}
use Rattle.format.specs.Sets.{sets_of}
use Rattle.format.specs.Questions.{file_of, verdict_in, verdict}
use Rattle.format.specs.Written.{Pair, written}
use Rattle.format.specs.Edits.{Change, Act, Edit}
use Rattle.format.specs.Requests.{tagged, request_of, encoded}
use Rattle.format.specs.Numbering.{completed}
use Rattle.format.specs.Plain.{plain_of, length_of, apply, completed_by, step}
use Rattle.format.specs.Calls.{number_in, value_or, Filled, check_answer, edit_answer}

-- "One receipt book"
abbrev pub book : Bytes
book = text "%rec: Scan\n%key: Id\n%type: Id int\n%mandatory: Page\n%size: <= 3\n\nId: 1\nPage: front\n# folded corner\nPage: back\n"

-- requests by their words
abbrev pub asks : String → Edit → Bytes
asks set e = encoded (record { set = text set; edit = e })

abbrev pub pair : String → String → Pair
pair n v = record { name = text n; value = text v }

abbrev pub change : ℕ → String → ℕ → Change → Edit
change r n o c = Edit.on r (Act.change (text n) o c)

-- a file in a buffer: `spare` bytes stand behind it
pub record Case : Type 0 where
  pub file : Bytes
  pub spare : ℕ
  pub request : Bytes
  pub number : ℕ
  pub length : ℕ

abbrev pub buffer : Case → Bytes
buffer c = c.file ++ replicate c.spare 170

-- the file passes, and the edit answers that number and that length
abbrev pub answers : Filled → ℕ → ℕ → ℕ → Bool
answers a used k n = eqb (number_in a.result) k && eqb (value_or used a.result) n

abbrev pub holds : Case → Bool
holds c = eqb (check_answer (buffer c) (length c.file)) 0 && answers (edit_answer (buffer c) (length c.file) c.request) (length c.file) c.number c.length

abbrev on : ℕ → Bytes → ℕ → ℕ → Case
on spare request k n = record { file = book; spare = spare; request = request; number = k; length = n }

abbrev large : ℕ
large = 300

abbrev pub cases : List Case
cases =
    -- (a) passes, and so an empty request has only its form against it
    on large [] 20 109 ∷
    -- (b) insert Id 2, Page p
    on large (asks "Scan" (Edit.insert (pair "Id" "2" ∷ pair "Page" "p" ∷ []))) 0 124 ∷
    -- (c) Id 1, Page p
    on large (asks "Scan" (Edit.insert (pair "Id" "1" ∷ pair "Page" "p" ∷ []))) 113 109 ∷
    -- (d) Page p alone
    on large (asks "Scan" (Edit.insert (pair "Page" "p" ∷ []))) 110 109 ∷
    -- (e) drop Page 1
    on large (asks "Scan" (change 0 "Page" 1 Change.dropped)) 0 98 ∷
    -- (f) delete 0
    on large (0x01 ∷ 0x00 ∷ 0x01 ∷ 0x02 ∷ 0x02 ∷ 0x00 ∷ 0x04 ∷ 0x53 ∷ 0x63 ∷ 0x61 ∷ 0x6E ∷ 0x03 ∷ 0x00 ∷ 0x02 ∷ 0x00 ∷ 0x00 ∷ []) 0 80 ∷
    -- (g) set Id 0 to `08`
    on large (asks "Scan" (change 0 "Id" 0 (Change.value (text "08")))) 112 109 ∷
    -- (h) to `010`
    on large (asks "Scan" (change 0 "Id" 0 (Change.value (text "010")))) 0 111 ∷
    -- (i) rename Page 0 to Id
    on large (asks "Scan" (change 0 "Page" 0 (Change.name (text "Id")))) 111 109 ∷
    -- (j) set Id 0 to `a\`
    on large (asks "Scan" (change 0 "Id" 0 (Change.value (text "a\\")))) 25 109 ∷
    -- (k) insert (b) in 109 bytes of buffer
    on 0 (asks "Scan" (Edit.insert (pair "Id" "2" ∷ pair "Page" "p" ∷ []))) 26 109 ∷
    -- (l) the empty file passes
    record { file = []; spare = large; request = []; number = 20; length = 0 } ∷ []

pub marked : all holds cases ≡ true
unfolding class_of bytes_of pieces read_of sets_of written file_of verdict_in verdict tagged request_of encoded plain_of length_of apply completed completed_by step check_answer edit_answer
marked = refl

-- the request of (f) is what the encoder gives
pub request-f : asks "Scan" (Edit.on 0 Act.delete) ≡ 0x01 ∷ 0x00 ∷ 0x01 ∷ 0x02 ∷ 0x02 ∷ 0x00 ∷ 0x04 ∷ 0x53 ∷ 0x63 ∷ 0x61 ∷ 0x6E ∷ 0x03 ∷ 0x00 ∷ 0x02 ∷ 0x00 ∷ 0x00 ∷ []
unfolding encoded
request-f = refl
