-- Computed examples of the lookups and of writing: what each call answers, what it leaves in a second buffer, and both sides of every limit.
use Prim.Native.Nat.{ℕ, zero, suc, ◌+◌}
use Prim.Native.String.{String}
use mathlib.Core.Path.{◌≡◌, refl}
use mathlib.Core.Bool.{Bool, true, false, ◌&&◌}
use mathlib.Core.List.{List, [], ◌∷◌, ◌++◌}
use lib.Dec.{eqb}
use lib.ListN.{length, drop, replicate}
use Rattle.format.specs.Bytes.{Bytes, text, all, same}
use Rattle.format.specs.Lists.{flat}
use Rattle.format.specs.Pieces.{bytes_of, pieces, read_of}
use Rattle.format.specs.Sets.{sets_of}
use Rattle.format.specs.Questions.{file_of, verdict_in, verdict}
use Rattle.format.specs.Written.{Pair, written}
use Rattle.format.specs.Edits.{Change, Act, Edit}
use Rattle.format.specs.Requests.{tagged, request_of, encoded}
use Rattle.format.specs.Calls.{Answer, answer, Filled, Viewed, check_answer, count_answer, fetch_answer, name_answer, view_answer, write_answer}
use Rattle.format.proofs.Cases.{book, asks, pair, change}

-- a call, and what it answers: a number or a refusal's, and the bytes of a second buffer after it or of the part that is viewed
pub data Call : Type 0 where
  check : Call
  count : String → Call
  fetch : String → ℕ → String → ℕ → Bytes → Call
  view : String → ℕ → Call
  name : ℕ → Bytes → Call
  write : Bytes → Bytes → Call

abbrev calls : Bytes → ℕ → Call → Filled
calls b n check = record { result = answer (check_answer b n) 0; out = [] }
calls b n (count set) = record { result = count_answer b n (text set); out = [] }
calls b n (fetch set row m o out) = fetch_answer b n (text set) row (text m) o out
calls b n (view set row) = let v : Viewed = view_answer b n (text set) row in record { result = v.result; out = v.part }
calls b n (name k out) = name_answer b n k out
calls b n (write q out) = write_answer q out

pub record Case : Type 0 where
  pub buffer : Bytes
  pub used : ℕ
  pub call : Call
  pub result : Answer
  pub out : Bytes

abbrev alike : Answer → Answer → Bool
alike (Answer.value m) (Answer.value n) = eqb m n
alike (Answer.value m) (Answer.refusal k) = false
alike (Answer.refusal j) (Answer.value n) = false
alike (Answer.refusal j) (Answer.refusal k) = eqb j k

abbrev pub holds : Case → Bool
holds c = let f : Filled = calls c.buffer c.used c.call in alike f.result c.result && same f.out c.out

-- a file with bytes behind it that are no part of it
abbrev on : Bytes → Call → Answer → Bytes → Case
on s c a out = record { buffer = s ++ text "no\u{1}line"; used = length s; call = c; result = a; out = out }

abbrev counts : Bytes → String → Answer → Case
counts s set a = on s (count set) a []

abbrev fetches : Bytes → String → ℕ → String → ℕ → String → Answer → String → Case
fetches s set row m o out a after = on s (fetch set row m o (text out)) a (text after)

abbrev views : Bytes → String → ℕ → Answer → String → Case
views s set row a part = on s (view set row) a (text part)

abbrev names : Bytes → ℕ → String → Answer → String → Case
names s k out a after = on s (name k (text out)) a (text after)

abbrev writes : Bytes → Bytes → Answer → Bytes → Case
writes q out a after = on [] (write q out) a after

-- a file that passes, and one that a question stops
abbrev passes : Bytes → Case
passes s = on s check (Answer.value 0) []

abbrev stops : ℕ → Bytes → Case
stops k s = on s check (Answer.refusal k) []

abbrev no : ℕ → Answer
no k = Answer.refusal k

abbrev is : ℕ → Answer
is n = Answer.value n

abbrev times : ℕ → Bytes → Bytes
times n s = flat (replicate n s)

-- Count, fetch, view and the sets' names.

-- a default set of two records, a set of one, a set of none; comments before, between and behind fields
abbrev sheet : Bytes
sheet =
    text "# head\nA: 1\n# mid\nB: 2\n# tail\n\nA: 3\n\n# alone\n\n"
    ++ text "%rec: S\n# note\n%doc: d\n\n# before\nA: x\n+ y\nB: j\\\noin\n# between\nA: z\n# behind\n\n"
    ++ text "%rec: T\n"

-- values that begin with a blank, are empty, and stand on joined and plus lines; a set's name on several lines
abbrev folded : Bytes
folded = text "A:  x\nB:\t\ty\nC:\nD: b\\\nc\n+ d\\\n+ e\n\n%rec: \n+  Jo\\\nin \n"

abbrev lookups : List Case
lookups =
    counts book "" (is 0) ∷
    counts book "Scan" (is 1) ∷
    counts book "scan" (no 21) ∷
    counts book "Sca" (no 21) ∷
    counts book "Scan " (no 21) ∷
    counts sheet "" (is 2) ∷
    counts sheet "S" (is 1) ∷
    counts sheet "T" (is 0) ∷
    counts sheet "U" (no 21) ∷
    counts folded "" (is 1) ∷
    counts folded "Join" (is 0) ∷
    counts [] "" (is 0) ∷
    counts [] "S" (no 21) ∷
    counts (text "# c\n\n#\n") "" (is 0) ∷
    fetches book "Scan" 0 "Page" 0 "....." (is 5) "front" ∷
    fetches book "Scan" 0 "Page" 1 "....." (is 4) "back." ∷
    fetches book "Scan" 0 "Page" 2 "....." (no 23) "....." ∷
    fetches book "Scan" 0 "page" 0 "....." (no 23) "....." ∷
    fetches book "Scan" 0 "%rec" 0 "....." (no 23) "....." ∷
    fetches book "Scan" 1 "Page" 0 "....." (no 22) "....." ∷
    fetches book "Scan" 65536 "Page" 0 "....." (no 22) "....." ∷
    fetches book "Scan" 0 "Page" 65536 "....." (no 23) "....." ∷
    fetches book "" 0 "Page" 0 "....." (no 22) "....." ∷
    fetches book "Page" 0 "Page" 0 "....." (no 21) "....." ∷
    fetches sheet "" 0 "A" 0 ".." (is 1) "1." ∷
    fetches sheet "" 1 "A" 0 ".." (is 1) "3." ∷
    fetches sheet "" 1 "B" 0 ".." (no 23) ".." ∷
    fetches sheet "" 2 "A" 0 ".." (no 22) ".." ∷
    fetches sheet "S" 0 "A" 0 "......" (is 3) "x\ny..." ∷
    fetches sheet "S" 0 "A" 0 "..." (is 3) "x\ny" ∷
    fetches sheet "S" 0 "A" 0 ".." (no 27) ".." ∷
    fetches sheet "S" 0 "A" 1 "......" (is 1) "z....." ∷
    fetches sheet "S" 0 "A" 2 "......" (no 23) "......" ∷
    fetches sheet "S" 0 "B" 0 "....." (is 4) "join." ∷
    fetches sheet "S" 0 "B" 0 "...." (is 4) "join" ∷
    fetches sheet "S" 0 "B" 0 "..." (no 27) "..." ∷
    fetches sheet "S" 0 "B" 0 "" (no 27) "" ∷
    fetches sheet "S" 0 "B" 1 "" (no 23) "" ∷
    fetches sheet "S" 1 "B" 1 "" (no 22) "" ∷
    fetches sheet "T" 0 "%rec" 0 "......" (no 22) "......" ∷
    fetches sheet "U" 1 "B" 1 "" (no 21) "" ∷
    fetches folded "" 0 "A" 0 "...." (is 2) " x.." ∷
    fetches folded "" 0 "B" 0 "...." (is 2) "\ty.." ∷
    fetches folded "" 0 "C" 0 "...." (is 0) "...." ∷
    fetches folded "" 0 "C" 0 "" (is 0) "" ∷
    fetches folded "" 0 "D" 0 "......." (is 7) "bc\nd+ e" ∷
    fetches folded "" 0 "D" 0 "......" (no 27) "......" ∷
    fetches [] "" 0 "A" 0 ".." (no 22) ".." ∷
    views book "Scan" 0 (is 64) "Id: 1\nPage: front\n# folded corner\nPage: back\n" ∷
    views book "Scan" 1 (no 22) "" ∷
    views book "" 0 (no 22) "" ∷
    views book "Id" 0 (no 21) "" ∷
    views sheet "" 0 (is 7) "A: 1\n# mid\nB: 2\n" ∷
    views sheet "" 1 (is 31) "A: 3\n" ∷
    views sheet "" 2 (no 22) "" ∷
    views sheet "S" 0 (is 79) "A: x\n+ y\nB: j\\\noin\n# between\nA: z\n" ∷
    views sheet "S" 1 (no 22) "" ∷
    views sheet "T" 0 (no 22) "" ∷
    views sheet "U" 0 (no 21) "" ∷
    views folded "" 0 (is 0) "A:  x\nB:\t\ty\nC:\nD: b\\\nc\n+ d\\\n+ e\n" ∷
    views [] "" 0 (no 22) "" ∷
    names book 0 "..." (is 0) "..." ∷
    names book 1 "....." (is 4) "Scan." ∷
    names book 1 "...." (is 4) "Scan" ∷
    names book 1 "..." (no 27) "..." ∷
    names book 2 "....." (no 21) "....." ∷
    names sheet 0 "" (is 0) "" ∷
    names sheet 1 ".." (is 1) "S." ∷
    names sheet 2 "." (is 1) "T" ∷
    names sheet 2 "" (no 27) "" ∷
    names sheet 3 "" (no 21) "" ∷
    names folded 1 "......" (is 4) "Join.." ∷
    names [] 0 "" (is 0) "" ∷
    names [] 1 "" (no 21) "" ∷ []

-- A file's own questions come first, and nothing is written then.
abbrev refuses : ℕ → Bytes → ℕ → List Case
refuses k b n =
    let of : Call → Bytes → Case = λ c out. record { buffer = b; used = n; call = c; result = no k; out = out } in
    of check [] ∷
    of (count "S") [] ∷
    of (count "U") [] ∷
    of (fetch "S" 0 "A" 0 (text "..")) (text "..") ∷
    of (fetch "U" 0 "A" 0 []) [] ∷
    of (view "S" 0) [] ∷
    of (view "U" 0) [] ∷
    of (name 1 (text "..")) (text "..") ∷
    of (name 9 []) [] ∷ []

abbrev refused : ℕ → String → List Case
refused k s = refuses k (text s) (length (text s))

abbrev failing : List Case
failing =
    flat (refuses 1 sheet (length sheet + 1) ∷
    refused 2 "%rec: S\n\nA: 1" ∷
    refused 3 "%rec: S\n\nA: 1\nB\n" ∷
    refused 4 "%rec: S\n\nA: 1\nNnnnnnnnnnnnnnnnnnnnnnnnnnnnnnnnnnnnnnnnnnnnnnnnnnnnnnnnnnnnnnnnn: 1\n" ∷
    refused 5 "%rec: S\n\nA: 1\n%doc: d\n" ∷
    refused 6 "%rec: S\n%key: A B\n\nA: 1\n" ∷
    refused 7 "%rec: S\n%type: A email\n\nA: 1\n" ∷
    refused 8 "%rec: S\n%prohibit: A\n\nA: 1\n" ∷
    refused 9 "%rec: S\n%allowed: B\n\nA: 1\n" ∷
    refused 10 "%rec: S\n%mandatory: B\n\nA: 1\n" ∷
    refused 11 "%rec: S\n%unique: A\n\nA: 1\nA: 2\n" ∷
    refused 12 "%rec: S\n%type: A int\n\nA: x\n" ∷
    refused 13 "%rec: S\n%key: A\n\nA: 1\n\nA: 1\n" ∷
    refused 14 "%rec: S\n%size: 2\n\nA: 1\n" ∷
    refused 30 "%rec: S\n%singular: A\n\nA: 1\nA: 1\n" ∷ [])

-- Question 4, at both sides of each limit, and the file's length.

abbrev named : ℕ → Bytes
named n = replicate n 78 ++ text ": v\n"

abbrev valued : ℕ → Bytes
valued n = text ": " ++ replicate n 118 ++ text "\n"

-- sets, and the fields of a descriptor that may be given so many times
abbrev recs : ℕ → Bytes
recs zero = []
recs (suc n) = text "%rec: " ++ replicate (suc n) 83 ++ text "\n\n" ++ recs n

abbrev typedefs : ℕ → Bytes
typedefs zero = []
typedefs (suc n) = text "%typedef: " ++ replicate (suc n) 84 ++ text " int\n" ++ typedefs n

abbrev listing : String → ℕ → Bytes
listing field n = text field ++ times n (text " N") ++ text "\n"

abbrev described : ℕ → ℕ → ℕ → ℕ → ℕ → ℕ → ℕ → ℕ → Bytes
described m p a u s o d t =
    text "%rec: S\n"
    ++ listing "%mandatory:" m
    ++ listing "%prohibit:" p
    ++ listing "%allowed:" a
    ++ listing "%unique:" u
    ++ listing "%singular:" s
    ++ listing "%auto:" o
    ++ typedefs d
    ++ times t (text "%type: N int\n")

abbrev limited : List Case
limited =
    passes (named 64) ∷
    stops 4 (named 65) ∷
    passes (text "%rec: S\n%mandatory: " ++ replicate 65 78 ++ text "\n") ∷
    passes (text "A" ++ valued 4096) ∷
    stops 4 (text "A" ++ valued 4097) ∷
    passes (text "A: " ++ replicate 4000 118 ++ text "\\\n" ++ replicate 50 118 ++ text "\n+ " ++ replicate 45 118 ++ text "\n") ∷
    stops 4 (text "A: " ++ replicate 4000 118 ++ text "\\\n" ++ replicate 50 118 ++ text "\n+ " ++ replicate 46 118 ++ text "\n") ∷
    passes (text "%rec: S\n%doc" ++ valued 4096) ∷
    stops 4 (text "%rec: S\n%doc" ++ valued 4097) ∷
    passes (times 256 (text "A: v\n")) ∷
    stops 4 (times 257 (text "A: v\n")) ∷
    passes (times 128 (text "A: v\n# c\n") ++ text "\n" ++ times 256 (text "A: v\n")) ∷
    passes (text "%rec: S\n" ++ times 255 (text "%doc: v\n")) ∷
    stops 4 (text "%rec: S\n" ++ times 256 (text "%doc: v\n")) ∷
    passes (recs 64) ∷
    stops 4 (recs 65) ∷
    passes (text "A: v\n\n" ++ recs 64) ∷
    passes (described 64 64 64 64 64 64 32 32) ∷
    stops 4 (described 65 64 64 64 64 64 32 32) ∷
    stops 4 (described 64 65 64 64 64 64 32 32) ∷
    stops 4 (described 64 64 65 64 64 64 32 32) ∷
    stops 4 (described 64 64 64 65 64 64 32 32) ∷
    stops 4 (described 64 64 64 64 65 64 32 32) ∷
    stops 4 (described 64 64 64 64 64 65 32 32) ∷
    stops 4 (described 64 64 64 64 64 64 33 32) ∷
    stops 4 (described 64 64 64 64 64 64 32 33) ∷
    passes (text "%rec: S\n" ++ listing "%unique:" 32 ++ listing "%unique:" 32) ∷
    stops 4 (text "%rec: S\n" ++ listing "%unique:" 32 ++ listing "%unique:" 33) ∷
    passes (text "%rec: S\n" ++ listing "%singular:" 32 ++ listing "%singular:" 32) ∷
    stops 4 (text "%rec: S\n" ++ listing "%singular:" 33 ++ listing "%singular:" 32) ∷
    passes (text "%rec: S\n" ++ listing "%auto:" 64) ∷
    stops 4 (text "%rec: S\n" ++ listing "%auto:" 65) ∷
    passes (text "%rec: S\n" ++ listing "%auto:" 32 ++ listing "%auto:" 32) ∷
    stops 4 (text "%rec: S\n" ++ listing "%auto:" 32 ++ listing "%auto:" 33) ∷
    passes (described 64 64 64 64 64 64 32 32 ++ text "\n%rec: T\n" ++ listing "%mandatory:" 64 ++ times 32 (text "%type: N int\n")) ∷
    passes (replicate 65535 35 ++ text "\n") ∷
    stops 1 (replicate 65536 35 ++ text "\n") ∷ []

-- Writing a record.

abbrev inserts : List Pair → Bytes
inserts ps = asks "Scan" (Edit.insert ps)

abbrev pair_of : Bytes → Bytes → Pair
pair_of n v = record { name = n; value = v }

abbrev one : String → String → Bytes
one n v = inserts (pair n v ∷ [])

-- refused, the second buffer stays as it is
abbrev refuses_write : ℕ → Bytes → Case
refuses_write k q = writes q (text "..") (no k) (text "..")

-- a text in a buffer that just holds it, in one with two bytes more, and in one with a byte too few
abbrev fills : Bytes → Bytes → List Case
fills q new =
    let fit : Bytes = replicate (length new) 46 in
    writes q fit (is (length new)) new ∷
    writes q (fit ++ text "..") (is (length new)) (new ++ text "..") ∷
    writes q (drop 1 fit) (no 27) (drop 1 fit) ∷ []

abbrev legal : String → String → String → List Case
legal n v new = fills (one n v) (text new)

abbrev scan : Bytes
scan = inserts (pair "Id" "2" ∷ pair "Page" "p\nq" ∷ [])

-- an insert into the default set, byte by byte: kind 1, the empty set, and a pair of A and B
abbrev head : Bytes
head = 1 ∷ 0 ∷ 1 ∷ 1 ∷ 2 ∷ 0 ∷ 0 ∷ []

abbrev one_field : Bytes
one_field = 4 ∷ 0 ∷ 1 ∷ 65 ∷ 6 ∷ 0 ∷ 1 ∷ 66 ∷ []

-- the form of a request, and other kinds
abbrev formed : List Case
formed =
    writes scan (replicate 18 46) (is 18) (text "Id: 2\nPage: p\n+ q\n") ∷
    writes scan (replicate 17 46) (no 27) (replicate 17 46) ∷
    writes scan [] (no 27) [] ∷
    writes scan (replicate 20 46) (is 18) (text "Id: 2\nPage: p\n+ q\n..") ∷
    writes (head ++ one_field) (text "......") (is 5) (text "A: B\n.") ∷
    writes (head ++ (4 ∷ 0 ∷ 1 ∷ 65 ∷ 6 ∷ 1 ∷ 2 ∷ []) ++ replicate 258 66) (replicate 262 46) (is 262) (text "A: " ++ replicate 258 66 ++ text "\n") ∷
    refuses_write 20 [] ∷
    refuses_write 20 (1 ∷ 0 ∷ []) ∷
    refuses_write 20 (1 ∷ 0 ∷ 2 ∷ 1 ∷ []) ∷
    refuses_write 20 head ∷
    refuses_write 20 (head ++ (4 ∷ 0 ∷ 1 ∷ 65 ∷ [])) ∷
    refuses_write 20 (head ++ (6 ∷ 0 ∷ 1 ∷ 66 ∷ 4 ∷ 0 ∷ 1 ∷ 65 ∷ [])) ∷
    refuses_write 20 (head ++ one_field ++ (0 ∷ [])) ∷
    refuses_write 20 (head ++ one_field ++ (4 ∷ 0 ∷ 1 ∷ 65 ∷ [])) ∷
    refuses_write 20 (head ++ (4 ∷ 0 ∷ 1 ∷ 65 ∷ 6 ∷ 0 ∷ 2 ∷ 66 ∷ [])) ∷
    refuses_write 20 (head ++ (5 ∷ 0 ∷ 2 ∷ 0 ∷ 0 ∷ []) ++ one_field) ∷
    refuses_write 20 ((1 ∷ 0 ∷ 1 ∷ 0 ∷ 2 ∷ 0 ∷ 0 ∷ []) ++ one_field) ∷
    refuses_write 20 ((1 ∷ 0 ∷ 1 ∷ 7 ∷ 2 ∷ 0 ∷ 0 ∷ []) ++ one_field) ∷
    refuses_write 20 ((1 ∷ 0 ∷ 2 ∷ 1 ∷ 1 ∷ 2 ∷ 0 ∷ 0 ∷ []) ++ one_field) ∷
    refuses_write 20 ((1 ∷ 0 ∷ 0 ∷ 2 ∷ 0 ∷ 0 ∷ []) ++ one_field) ∷
    refuses_write 20 ((2 ∷ 0 ∷ 0 ∷ 1 ∷ 0 ∷ 1 ∷ 1 ∷ []) ++ one_field) ∷
    refuses_write 20 ((1 ∷ 0 ∷ 1 ∷ 1 ∷ []) ++ one_field) ∷
    refuses_write 20 (asks "Scan" (Edit.on 0 Act.delete)) ∷
    refuses_write 20 (asks "Scan" (Edit.on 0 (Act.add (pair "A" "B")))) ∷
    refuses_write 20 (asks "Scan" (change 0 "A" 0 (Change.value (text "B")))) ∷
    refuses_write 20 (asks "Scan" (change 0 "A" 0 Change.dropped)) ∷
    refuses_write 20 (asks "Scan" (change 0 "A" 0 (Change.name (text "B")))) ∷ []

-- names and values
abbrev pairs_legal : List Case
pairs_legal =
    legal "a_1" "" "a_1: \n"
    ++ legal "Z" " \t~" "Z:  \t~\n"
    ++ legal "A" "a\\b" "A: a\\b\n"
    ++ legal "A" "a\n" "A: a\n+ \n"
    ++ legal "A" "\n\n# b" "A: \n+ \n+ # b\n"
    ++ fills (inserts (pair_of (text "A") (9 ∷ 32 ∷ 126 ∷ 128 ∷ 255 ∷ []) ∷ [])) (text "A: " ++ (9 ∷ 32 ∷ 126 ∷ 128 ∷ 255 ∷ 10 ∷ []))
    ++ fills (inserts (pair_of (replicate 64 78) (text "v") ∷ [])) (replicate 64 78 ++ text ": v\n")
    ++ fills (inserts (pair_of (text "A") (replicate 4096 118) ∷ [])) (text "A: " ++ replicate 4096 118 ++ text "\n")

abbrev pairs_illegal : List Case
pairs_illegal =
    refuses_write 25 (one "" "v") ∷
    refuses_write 25 (one "%" "v") ∷
    refuses_write 25 (one "%A" "v") ∷
    refuses_write 25 (one "1" "v") ∷
    refuses_write 25 (one "_" "v") ∷
    refuses_write 25 (one "A-" "v") ∷
    refuses_write 25 (one "A " "v") ∷
    refuses_write 25 (inserts (pair_of (replicate 65 78) (text "v") ∷ [])) ∷
    refuses_write 25 (inserts (pair_of (text "A") (replicate 4097 118) ∷ [])) ∷
    refuses_write 25 (inserts (pair_of (text "A") (0 ∷ []) ∷ [])) ∷
    refuses_write 25 (inserts (pair_of (text "A") (8 ∷ []) ∷ [])) ∷
    refuses_write 25 (inserts (pair_of (text "A") (11 ∷ []) ∷ [])) ∷
    refuses_write 25 (inserts (pair_of (text "A") (31 ∷ []) ∷ [])) ∷
    refuses_write 25 (inserts (pair_of (text "A") (127 ∷ []) ∷ [])) ∷
    refuses_write 25 (one "A" "\\") ∷
    refuses_write 25 (one "A" "a\\\nb") ∷
    refuses_write 25 (one "A" "a\nb\\") ∷
    refuses_write 25 (inserts (pair "A" "v" ∷ pair "B" "\\" ∷ [])) ∷ []

-- Lengths and numbers of pairs. A newline of a value is one byte of the request and three of the text, so 84 of them and a name of one byte make 256 bytes of text.
abbrev lined : Pair
lined = pair_of (text "A") (replicate 84 10)

abbrev longer : Pair
longer = pair_of (text "A") (replicate 84 10 ++ text "v")

-- a request of 65,536 bytes and so many more: heads of 3, a kind of 1, a set's name of 4, a name of 1, and the value
abbrev long : ℕ → Bytes
long n = inserts (pair_of (text "A") (replicate (65518 + n) 118) ∷ [])

abbrev sized : List Case
sized =
    writes (long 0) [] (no 25) [] ∷
    writes (long 1) [] (no 20) [] ∷
    writes (inserts (replicate 256 lined)) [] (no 27) [] ∷
    writes (inserts (longer ∷ replicate 255 lined)) [] (no 26) [] ∷
    writes (inserts (replicate 257 lined)) [] (no 26) [] ∷
    writes (inserts (replicate 257 lined ++ (pair "1" "" ∷ []))) [] (no 25) [] ∷
    writes (inserts (replicate 256 (pair "A" ""))) (replicate 1024 46) (is 1024) (times 256 (text "A: \n")) ∷
    writes (inserts (replicate 257 (pair "A" ""))) (replicate 1028 46) (no 104) (replicate 1028 46) ∷
    writes (inserts (replicate 257 (pair "A" ""))) [] (no 104) [] ∷ []

abbrev pub cases : List Case
cases = lookups ++ failing ++ limited ++ formed ++ pairs_legal ++ pairs_illegal ++ sized

pub looked-up : all holds cases ≡ true
unfolding bytes_of pieces read_of sets_of written file_of verdict_in verdict tagged request_of encoded check_answer count_answer fetch_answer name_answer view_answer write_answer
looked-up = refl
