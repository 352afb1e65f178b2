-- Computed examples of the numbers that omitted names get, and of the types that names of `%auto` lists may have.
use Prim.Native.String.{String}
use mathlib.Core.Path.{◌≡◌, refl}
use mathlib.Core.Bool.{Bool, true, not}
use mathlib.Core.List.{List, [], ◌∷◌, ◌++◌, map}
use mathlib.Core.Option.{Option, none, some}
use lib.ListN.{get_or}
use Rattle.format.specs.Bytes.{Bytes, text, same, all}
use Rattle.format.specs.Pieces.{pieces, read_of}
use Rattle.format.specs.Records.{Field, fields_of}
use Rattle.format.specs.Sets.{RecSet, sets_of}
use Rattle.format.specs.Numbers.{int_bounds}
use Rattle.format.specs.Written.{Pair, written, written_all}
use Rattle.format.specs.Rules.{autos_counted}
use Rattle.format.specs.Numbering.{decimal, completed}

-- the set T of a file: its descriptor's further lines, then its records and what follows
abbrev set_t : String → String → RecSet
set_t rules rs = get_or (sets_of (read_of (text "%rec: T\n" ++ text rules ++ text "\n" ++ text rs))) 1 (record { name = []; rules = []; members = [] })

-- what an insert into it makes, all records as their text; none where a name has no number
pub record Example : Type 0 where
  pub set : RecSet
  pub new : List Pair
  pub whole : Bytes

abbrev makes : String → String → String → String → Example
makes rules rs new whole =
    record { set = set_t rules rs; new = map (λ (f : Field). record { name = f.name; value = f.value }) (fields_of (read_of (text new))); whole = text whole }

abbrev text_or : Option (List Pair) → Bytes
text_or none = []
text_or (some ps) = written_all ps

abbrev holds : Example → Bool
holds e = same (text_or (completed int_bounds e.set e.new)) e.whole

-- ints at both ends of 64 bits
ends-told : all holds (
    makes "%auto: Id\n%type: Id int\n" "" "A: x\n" "Id: 0\nA: x\n" ∷
    makes "%auto: Id\n%type: Id int\n" "Id: 9223372036854775807\n" "A: x\n" "" ∷
    makes "%auto: Id\n%type: Id int\n" "Id: 9223372036854775806\n" "A: x\n" "Id: 9223372036854775807\nA: x\n" ∷
    makes "%auto: Id\n%type: Id int\n" "Id: 0x7fffffffffffffff\n" "A: x\n" "" ∷
    makes "%auto: Id\n%type: Id int\n" "Id: 0777777777777777777777\n" "A: x\n" "" ∷
    makes "%auto: Id\n%type: Id int\n" "Id: 0x7ffffffffffffffe\n" "A: x\n" "Id: 9223372036854775807\nA: x\n" ∷
    makes "%auto: Id\n%type: Id int\n" "Id: -9223372036854775808\n" "A: x\n" "Id: 0\nA: x\n" ∷
    makes "%auto: Id\n%type: Id int\n" "Id: -9223372036854775808\n\nId: 9223372036854775807\n" "A: x\n" "" ∷
    makes "%auto: Id\n" "Id: 9223372036854775807\n" "A: x\n" "" ∷
    makes "%auto: Id\n" "Id: 9223372036854775808\n\nId: 41\n" "A: x\n" "Id: 42\nA: x\n" ∷
    makes "%auto: Id\n" "Id: -9223372036854775809\n\nId: 18446744073709551616\n" "A: x\n" "Id: 0\nA: x\n" ∷
    makes "%auto: Id\n" "Id: 0x8000000000000000\n" "A: x\n" "Id: 0\nA: x\n" ∷ []) ≡ true
unfolding pieces read_of sets_of written decimal completed
ends-told = refl

-- what is there: any base, any order, any occurrence, blanks around; others do not count
ints-told : all holds (
    makes "%auto: Id\n%type: Id int\n" "Id: -1\n" "A: x\n" "Id: 0\nA: x\n" ∷
    makes "%auto: Id\n%type: Id int\n" "Id: -0\n" "A: x\n" "Id: 1\nA: x\n" ∷
    makes "%auto: Id\n%type: Id int\n" "Id: 0\n" "A: x\n" "Id: 1\nA: x\n" ∷
    makes "%auto: Id\n%type: Id int\n" "Id: 16\n" "A: x\n" "Id: 17\nA: x\n" ∷
    makes "%auto: Id\n%type: Id int\n" "Id: 0x1F\n" "A: x\n" "Id: 32\nA: x\n" ∷
    makes "%auto: Id\n%type: Id int\n" "Id: 017\n" "A: x\n" "Id: 16\nA: x\n" ∷
    makes "%auto: Id\n%type: Id int\n" "Id: 9\n\nId: 0x0A\n\nId: -20\n" "A: x\n" "Id: 11\nA: x\n" ∷
    makes "%auto: Id\n%type: Id int\n" "Id: 010\n\nId: 9\n" "A: x\n" "Id: 10\nA: x\n" ∷
    makes "%auto: Id\n%type: Id int\n" "Id: 9\n\nId: 010\n" "A: x\n" "Id: 10\nA: x\n" ∷
    makes "%auto: Id\n%type: Id int\n" "Id: 99\n\nId: 100\n\nId: 3\n" "A: x\n" "Id: 101\nA: x\n" ∷
    makes "%auto: Id\n%type: Id int\n" "Id: 3\nId: 5\nA: 70\n\nId: 4\n" "A: x\n" "Id: 6\nA: x\n" ∷
    makes "%auto: Id\n%type: Id int\n" "Id:  6\t\n" "A: x\n" "Id: 7\nA: x\n" ∷
    makes "%auto: Id\n%type: Id int\n" "Id:\n+ 6\n+\n" "A: x\n" "Id: 7\nA: x\n" ∷
    makes "%auto: Id\n%type: Id int\n" "Id: \\\n12\n" "A: x\n" "Id: 13\nA: x\n" ∷
    makes "%auto: Id\n" "Id: 08\n\nId: 1.5\n\nId: +7\n\nId: 7a\n\nId: \n\nId: 0x\n\nId: --1\n\nId: 1 2\n" "A: x\n" "Id: 0\nA: x\n" ∷
    makes "%auto: Id\n" "Id: old\n\nId: 3\n\nId: new\n" "A: x\n" "Id: 4\nA: x\n" ∷
    makes "%auto: Id\n" "id: 9\nIdx: 9\n" "A: x\n" "Id: 0\nA: x\n" ∷
    makes "%auto: Id\n" "A: 9\n" "A: x\n" "Id: 0\nA: x\n" ∷
    makes "%auto: Id\n" "Id: 3\n\n%rec: U\n%auto: Id\n\nId: 9\n" "A: x\n" "Id: 4\nA: x\n" ∷ []) ≡ true
unfolding pieces read_of sets_of written decimal completed
ints-told = refl

-- ranges that leave one number, none, or begin above what is there
ranges-told : all holds (
    makes "%auto: Id\n%type: Id range 3\n" "Id: 0\n\nId: 2\n" "A: x\n" "Id: 3\nA: x\n" ∷
    makes "%auto: Id\n%type: Id range 3\n" "Id: 0\n\nId: 3\n" "A: x\n" "" ∷
    makes "%auto: Id\n%type: Id range 0\n" "" "A: x\n" "Id: 0\nA: x\n" ∷
    makes "%auto: Id\n%type: Id range 0\n" "Id: 0\n" "A: x\n" "" ∷
    makes "%auto: Id\n%type: Id range 100 199\n" "" "A: x\n" "Id: 100\nA: x\n" ∷
    makes "%auto: Id\n%type: Id range 100 199\n" "Id: 7\n" "A: x\n" "Id: 100\nA: x\n" ∷
    makes "%auto: Id\n%type: Id range 100 199\n" "Id: 100\n" "A: x\n" "Id: 101\nA: x\n" ∷
    makes "%auto: Id\n%type: Id range 100 199\n" "Id: 198\n" "A: x\n" "Id: 199\nA: x\n" ∷
    makes "%auto: Id\n%type: Id range 100 199\n" "Id: 199\n" "A: x\n" "" ∷
    makes "%auto: Id\n%type: Id range 100 199\n" "Id: 500\n" "A: x\n" "" ∷
    makes "%auto: Id\n%type: Id range -5 5\n" "Id: -3\n" "A: x\n" "Id: 0\nA: x\n" ∷
    makes "%auto: Id\n%type: Id range -5 -1\n" "" "A: x\n" "" ∷
    makes "%auto: Id\n%type: Id range -5 -0\n" "" "A: x\n" "Id: 0\nA: x\n" ∷
    makes "%auto: Id\n%type: Id range -5 -0\n" "Id: 0\n" "A: x\n" "" ∷
    makes "%auto: Id\n%type: Id range -0 0x10\n" "Id: 15\n" "A: x\n" "Id: 16\nA: x\n" ∷
    makes "%auto: Id\n%type: Id range 5 3\n" "" "A: x\n" "" ∷
    makes "%auto: Id\n%type: Id range MAX MAX\n" "Id: 5\n" "A: x\n" "Id: 9223372036854775807\nA: x\n" ∷
    makes "%auto: Id\n%type: Id range MAX MAX\n" "Id: 9223372036854775807\n" "A: x\n" "" ∷
    makes "%auto: Id\n%type: Id range MIN MAX\n" "Id: -7\n" "A: x\n" "Id: 0\nA: x\n" ∷
    makes "%auto: Id\n%type: Id range MIN\n" "" "A: x\n" "" ∷ []) ≡ true
unfolding pieces read_of sets_of written decimal completed
ranges-told = refl

-- several types for one name, aliases, names typed with others
types-told : all holds (
    makes "%auto: Id\n%type: Id int\n%type: Id,No range 10 20\n%type: Id range 15 30\n" "Id: 12\n" "A: x\n" "Id: 15\nA: x\n" ∷
    makes "%auto: Id\n%type: Id range 10 20\n%type: Id range 21 30\n" "" "A: x\n" "" ∷
    makes "%auto: Id\n%type: Id range 10 20\n%type: Id range 20 30\n" "" "A: x\n" "Id: 20\nA: x\n" ∷
    makes "%auto: Id\n%type: Id range 10 20\n%type: Id range 20 30\n" "Id: 20\n" "A: x\n" "" ∷
    makes "%auto: Id\n%typedef: Low Mid\n%typedef: Mid High\n%typedef: High range 7 9\n%type: A,Id Low\n" "Id: 7\n" "A: x\n" "Id: 8\nA: x\n" ∷
    makes "%auto: Id\n%typedef: N int\n%type: Id N\n" "Id: 41\n" "A: x\n" "Id: 42\nA: x\n" ∷
    makes "%auto: Id\n%type: No range 50\n%type: A real\n" "Id: 3\nNo: 8\n" "A: 1\n" "Id: 4\nA: 1\n" ∷ []) ≡ true
unfolding pieces read_of sets_of written decimal completed
types-told = refl

-- names listed in several fields, once or twice, and those that the insert has
names-told : all holds (
    makes "%auto: Id No\n" "Id: 3\nNo: 8\n" "A: x\n" "Id: 4\nNo: 9\nA: x\n" ∷
    makes "%auto: No Id\n" "Id: 3\nNo: 8\n" "A: x\n" "No: 9\nId: 4\nA: x\n" ∷
    makes "%auto: No\n%auto: Id No Id\n+ Row\n" "Id: 3\n" "A: x\nB: y\n" "No: 0\nId: 4\nRow: 0\nA: x\nB: y\n" ∷
    makes "%auto: Id No\n" "Id: 3\n" "No: 5\n" "Id: 4\nNo: 5\n" ∷
    makes "%auto: Id No\n" "" "No: 5\nId: 7\nNo: 6\n" "No: 5\nId: 7\nNo: 6\n" ∷
    makes "%auto: Id No\n" "" "Id:\n" "No: 0\nId: \n" ∷
    makes "%auto: Id No\n" "" "id: 1\nIdx: 2\nI: 3\n" "Id: 0\nNo: 0\nid: 1\nIdx: 2\nI: 3\n" ∷
    makes "%auto: Id\n%type: Id range 0\n" "Id: 0\n" "Id: 9\n" "Id: 9\n" ∷
    makes "%auto: Id No\n%type: No range 5 4\n" "" "Id: 9\n" "" ∷
    makes "%auto: Id No\n%type: No range 5 4\n" "" "No: 9\n" "Id: 0\nNo: 9\n" ∷
    makes "%key: Id\n" "Id: 3\n" "A: x\n" "A: x\n" ∷
    makes "%mandatory: Id\n%singular: Id\n" "Id: 3\n" "A: x\n" "A: x\n" ∷ []) ≡ true
unfolding pieces read_of sets_of written decimal completed
names-told = refl

-- "fields whose types are all int or range, or that have no type": `%auto` lists that question 7 lets pass, and others
abbrev counts : String → Bool
counts rules = autos_counted int_bounds (set_t rules "").rules

counted-told : all counts (
    "" ∷
    "%auto: Id\n" ∷
    "%auto: Id No\n%type: Id int\n%type: A real\n" ∷
    "%type: Id,No range 5 3\n%auto: Id\n%auto: No\n%type: No int\n" ∷
    "%auto: Id\n%typedef: T U\n%typedef: U range MAX\n%type: Id T\n" ∷
    "%auto: Id\n%typedef: T real\n" ∷ []) ≡ true
unfolding pieces read_of sets_of
counted-told = refl

uncounted-told : all (λ (rules : String). not (counts rules)) (
    "%auto: Id\n%type: Id real\n" ∷
    "%auto: Id\n%type: Id line\n" ∷
    "%auto: Id\n%type: Id size 20\n" ∷
    "%auto: Id\n%type: Id enum 1 2 3\n" ∷
    "%auto: Id\n%type: Id bool\n" ∷
    "%auto: Id\n%type: Id field\n" ∷
    "%auto: Id\n%type: Id uuid\n" ∷
    "%auto: Id\n%type: Id int\n%type: Id line\n" ∷
    "%auto: Id\n%type: No,Id real\n" ∷
    "%auto: Id\n%typedef: T U\n%typedef: U real\n%type: Id T\n" ∷
    "%auto: No\n%type: Id int\n%type: No real\n%auto: Id\n" ∷ []) ≡ true
unfolding pieces read_of sets_of
uncounted-told = refl
