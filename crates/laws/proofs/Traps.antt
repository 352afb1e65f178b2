-- Computed examples on the traps of the format: readings of small files, and the first question that each of some files fails.
use Prim.Native.Nat.{ℕ}
use Prim.Native.String.{String}
use mathlib.Core.Path.{◌≡◌, refl}
use mathlib.Core.Bool.{Bool, true, false}
use mathlib.Core.List.{List, [], ◌∷◌, ◌++◌, map}
use mathlib.Core.Option.{some}
use lib.Dec.{eqb}
use lib.ListN.{length, replicate}
use Rattle.format.specs.Bytes.{Bytes, text, all}
use Rattle.format.specs.Pieces.{Piece, pieces}
use Rattle.format.specs.Sets.{sets_of}
use Rattle.format.specs.Questions.{file_of, verdict_in, verdict}

abbrev field : String → String → List String → Piece
field n v ls = Piece.field (text n) (text v) (map text ls)

abbrev comment : String → Piece
comment l = Piece.comment (text l)

abbrev blank : String → Piece
blank l = Piece.blank (text l)

abbrev Reads : String → List Piece → Type 0
Reads s ps = pieces (text s) ≡ some ps

-- a line is taken on whatever its form: another text, a comment's, a plus line's
joined-any : Reads "A: b\\\nc\\\n# d\n+ e\\\n+ f\n" (field "A" "bc# d\ne+ f" ("A: b\\" ∷ "c\\" ∷ "# d" ∷ "+ e\\" ∷ "+ f" ∷ []) ∷ [])
unfolding pieces
joined-any = refl

-- a blank line is taken on, and one blank behind the colon is dropped, no more
joined-blank : Reads "A: \\\n\nB:\t x\n" (field "A" "" ("A: \\" ∷ "" ∷ []) ∷ field "B" " x" ("B:\t x" ∷ []) ∷ [])
unfolding pieces
joined-blank = refl

-- a comment that ends in a backslash takes on nothing; one space is dropped behind a plus, and no tab
plus-lines : Reads "# c\\\n \t\nA:\n+\n+b\n+  d\n+\te\n" (comment "# c\\" ∷ blank " \t" ∷ field "A" "\n\nb\n d\n\te" ("A:" ∷ "+" ∷ "+b" ∷ "+  d" ∷ "+\te" ∷ []) ∷ [])
unfolding pieces
plus-lines = refl

-- whether a plus line drops a space is judged on its first physical line
plus-joined : Reads "A: b\n+\\\n c\n" (field "A" "b\n c" ("A: b" ∷ "+\\" ∷ " c" ∷ []) ∷ [])
unfolding pieces
plus-joined = refl

-- a comment does not end a record
comment-inside : Reads "A: b\n# c\nB: d\n" (field "A" "b" ("A: b" ∷ []) ∷ comment "# c" ∷ field "B" "d" ("B: d" ∷ []) ∷ [])
unfolding pieces
comment-inside = refl

-- files, and the number of the first question that each of them fails
pub record Fails : Type 0 where
  pub number : ℕ
  pub files : List Bytes

abbrev fails : Fails → Bool
fails f = all (λ (s : Bytes). eqb (verdict s (length s)) f.number) f.files

abbrev each : ℕ → List String → Fails
each k ss = record { number = k; files = map text ss }

-- a set T: its descriptor's further lines, then its records
infixr 20 ◌has◌
abbrev ◌has◌ : String → String → Bytes
rules has rs = text "%rec: T\n" ++ text rules ++ text "\n" ++ text rs

abbrev these : ℕ → List Bytes → Fails
these k ss = record { number = k; files = ss }

-- a set whose records have one field A of a type, one record for each value
abbrev valued : List String → Bytes
valued [] = []
valued (w ∷ ws) = text "A: " ++ text w ++ text "\n\n" ++ valued ws

abbrev typed : String → List String → Bytes
typed t vs = text "%rec: T\n%type: B,A " ++ text t ++ text "\n\n" ++ valued vs

abbrev meeting : List Fails → Bool
meeting fs = all fails fs

-- bytes, lines and their forms
lines-told : meeting (
    each 0 ("" ∷ "\n \t\n" ∷ "# only a comment\n" ∷ "A:\n" ∷ "A: \\\n\nB: c\n" ∷ "A_1:\tb\n" ∷ "A: a\n#\nB: b\n" ∷ []) ∷
    each 2 ("A: b" ∷ "A: \u{7f}\n" ∷ "A: b\r\n" ∷ []) ∷
    each 3 ("A:\\\nb\n" ∷ "A: b\\\n" ∷ "# c\n+ d\n" ∷ "A: b\n# c\n+ d\n" ∷ "A: b\n\n+ d\n" ∷ "+ d\n" ∷ "A b: c\n" ∷ "1A: c\n" ∷ "_A: c\n" ∷ "A:b\n" ∷ "A : b\n" ∷ " A: b\n" ∷ "A\n" ∷ ": b\n" ∷ []) ∷ []) ≡ true
unfolding pieces sets_of file_of verdict_in verdict
lines-told = refl

-- descriptors: `%rec` once and first, then each field's shape, then the types
descriptors-told : meeting (
    each 5 ("%key: Id\n" ∷ "%: x\n" ∷ "%rec: A\n%rec: B\n" ∷ "%rec: A\n\nA: b\n%doc: x\n" ∷ "%rec: A B\n\n%doc: x\n" ∷ []) ∷
    each 6 ("%rec: A B\n" ∷ "%rec:\n" ∷ "%rec: 1A\n" ∷ "%rec: %A\n" ∷ "%rec: A\n\n%rec: A\n" ∷ "%rec: A\n\n%rec:\n+ A\n" ∷ []) ∷
    these 6 (("%foo: x\n" has "") ∷ ("%: x\n" has "") ∷ ("%key: a\n%key: a\n" has "") ∷ ("%key: a b\n" has "") ∷ ("%key:\n" has "") ∷ ("%key: 1\n" has "") ∷ ("%mandatory:\n" has "") ∷ ("%mandatory: a 1\n" has "") ∷ ("%allowed: a,b\n" has "") ∷ ("%unique: -\n" has "") ∷ ("%prohibit:\n" has "") ∷ ("%size: <1\n" has "") ∷ ("%size: < \n" has "") ∷ ("%size: -1\n" has "") ∷ ("%size: 08\n" has "") ∷ ("%size: 1 <\n" has "") ∷ ("%size: < 1 2\n" has "") ∷ ("%size: MAX\n" has "") ∷ ("%size: 0\n%size: 0\n" has "") ∷ ("%size: ==\n" has "") ∷ []) ∷
    these 0 (("foo: x\n" has "") ∷ ("%doc:\n%doc: a\n" has "") ∷ ("" has "") ∷ ("%key: %a\n" has "") ∷ ("%mandatory: a\n%mandatory: b\n+ c\n" has "") ∷ ("%size: -0\n" has "") ∷ ("%size: 0x0\n" has "") ∷ ("%size: <=\n+ 00\n" has "") ∷ ("%size: > 0\n" has "A: b\n") ∷ ("%size: >= 1\n" has "A: b\n") ∷ ("%size: < 2\n" has "A: b\n") ∷ []) ∷
    these 7 (("%typedef: T\n" has "") ∷ ("%typedef:\n" has "") ∷ ("%typedef: 1 int\n" has "") ∷ ("%typedef: %T int\n" has "") ∷ ("%typedef: int real\n" has "") ∷ ("%typedef: rec int\n" has "") ∷ ("%typedef: date int\n" has "") ∷ ("%typedef: N int\n%typedef: N int\n" has "") ∷ ("%typedef: N M\n" has "") ∷ ("%typedef: N N\n" has "") ∷ ("%typedef: A B\n%typedef: B C\n%typedef: C A\n" has "") ∷ ("%typedef: N int x\n" has "") ∷ ("%type: a\n" has "") ∷ ("%type: a,,b int\n" has "") ∷ ("%type: ,a int\n" has "") ∷ ("%type: a, int\n" has "") ∷ ("%type: 1 int\n" has "") ∷ ("%type: a email\n" has "") ∷ ("%type: a M\n" has "") ∷ ("%type: a range\n" has "") ∷ ("%type: a range 1 2 3\n" has "") ∷ ("%type: a range x\n" has "") ∷ ("%type: a size\n" has "") ∷ ("%type: a size -1\n" has "") ∷ ("%type: a size 1 2\n" has "") ∷ ("%type: a size MAX\n" has "") ∷ ("%type: a real 1\n" has "") ∷ ("%type: a enum\n" has "") ∷ ("%type: a enum (x)\n" has "") ∷ ("%type: a enum -x\n" has "") ∷ ("%type: a enum a (b\n" has "") ∷ ("%type: a enum a b)\n" has "") ∷ ("%type: a enum a (b (c) d)\n" has "") ∷ ("%type: a int (x)\n" has "") ∷ ("%type: a (x) enum a\n" has "") ∷ []) ∷
    these 0 (("%typedef: A B\n%typedef: B C\n%typedef: C int\n%type: x A\n" has "x: 1\n") ∷ ("%type: a enum(c) a\n" has "a: a\n") ∷ ("%type: a enum a(b)c\n" has "a: c\n") ∷ ("%type: a enum a (b\n+ c) d\n" has "a: d\n") ∷ ("%type: a enum a a\n" has "a: a\n") ∷ ("%type: a range 3 1\n" has "") ∷ ("%type: a range -3\n" has "") ∷ ("%typedef: enum_ enum x\n%type: a enum_\n" has "a: x\n") ∷ []) ∷ []) ≡ true
unfolding pieces sets_of file_of verdict_in verdict
descriptors-told = refl

-- the rules of a set's records, and which question comes first
rules-told : meeting (
    these 8 (("%prohibit: A\n" has "A: b\n") ∷ ("%prohibit: A\n%allowed: B\n" has "A: b\n") ∷ ("%prohibit: A\n%mandatory: B\n%size: 2\n" has "A: b\n") ∷ []) ∷
    these 9 (("%allowed: A\n" has "B: b\n") ∷ ("%key: Id\n%allowed: A\n" has "Id: 1\nA: b\n") ∷ ("%mandatory: B\n%allowed: A\n" has "A: b\nB: c\n") ∷ ("%allowed: A\n%mandatory: C\n" has "B: b\n") ∷ []) ∷
    these 10 (("%mandatory: A\n" has "B: b\n") ∷ ("%key: A\n" has "B: b\n") ∷ ("%mandatory: %A\n" has "A: b\n") ∷ ("%mandatory: A\n%type: B int\n%size: 2\n" has "B: b\n") ∷ []) ∷
    these 11 (("%unique: A\n" has "A: b\nA: c\n") ∷ ("%key: A\n" has "A: b\nA: c\n") ∷ ("%key: A\n%type: A int\n" has "A: b\nA: c\n") ∷ []) ∷
    these 12 (("%key: A\n%type: A int\n" has "A: b\n\nA: b\n") ∷ []) ∷
    these 13 (("%key: A\n" has "A: b\n\nA: b\n") ∷ ("%key: A\n%size: 1\n" has "A: b\n\nA:\tb\n") ∷ ("%key: A\n" has "A: b\nB: c\n\n# x\nA: \\\nb\n") ∷ []) ∷
    these 14 (("%size: 1\n" has "") ∷ ("%size: 0\n" has "A: b\n") ∷ ("%size: > 1\n" has "A: b\n") ∷ ("%size: < 1\n" has "A: b\n") ∷ ("%size: <= 0\n" has "A: b\n") ∷ ("%size: >= 2\n" has "A: b\n") ∷ []) ∷
    these 0 (("%unique: A\n" has "A: b\n\nA: b\n") ∷ ("%key: A\n" has "A: b\n\nA:  b\n") ∷ ("%prohibit: A\n" has "a: b\n") ∷ ("%size: 1\n" has "# c\n\nA: b\n\n# d\n") ∷ ("%mandatory: A\n" has "") ∷ ("%key: A\n%size: 2\n" has "A: 1\n\nA: 01\n") ∷ []) ∷ []) ≡ true
unfolding pieces sets_of file_of verdict_in verdict
rules-told = refl

-- singular names: in two records and in one; a union, whose last word counts too; values told apart by their bytes alone, however they are written; and which question comes first
singular-told : meeting (
    these 30 (("%singular: A\n" has "A: b\n\nA: b\n") ∷ ("%singular: A\n" has "A: b\nA: b\n") ∷ ("%singular: A\n" has "A: b\nB: c\n# x\nA: b\n") ∷ ("%singular: B A\n" has "A: b\n\nA: b\n") ∷ ("%singular: B\n%singular: C\n+ A\n" has "A: b\n\nB: b\n\nA: b\n") ∷ ("%singular: A A\n" has "A: b\n\nA: b\n") ∷ ("%singular: A\n" has "A: b\n\nA:\tb\n") ∷ ("%singular: A\n" has "A: b\n\nA: \\\nb\n") ∷ ("%singular: A\n" has "A: b\n+ c\n\nA: b\n+c\n") ∷ ("%singular: A\n" has "A:\n\nA: \n") ∷ ("%singular: A\n" has "A: c\n\nA: b\n\nA: d\n\nA: b\n") ∷ ("%singular: A\n%size: 2\n" has "A: b\n\nA: b\n") ∷ ("%singular: A\n" has "A: b\n\nA: b\n\n%rec: U\n%size: 0\n") ∷ []) ∷
    these 13 (("%key: A\n%singular: A\n" has "A: b\n\nA: b\n") ∷ ("%singular: A\n" has "A: b\n\nA: b\n\n%rec: U\n%key: A\n\nA: b\n\nA: b\n") ∷ []) ∷
    these 14 (("%singular: A\n%size: 1\n" has "A: b\n\nA: b\n") ∷ ("%singular: A\n" has "A: b\n\nA: b\n\n%rec: U\n%size: 1\n") ∷ []) ∷
    these 6 (("%singular:\n" has "") ∷ ("%singular: a 1\n" has "") ∷ ("%singular: a,b\n" has "") ∷ []) ∷
    these 5 (("" has "%singular: A\n") ∷ []) ∷
    these 0 (("%singular: A\n" has "A: 1\n\nA: 01\n") ∷ ("%singular: A\n%type: A int\n" has "A: 1\n\nA: 0x1\n\nA: 01\n") ∷ ("%singular: A\n" has "A: b\n\nA: b \n\nA:  b\n\nA: B\n") ∷ ("%singular: A\n" has "A:\n\nA: \n+\n") ∷ ("%singular: A\n" has "A: b\nB: c\n\nB: c\na: b\n") ∷ ("%singular: A B\n" has "A: b\n\nB: b\n") ∷ ("%singular: A\n" has "A: b\n\n%rec: U\n%singular: A\n\nA: b\n") ∷ ("%singular: %A A_\n%singular: A\n" has "") ∷ ("%singular: B\n%unique: A\n" has "A: b\n\nA: b\n") ∷ []) ∷ []) ≡ true
unfolding pieces sets_of file_of verdict_in verdict
singular-told = refl

-- in the default set nothing is singular, and a name that is longer than a field's may be listed
default-told : meeting (
    each 0 ("A: b\n\nA: b\n\n%rec: T\n%singular: A\n\nA: b\n" ∷ []) ∷
    these 0 ((text "%rec: T\n%singular: A " ++ replicate 65 78 ++ text "\n\nA: b\n") ∷ []) ∷ []) ≡ true
unfolding pieces sets_of file_of verdict_in verdict
default-told = refl

-- names that an insert may omit: a list has one, none begins with `%`, one may be longer than a field's; their types, aliases followed, are int or range; and which question comes first
auto-told : meeting (
    these 6 (("%auto:\n" has "") ∷ ("%auto: \t\n" has "") ∷ ("%auto: A\n%auto:\n" has "") ∷ ("%auto: %A\n" has "") ∷ ("%auto: A %rec\n" has "") ∷ ("%auto: a 1\n" has "") ∷ ("%auto: a,b\n" has "") ∷ ("%auto: %A\n%type: A real\n" has "") ∷ ("%autos: A\n" has "") ∷ []) ∷
    these 7 (("%auto: A\n%type: A real\n" has "") ∷ ("%auto: A\n%type: A line\n" has "") ∷ ("%auto: A\n%type: A size 9\n" has "") ∷ ("%auto: A\n%type: A enum 1 2\n" has "") ∷ ("%auto: A\n%type: A bool\n" has "") ∷ ("%auto: A\n%type: A field\n" has "") ∷ ("%auto: A\n%type: A uuid\n" has "") ∷ ("%type: A int\n%type: A line\n%auto: A\n" has "") ∷ ("%auto: B\n%auto: C\n+ A\n%type: D,A real\n" has "") ∷ ("%auto: A\n%typedef: T U\n%typedef: U bool\n%type: A T\n" has "") ∷ ("%auto: A\n%prohibit: A\n%type: A real\n" has "A: 1\n") ∷ ("" has "\n%rec: U\n%auto: A\n%type: A real\n") ∷ []) ∷
    these 5 (("" has "%auto: A\n") ∷ []) ∷
    these 12 (("%auto: A\n%type: A int\n" has "A: b\n") ∷ []) ∷
    these 0 (("%auto: A\n" has "A: b\n") ∷ ("%auto: A\n%type: A int\n" has "B: c\n") ∷ ("%auto: A B\n%type: A,B range 5 3\n%type: A int\n" has "") ∷ ("%auto: A\n%typedef: T U\n%typedef: U range 9\n%type: A T\n" has "A: 9\n") ∷ ("%auto: A\n%type: a,AA,B real\n" has "") ∷ ("%auto: A A\n%auto: A_\n" has "") ∷ ("%auto: A\n" has "\n%rec: U\n%type: A real\n") ∷ []) ∷
    these 0 ((text "%rec: T\n%auto: A " ++ replicate 65 78 ++ text "\n") ∷ []) ∷ []) ≡ true
unfolding pieces sets_of file_of verdict_in verdict
auto-told = refl

-- values and types
types-told : meeting (
    these 0 (typed "int" ("0" ∷ "-0" ∷ "00" ∷ "010" ∷ "-0x0" ∷ "0x1F" ∷ "0xff" ∷ " 7\n+ " ∷ []) ∷ typed "range 2" ("0" ∷ "1" ∷ "2" ∷ []) ∷ typed "range -1 1" ("-1" ∷ "0" ∷ "1" ∷ "-0" ∷ []) ∷ typed "range 1 MAX" ("1" ∷ []) ∷ typed "real" ("1" ∷ "-1.5" ∷ "00.10" ∷ "0" ∷ "12345678901234567890.5" ∷ " 1.5 " ∷ []) ∷ typed "line" ("" ∷ "a b" ∷ "x\\\n+ y" ∷ []) ∷ typed "size 3" ("" ∷ "abc" ∷ " a " ∷ "a\n+ b" ∷ []) ∷ typed "size 0" ("" ∷ []) ∷ typed "enum a b-c 1_ (x)" ("a" ∷ "b-c" ∷ "1_" ∷ " a\n+ " ∷ []) ∷ typed "bool" ("yes" ∷ "no" ∷ "0" ∷ "1" ∷ "true" ∷ "false" ∷ " yes" ∷ []) ∷ typed "field" ("A" ∷ "%" ∷ "a_1" ∷ " %rec " ∷ []) ∷ typed "uuid" ("550e8400-e29b-41d4-a716-446655440000" ∷ "550E8400-E29B-41D4-A716-446655440000" ∷ []) ∷ []) ∷
    these 12 (typed "int" ("08" ∷ []) ∷ typed "int" ("" ∷ []) ∷ typed "int" ("-" ∷ []) ∷ typed "int" ("0x" ∷ []) ∷ typed "int" ("0X1" ∷ []) ∷ typed "int" ("+1" ∷ []) ∷ typed "int" ("1 2" ∷ []) ∷ typed "int" ("1.0" ∷ []) ∷ typed "int" ("--1" ∷ []) ∷ typed "int" ("1a" ∷ []) ∷ typed "range 2" ("3" ∷ []) ∷ typed "range 2" ("-1" ∷ []) ∷ typed "range -1 1" ("2" ∷ []) ∷ typed "range 1 0" ("1" ∷ []) ∷ typed "range MIN" ("0" ∷ []) ∷ typed "real" ("1." ∷ []) ∷ typed "real" (".5" ∷ []) ∷ typed "real" ("1.2.3" ∷ []) ∷ typed "real" ("" ∷ []) ∷ typed "real" ("1e5" ∷ []) ∷ typed "real" ("+1" ∷ []) ∷ typed "line" ("a\n+ b" ∷ []) ∷ typed "size 3" ("abcd" ∷ []) ∷ typed "size 3" ("ab\n+ c" ∷ []) ∷ typed "enum a b" ("c" ∷ []) ∷ typed "enum a b" ("a b" ∷ []) ∷ typed "enum a b" ("A" ∷ []) ∷ typed "bool" ("YES" ∷ []) ∷ typed "bool" ("2" ∷ []) ∷ typed "bool" ("" ∷ []) ∷ typed "field" ("1" ∷ []) ∷ typed "field" ("a b" ∷ []) ∷ typed "field" ("" ∷ []) ∷ typed "uuid" ("550e8400-e29b-41d4-a716-44665544000" ∷ []) ∷ typed "uuid" ("550e8400-e29b-41d4-a716-44665544000g" ∷ []) ∷ typed "uuid" ("550e8400e29b41d4a716446655440000" ∷ []) ∷ typed "uuid" ("550e8400-e29b-41d4-a716-446655440000-" ∷ []) ∷ []) ∷ []) ≡ true
unfolding pieces sets_of file_of verdict_in verdict
types-told = refl

-- numbers at both sides of the ends of int, and beyond 64 bits; each of the second list is a file of its own
abbrev alone : String → List String → List Bytes
alone t vs = map (λ (v : String). typed t (v ∷ [])) vs

abbrev sized : List String → List Bytes
sized vs = map (λ (v : String). text "%rec: T\n%size: " ++ text v ++ text "\n") vs

ends-told : meeting (
    these 0 (typed "int" ("9223372036854775807" ∷ "-9223372036854775808" ∷ "0x7FFFFFFFFFFFFFFF" ∷ "-0x8000000000000000" ∷ "0777777777777777777777" ∷ "-01000000000000000000000" ∷ "123456789012" ∷ "2147483648" ∷ "-2147483649" ∷ "0x80000000" ∷ "040000000000" ∷ []) ∷ typed "range MIN MAX" ("-9223372036854775808" ∷ "9223372036854775807" ∷ []) ∷ typed "range MIN -0x8000000000000000" ("-9223372036854775808" ∷ []) ∷ typed "range MAX 9223372036854775807" ("0x7fffffffffffffff" ∷ []) ∷ typed "range 9223372036854775807" ("0" ∷ "9223372036854775807" ∷ []) ∷ typed "size 9223372036854775807" ("" ∷ "abc" ∷ []) ∷ typed "size 0x7fffffffffffffff" ("abc" ∷ []) ∷ []) ∷
    these 12 (alone "int" ("9223372036854775808" ∷ "-9223372036854775809" ∷ "0x8000000000000000" ∷ "-0x8000000000000001" ∷ "01000000000000000000000" ∷ "-01000000000000000000001" ∷ "10000000000000000000" ∷ "99999999999999999999" ∷ "18446744073709551615" ∷ "18446744073709551616" ∷ "-18446744073709551617" ∷ "0x10000000000000000" ∷ "-0x10000000000000001" ∷ "02000000000000000000000" ∷ []) ++ alone "range MIN -9223372036854775808" ("-9223372036854775807" ∷ []) ++ alone "range MAX MAX" ("9223372036854775806" ∷ "2147483647" ∷ "18446744073709551615" ∷ []) ++ alone "range 0 MAX" ("-1" ∷ "9223372036854775808" ∷ []) ++ alone "range MIN" ("-9223372036854775808" ∷ "0" ∷ [])) ∷
    these 7 (map (λ (t : String). typed t []) ("range 9223372036854775808" ∷ "range -9223372036854775809 0" ∷ "range 0 0x8000000000000000" ∷ "range -01000000000000000000001 0" ∷ "range 18446744073709551617" ∷ "size 9223372036854775808" ∷ "size 18446744073709551616" ∷ "size -0x8000000000000000" ∷ "size -1" ∷ [])) ∷
    these 6 (sized ("9223372036854775808" ∷ "< 0x8000000000000000" ∷ "> 01000000000000000000000" ∷ "18446744073709551616" ∷ "< 18446744073709551617" ∷ "-9223372036854775808" ∷ "<= -1" ∷ [])) ∷
    these 14 (sized ("9223372036854775807" ∷ "> 9223372036854775807" ∷ ">= 0x7fffffffffffffff" ∷ ">= 4294967296" ∷ "4294967296" ∷ [])) ∷
    these 0 (sized ("< 9223372036854775807" ∷ "<= 0777777777777777777777" ∷ "<= 4294967296" ∷ "-00000000000000000000000" ∷ "0x00000000000000000000000" ∷ [])) ∷ []) ≡ true
unfolding pieces sets_of file_of verdict_in verdict
ends-told = refl

-- one value, of any length: some bytes between a front and an end
abbrev filled_by : String → ℕ → ℕ → String → Bytes
filled_by a n c z = text "%rec: T\n%type: A int\n\nA: " ++ text a ++ replicate n c ++ text z ++ text "\n"

-- numerals as long as a value may be (4,096 bytes), of zeros and of other digits, and one byte longer
long-told : meeting (
    these 0 (filled_by "" 4096 48 "" ∷ filled_by "-" 4073 48 "1000000000000000000000" ∷ filled_by "0x" 4078 48 "7fffffffffffffff" ∷ []) ∷
    these 12 (filled_by "" 4096 57 "" ∷ filled_by "" 4074 48 "1000000000000000000000" ∷ filled_by "-0x" 4093 102 "" ∷ []) ∷
    these 4 (filled_by "" 4097 48 "" ∷ []) ∷ []) ≡ true
unfolding pieces sets_of file_of verdict_in verdict
long-told = refl
