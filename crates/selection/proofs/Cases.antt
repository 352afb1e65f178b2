-- Computed: bytes that are read, as which expression, and bytes that are not; both limits at both sides; for which record an expression holds.
use mathlib.Core.Path.{◌≡◌, refl}
use mathlib.Core.Bool.{Bool, true, false}
use mathlib.Core.List.{List, [], ◌∷◌, ◌++◌, map}
use mathlib.Core.Option.{none, some}
use lib.ListN.{replicate}
use Rattle.format.specs.Bytes.{Bytes, text, is_some}
use Rattle.format.specs.Lists.{onward, flat}
use Rattle.format.specs.Numbers.{plus, minus}
use Rattle.format.specs.Records.{Record}
use Rattle.selection.specs.Expressions.{equals, differs, less_than, at_most, more_than, at_least, int, string, Expression, comparison, negation, conjunction, disjunction, Part}
use Rattle.selection.specs.Reading.{parts_of, beginning, read_expression}
use Rattle.selection.specs.Meaning.{holds}

-- three comparisons
abbrev a : Expression
a = comparison (text "a") equals (int (plus 1))

abbrev b : Expression
b = comparison (text "b") differs (string (text "x"))

abbrev c : Expression
c = comparison (text "c") at_least (int (minus 5))

accepted : map read_expression
    (text "a=1" ∷ text " a  =\t1 " ∷ text "b!='x'" ∷ text "c>=-5" ∷ text "!a=1" ∷ text "! !a=1" ∷ text "(a=1)" ∷ text "( ( a=1 ) )" ∷
    text "a=1&&b!='x'||c>=-5" ∷ text "a=1 || b!='x' && c>=-5" ∷ text "a=1||b!='x'||c>=-5" ∷ text "a=1&&b!='x'&&c>=-5" ∷ text "a=1&&(b!='x'||c>=-5)" ∷ text "!(a=1)&&!b!='x'" ∷
    text "a<0x1F" ∷ text "a<=010" ∷ text "a>-0" ∷ text "%a=''" ∷ text "a=' '" ∷ text "a=9223372036854775807" ∷ text "a=-9223372036854775808" ∷ text "(a=1)(" ∷ [])
    ≡ some a ∷ some a ∷ some b ∷ some c ∷ some (negation a) ∷ some (negation (negation a)) ∷ some a ∷ some a ∷
    some (disjunction (conjunction a b) c) ∷ some (disjunction a (conjunction b c)) ∷ some (disjunction (disjunction a b) c) ∷ some (conjunction (conjunction a b) c) ∷ some (conjunction a (disjunction b c)) ∷ some (conjunction (negation a) (negation b)) ∷
    some (comparison (text "a") less_than (int (plus 31))) ∷ some (comparison (text "a") at_most (int (plus 8))) ∷ some (comparison (text "a") more_than (int (minus 0))) ∷
    some (comparison (text "%a") equals (string [])) ∷ some (comparison (text "a") equals (string (text " "))) ∷
    some (comparison (text "a") equals (int (plus 9223372036854775807))) ∷ some (comparison (text "a") equals (int (minus 9223372036854775808))) ∷ none ∷ []
unfolding read_expression
accepted = refl

-- which of some texts are read
abbrev reads : List Bytes → List Bool
reads ss = map (λ (s : Bytes). is_some (read_expression s)) ss

refused : reads
    (text "" ∷ text "  " ∷ text "a" ∷ text "a=" ∷ text "a=b" ∷ text "a! =1" ∷ text "a< =1" ∷ text "a=1 & &b=1" ∷ text "a=1|b=1" ∷ text "a=08" ∷ text "a=1.5" ∷ text "a=+1" ∷ text "a=- 1" ∷ text "a=1x" ∷
    text "a=9223372036854775808" ∷ text "a<'x'" ∷ text "a='x" ∷ text "a='x'y" ∷ text "(a=1" ∷ text "a=1)" ∷ text "()" ∷ text "a=1&&" ∷ text "&&a=1" ∷ text "a=1 b=1" ∷ text "a=1\n" ∷ text "!=1" ∷ text "a==1" ∷ text "1=a" ∷ [])
    ≡ replicate 28 false
unfolding read_expression
refused = refl

abbrev times : Bytes → Bytes → Bytes
times s t = flat (replicate 16 s) ++ t

-- 16 and 17 parentheses, 20 side by side, 256 and 257 bytes, 253 `!`
limits : reads
    (times (text "(") (text "a=1" ++ times (text ")") []) ∷ times (text "(") (text "(a=1)" ++ times (text ")") []) ∷
    (flat (replicate 20 (text "(a=1)||")) ++ text "a=1") ∷ (text "a=1" ++ replicate 253 32) ∷ (text "a=1" ++ replicate 254 32) ∷ (replicate 253 33 ++ text "a=1") ∷ [])
    ≡ true ∷ false ∷ true ∷ true ∷ false ∷ true ∷ []
unfolding read_expression
limits = refl

abbrev receipt : Record
receipt = record { name = text "a"; value = text "x"; count = 0 } ∷ record { name = text "a"; value = text " 0x1\n"; count = 0 } ∷ record { name = text "b"; value = text "x"; count = 0 } ∷ []

meanings : map (λ (e : Expression). holds e receipt)
    (a ∷ b ∷ c ∷ negation a ∷ negation c ∷ conjunction a b ∷ disjunction a b ∷ comparison (text "a") differs (int (plus 1)) ∷ comparison (text "a") less_than (int (plus 2)) ∷ comparison (text "a") equals (string (text "x")) ∷ comparison (text "a") differs (string (text "x")) ∷ [])
    ≡ true ∷ false ∷ false ∷ false ∷ true ∷ false ∷ true ∷ false ∷ true ∷ true ∷ true ∷ []
unfolding holds
meanings = refl
