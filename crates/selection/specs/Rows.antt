-- What the code's program and the state of its making stand for, over the bytes of the expression.
use Rattle.std.specs.Prelude.{ℕ, ◌+◌, ◌≤◌, ◌≡◌, Bool, true, false, List, [], ◌++◌, map, length, take, get_or, Option as Maybe, Some, None}
use Rattle.std.proofs.Math.Option.{Option, none, some}
use Rattle.format.specs.Bytes.{Bytes, is_some}
use Rattle.words.specs.Spans.{span}
use Rattle.numbers.specs.Meaning.{int_in}
use Rattle.selection.specs.Expressions.{Operand as Compared, int, string, Expression, Sign, bytes_at_most}
use Rattle.selection.specs.Reading.{Front, no_part, one_blank, one_part, read_expression}
use Rattle.selection.specs.Meaning.{satisfies}
use Rattle.selection.specs.Tokens.{operator_in}
use Rattle.selection.specs.Programs.{Test, code_no, IsProgram, Progress, to_stage, past_sign, past, tests_with, codes_of, codes_of_sign}
use Rattle.selection.specs.declared.parts.Operator.{Operator}
use Rattle.selection.specs.declared.programs.Operand.{Operand}
use Rattle.selection.specs.declared.programs.Comparison.{Comparison}
use Rattle.selection.specs.declared.programs.Program.{Program}
use Rattle.selection.specs.declared.programs.Step.{Step}
use Rattle.selection.specs.declared.programs.Reading.{Reading}

-- 256 bytes hold so many comparisons: three bytes each, and two for each joint
abbrev pub tests_at_most : ℕ
tests_at_most = 51

abbrev pub operand_in : Bytes → Operand → Compared
operand_in s (Operand.Int w) = int (int_in w)
operand_in s (Operand.Text a e) = string (span a e s)

abbrev pub test_in : Bytes → Comparison → Test
test_in s c = record { name = span c.start c.end s; operator = operator_in c.operator; operand = operand_in s c.operand }

abbrev pub tests_in : Bytes → Program → List Test
tests_in s p = map (test_in s) (take p.count p.rows)

abbrev pub codes_in : Program → List ℕ
codes_in p = map code_no (take p.size p.codes)

abbrev pub step_no : Step → ℕ
step_no Step.Wanted = 0
step_no Step.Named = 1
step_no Step.Compared = 2
step_no Step.Read = 3
step_no Step.Fault = 4

abbrev pub progress_in : Bytes → Reading → Progress
progress_in s r = record { stage = step_no r.stage; groups = r.groups; name = span r.start r.end s; operator = operator_in r.operator }

-- its arrays, filled no further than they are long
pub record Filled (p : Program) : Type 0 where
  pub rows_long : length p.rows ≡ tests_at_most
  pub codes-long : length p.codes ≡ bytes_at_most
  pub few : p.count ≤ tests_at_most
  pub short : p.size ≤ bytes_at_most

-- one program is another with codes more, one at most
pub record Extends (p q : Program) (cs : List ℕ) : Type 0 where
  pub filled : Filled q
  pub codes : codes_in q ≡ codes_in p ++ cs
  pub one : q.size ≤ p.size + 1

-- past what a text begins with: what is no part is no expression, and a blank changes nothing
abbrev pub past_symbol : Option Sign → Progress → Progress
past_symbol none g = to_stage 4 g
past_symbol (some x) g = past_sign x g

abbrev pub codes_of_symbol : Option Sign → List ℕ
codes_of_symbol none = []
codes_of_symbol (some x) = codes_of_sign x

abbrev pub past_front : Front → Progress → Progress
past_front no_part g = to_stage 4 g
past_front one_blank g = g
past_front (one_part p n) g = past p g

abbrev pub tests_front : Progress → Front → List Test → List Test
tests_front g no_part ts = ts
tests_front g one_blank ts = ts
tests_front g (one_part p n) ts = tests_with g p ts

abbrev pub codes_front : Front → List ℕ
codes_front no_part = []
codes_front one_blank = []
codes_front (one_part p n) = codes_of p

-- the program of the bytes, if they are an expression
abbrev pub ProgramOf : Bytes → Option Expression → Program → Type 0
ProgramOf s none p = Unit {0}
ProgramOf s (some e) p = IsProgram e (tests_in s p) (codes_in p)

-- what is made of bytes: a program where they are an expression, and only there
abbrev pub Made : Bytes → Maybe Program → Type 0
Made s (Some p) = (is_some (read_expression s) ≡ true) × Filled p × ProgramOf s (read_expression s) p
Made s None = is_some (read_expression s) ≡ false

-- the name and the test of comparison k
abbrev pub no_comparison : Comparison
no_comparison = record { start = 0; end = 0; operator = Operator.Equals; operand = Operand.Text 0 0 }

abbrev pub test_at : Bytes → List Comparison → ℕ → Test
test_at s cs k = test_in s (get_or cs k no_comparison)

abbrev pub name_at : Bytes → List Comparison → ℕ → Bytes
name_at s cs k = (test_at s cs k).name

abbrev pub satisfies_at : Bytes → List Comparison → ℕ → Bytes → Bool
satisfies_at s cs k v = satisfies (test_at s cs k).operator (test_at s cs k).operand v
