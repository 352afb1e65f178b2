-- An expression as a program: its comparisons one after another, and codes that are run over their bits, one level of parentheses at a time.
use Rattle.std.specs.Prelude.{ℕ, ◌+◌, ◌-◌, ◌*◌, ◌/◌, ◌%◌, ◌<◌, ◌≡◌, Bool, true, false, ◌&&◌, not, List, [], ◌∷◌, ◌++◌, eqb, ltb, length, get_or}
use Rattle.format.specs.Bytes.{Bytes, pick, any}
use Rattle.format.specs.Records.{Record}
use Rattle.format.specs.Sets.{values_of}
use Rattle.terms.specs.Sets.{in_set}
use Rattle.selection.specs.Expressions.{Operator, equals, Operand, string, Expression, Sign, comparing, not_sign, and_sign, or_sign, open_sign, close_sign, Part, field_name, operand, sign, open_at_most}
use Rattle.selection.specs.Reading.{may_take}
use Rattle.selection.specs.Meaning.{satisfies, holds}
use Rattle.selection.specs.declared.runs.Machine.{Machine}
use Rattle.selection.specs.declared.runs.Code.{Code}

-- a comparison
pub record Test : Type 0 where
  pub name : Bytes
  pub operator : Operator
  pub operand : Operand

abbrev pub no_test : Test
no_test = record { name = []; operator = equals; operand = string [] }

abbrev pub meets : Record → Test → Bool
meets r t = any (satisfies t.operator t.operand) (values_of t.name r)

-- bit k tells whether comparison k holds for a record
abbrev pub Told : Record → List Test → ℕ → Type 0
Told r ts bits = (k : ℕ) → k < length ts → in_set k bits ≡ meets r (get_or ts k no_test)

-- Running

-- A level is a number of three bits: does something left of the last `||` hold (1), does all behind it and before here (2), is the number of `!` before here odd (4).
-- The levels around it are the digits of a number, the innermost the lowest; and there are the bits that were not used yet.

abbrev pub differ : Bool → Bool → Bool
differ true b = not b
differ false b = b

-- the codes: 0 a comparison, 1 `!`, 2 `||`, 3 `(`, 4 `)`; `&&` needs none
abbrev pub code_no : Code → ℕ
code_no Code.Test = 0
code_no Code.Not = 1
code_no Code.Or = 2
code_no Code.Open = 3
code_no Code.Close = 4

-- with the answer of an operand
abbrev pub answered_by : ℕ → Bool → ℕ
answered_by x b = pick (eqb (x / 2 % 2) 1 && differ (eqb (x / 4) 1) b) (x % 2 + 2) (x % 2)

-- with one more `!`, and behind a `||`
abbrev pub inverted : ℕ → ℕ
inverted x = (x % 8 + 4) % 8

abbrev pub joined : ℕ → ℕ
joined x = pick (eqb (x % 4) 0) 2 3

-- the answer of a level, and a level at its beginning
abbrev pub whole_answer : ℕ → Bool
whole_answer x = not (eqb (x % 4) 0)

abbrev pub level_start : ℕ
level_start = 2

-- the digits that leave room for one more
abbrev pub outer_room : ℕ
outer_room = 1152921504606846976

abbrev pub on_test : Machine → Machine
on_test m = record { level = answered_by m.level (in_set 0 m.bits); outer = m.outer; bits = m.bits / 2 }

abbrev pub on_level : ℕ → Machine → Machine
on_level x m = record { level = x; outer = m.outer; bits = m.bits }

abbrev pub on_open : Machine → Machine
on_open m = record { level = level_start; outer = m.outer % outer_room * 8 + m.level % 8; bits = m.bits }

abbrev pub on_close : Machine → Machine
on_close m = record { level = answered_by (m.outer % 8) (whole_answer m.level); outer = m.outer / 8; bits = m.bits }

-- past one code
abbrev pub on_code : ℕ → Machine → Machine
on_code c m =
    pick (eqb c 0) (on_test m)
    (pick (eqb c 1) (on_level (inverted m.level) m)
    (pick (eqb c 2) (on_level (joined m.level) m)
    (pick (eqb c 3) (on_open m) (on_close m))))

abbrev pub runs : List ℕ → Machine → Machine
runs [] m = m
runs (c ∷ cs) m = runs cs (on_code c m)

abbrev pub started : ℕ → Machine
started bits = record { level = level_start; outer = 0; bits = bits }

unfoldable pub run_answer : List ℕ → ℕ → Bool
run_answer cs bits = whole_answer (runs cs (started bits)).level

-- the program does what the expression says
abbrev pub IsProgram : Expression → List Test → List ℕ → Type 0
IsProgram e ts cs = (r : Record) (bits : ℕ) → Told r ts bits → run_answer cs bits ≡ holds e r

-- Making

-- How far the reading is: an operand is wanted (0), its name is read (1), its operator too (2), it is read (3); 4 is no expression.
pub record Progress : Type 0 where
  pub stage : ℕ
  pub groups : ℕ
  pub name : Bytes
  pub operator : Operator

abbrev pub to_stage : ℕ → Progress → Progress
to_stage k g = record { stage = k; groups = g.groups; name = g.name; operator = g.operator }

abbrev pub to_groups : ℕ → Progress → Progress
to_groups d g = record { stage = g.stage; groups = d; name = g.name; operator = g.operator }

abbrev pub if_at : ℕ → Progress → Progress → Progress
if_at k g h = pick (eqb g.stage k) h (to_stage 4 g)

abbrev pub past_name : Bytes → Progress → Progress
past_name w g = if_at 0 g (record { stage = 1; groups = g.groups; name = w; operator = g.operator })

abbrev pub past_operand : Operand → Progress → Progress
past_operand v g = if_at 2 g (to_stage (pick (may_take g.operator v) 3 4) g)

abbrev pub past_sign : Sign → Progress → Progress
past_sign (comparing o) g = if_at 1 g (record { stage = 2; groups = g.groups; name = g.name; operator = o })
past_sign not_sign g = if_at 0 g (to_stage 0 g)
past_sign and_sign g = if_at 3 g (to_stage 0 g)
past_sign or_sign g = if_at 3 g (to_stage 0 g)
past_sign open_sign g = if_at 0 g (pick (ltb g.groups open_at_most) (to_groups (g.groups + 1) g) (to_stage 4 g))
past_sign close_sign g = if_at 3 g (pick (eqb g.groups 0) (to_stage 4 g) (to_groups (g.groups - 1) g))

abbrev pub past : Part → Progress → Progress
past (field_name w) g = past_name w g
past (operand v) g = past_operand v g
past (sign x) g = past_sign x g

-- the comparisons and the codes so far, with those of a part
abbrev pub tests_with : Progress → Part → List Test → List Test
tests_with g (field_name w) ts = ts
tests_with g (operand v) ts = pick (eqb g.stage 2) (ts ++ (record { name = g.name; operator = g.operator; operand = v } ∷ [])) ts
tests_with g (sign x) ts = ts

abbrev pub codes_of_sign : Sign → List ℕ
codes_of_sign (comparing o) = []
codes_of_sign not_sign = 1 ∷ []
codes_of_sign and_sign = []
codes_of_sign or_sign = 2 ∷ []
codes_of_sign open_sign = 3 ∷ []
codes_of_sign close_sign = 4 ∷ []

abbrev pub codes_of : Part → List ℕ
codes_of (field_name w) = []
codes_of (operand v) = 0 ∷ []
codes_of (sign x) = codes_of_sign x
