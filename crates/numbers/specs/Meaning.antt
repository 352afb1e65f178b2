-- The definitions' number or answer for each case of an enum.
use Rattle.std.specs.Prelude.{ℕ, leb, Option as Maybe, Some, None}
use Rattle.std.proofs.Math.Option.{Option, none, some}
use Rattle.format.specs.Lists.{only_if}
use Rattle.format.specs.Numbers.{Int, plus, minus, Bounds}
use Rattle.numbers.specs.declared.Whole.{Whole}
use Rattle.numbers.specs.declared.Ends.{Ends}

abbrev pub int_in : Whole → Int
int_in (Whole.Minus n) = minus n
int_in (Whole.Plus n) = plus n

abbrev pub bounds_in : Ends → Bounds
bounds_in e = record { least = e.least; greatest = e.greatest }

abbrev pub int_answer : Maybe Whole → Option Int
int_answer (Some x) = some (int_in x)
int_answer None = none

abbrev pub natural_answer : Maybe ℕ → Option ℕ
natural_answer (Some n) = some n
natural_answer None = none

-- a number where it is at most a limit
abbrev pub up_to_limit : ℕ → Option ℕ → Option ℕ
up_to_limit limit none = none
up_to_limit limit (some n) = only_if (leb n limit) n
