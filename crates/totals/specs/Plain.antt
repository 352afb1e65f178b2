-- A value that is one plain line of digits, with a dot among them or not.
use Rattle.std.specs.Prelude.{ℕ, ◌+◌, ◌-◌, ◌^◌, ◌≤◌, ◌<◌, ◌≡◌, Bool, pos, drop, get_or, Option, Some, None}
use Rattle.std.proofs.Math.Option.{some}
use Rattle.format.specs.Bytes.{Bytes}
use Rattle.format.specs.Numbers.{digit}
use Rattle.values.specs.Value.{value_from}
use Rattle.totals.specs.Totals.{whole_digits, fraction_digits, millionths_of}
use Rattle.totals.specs.Figures.{read_on}
use Rattle.totals.specs.declared.figures.Figure.{Figure}

-- the bytes from i to j, which is not behind e, are digits; behind those of m they make q
pub record Run (s : Bytes) (i e m j q : ℕ) : Type 0 where
  pub on : i ≤ j
  pub before : j ≤ e
  pub first : i < j → digit (get_or s i 0) < 10
  pub small : (k : ℕ) → m < 10 ^ k → q < 10 ^ (k + (j - i))
  pub whole : (n : Bool) (k : ℕ) → k + (j - i) ≤ whole_digits → read_on (Figure.Whole n k m) (value_from (drop i s)) ≡ read_on (Figure.Whole n (k + (j - i)) q) (value_from (drop j s))
  pub fraction : (n : Bool) (k : ℕ) → k + (j - i) ≤ fraction_digits → read_on (Figure.Fraction n k m) (value_from (drop i s)) ≡ read_on (Figure.Fraction n (k + (j - i)) q) (value_from (drop j s))

-- what is told of a plain value
abbrev pub PlainTold : Bytes → Option ℕ → Type 0
PlainTold s (Some m) = (m < 100000000000000) × (millionths_of (value_from s) ≡ some (pos m))
PlainTold s None = Unit {0}
