-- The bytes before `at` are digits, and m is what they make.
use Rattle.totals.specs.Plain.{Run}
use Rattle.totals.proofs.plain.read_digits.Given as goal

abbrev pub invariant-loop-at : goal.invariant-loop-at
invariant-loop-at l = Run l.s l.i l.end l.number l.at l.m
