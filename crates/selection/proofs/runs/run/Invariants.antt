-- `selection::runs::run` meets its contract. The invariant: all codes from the start do what those from here on do to what was reached.
use mathlib.Core.Path.{◌≡◌}
use mathlib.Core.List.{map}
use lib.ListN.{drop}
use Rattle.selection.specs.Programs.{code_no, runs, started}
use Rattle.selection.proofs.runs.run.Given as goal

abbrev pub invariant-loop-c : goal.invariant-loop-c
invariant-loop-c l = runs (map code_no l.codes) (started l.bits) ≡ runs (map code_no (drop l.c-index l.codes)) l.m
