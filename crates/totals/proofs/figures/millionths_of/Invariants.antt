-- What has been seen so far, with the bytes that are left, makes what the whole text makes.
use mathlib.Core.Path.{◌≡◌}
use lib.ListN.{drop}
use Rattle.totals.specs.Totals.{millionths_of}
use Rattle.totals.specs.Figures.{read_on, Within}
use Rattle.totals.proofs.figures.millionths_of.Given as goal

abbrev pub invariant-loop-b : goal.invariant-loop-b
invariant-loop-b l = Within l.f × (millionths_of l.v ≡ read_on l.f (drop l.b-index l.v))
