-- `dictionary::pass_types` meets its contract. The invariant: as many fields are passed as counted.
use Rattle.format.specs.Bytes.{text}
use Rattle.typedefs.proofs.Placing.{Passed}
use Rattle.dictionary.proofs.pass_types.Given as goal

abbrev pub invariant-loop-row : goal.invariant-loop-row
invariant-loop-row l = Passed l.d (text "%type") l._row l.i
