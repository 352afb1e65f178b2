-- `sorting::mix_byte` meets its contract.
use native.Mathlib.Omega.{arith}
use mathlib.Core.Path.{refl}
use Rattle.sorting.specs.Texts.{mixed}
use Rattle.sorting.proofs.mix_byte.Goals as goal

pub returns : goal.returns
unfolding mixed
returns c = (refl, omega arith)
