-- `terms::find_all` meets its contract: no entry is before the first.
use native.Mathlib.Omega.{arith}
use mathlib.Core.Bool.{false≢true}
use Rattle.terms.proofs.find_all.Goals as goal

pub find_from-requires : goal.find_from-requires
find_from-requires c =
    record { entries = c.requires.entries; print_value = c.requires.print_value; from_in_bounds = (omega arith, λ q h. absurd (omega arith)); rising = λ e. absurd (false≢true e) }
