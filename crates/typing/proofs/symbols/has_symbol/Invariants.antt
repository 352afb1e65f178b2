-- `typing::symbols::has_symbol` meets its contract. The invariant: the symbol is among the words if it is among those of the rest, and their comments are closed.
use mathlib.Core.Path.{◌≡◌}
use mathlib.Core.Bool.{true}
use lib.ListN.{length}
use Rattle.typing.specs.Symbols.{symbols_of}
use Rattle.typing.proofs.Comments.{among_in, are_read}
use Rattle.typing.proofs.symbols.has_symbol.Given as goal

abbrev pub invariant-loop-start : goal.invariant-loop-start
invariant-loop-start l = (among_in l.v (symbols_of l.s) ≡ among_in l.v (symbols_of l.rest)) × (are_read (symbols_of l.rest) ≡ true)

abbrev pub decreases-loop-start : goal.decreases-loop-start
decreases-loop-start l = length l.rest
