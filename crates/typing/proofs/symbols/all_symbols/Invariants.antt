-- `typing::symbols::all_symbols` meets its contract. The invariant: all words are symbols if those of the rest are. The measure is the rest.
use mathlib.Core.Path.{◌≡◌}
use lib.ListN.{length}
use Rattle.typing.specs.Symbols.{symbols_of, are_symbols}
use Rattle.typing.proofs.symbols.all_symbols.Given as goal

abbrev pub invariant-loop-start : goal.invariant-loop-start
invariant-loop-start l = are_symbols (symbols_of l.s) ≡ are_symbols (symbols_of l.rest)

abbrev pub decreases-loop-start : goal.decreases-loop-start
decreases-loop-start l = length l.rest
