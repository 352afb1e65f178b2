-- `enums::add_symbols` meets its contract. The invariant: what is left are the symbols from a place on. The measure is what is left of the text.
use Prim.Native.Nat.{◌-◌}
use lib.ListN.{length}
use Rattle.enums.proofs.Reading.{SymbolsLeft}
use Rattle.enums.proofs.add_symbols.Given as goal

abbrev pub invariant-loop-byte : goal.invariant-loop-byte
invariant-loop-byte l = SymbolsLeft l.d l.initial.entries l.n l.tag l.v l.entries l.k l.at

abbrev pub decreases-loop-byte : goal.decreases-loop-byte
decreases-loop-byte l = length l.d - l.at
