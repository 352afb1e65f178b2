-- `typing::symbols::is_symbol` meets its contract.
use mathlib.Core.Path.{sym}
use native.Mathlib.Omega.{arith}
use lib.ListN.{get_or}
use Rattle.std.proofs.Common.{◌≡◌, true, false, rules, tests}
use mathlib.Core.Bool.{◌||◌}
use Rattle.format.specs.Bytes.{is_letter, is_digit}
use Rattle.format.proofs.Table.{letter-class, digit-class}
use Rattle.typing.proofs.Spelling.{symbol-by, symbol-not-empty}
use Rattle.typing.proofs.symbols.is_symbol.Goals as goal

pub returns-then-s-eq0 : goal.returns-then-s-eq0
returns-then-s-eq0 c =
    sym (symbol-not-empty c.args.s.now c.if-s-eq0.true)

pub returns : goal.returns
returns c =
    let s = c.args.s.now in
    let b = get_or s 0 0 in
    let k : is_letter b || is_digit b ≡ true = rw (letter-class b (omega (arith, c.type_inv.s 0)), digit-class b (omega (arith, c.type_inv.s 0)), ← c.class-k.ensures) (search (rules, tests)) in
    rw (symbol-by s (omega arith), k, ← c.symbol_bytes.ensures)

pub returns-then-k-ne-DIGIT : goal.returns-then-k-ne-DIGIT
returns-then-k-ne-DIGIT c =
    let s = c.args.s.now in
    let b = get_or s 0 0 in
    let k : is_letter b || is_digit b ≡ false = rw (letter-class b (omega (arith, c.type_inv.s 0)), digit-class b (omega (arith, c.type_inv.s 0)), ← c.class-k.ensures) (search (rules, tests)) in
    rw (symbol-by s (omega arith), k)
