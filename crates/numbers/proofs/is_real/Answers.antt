-- `numbers::is_real` meets its contract.
use mathlib.Core.Path.{sym, ap, ◌∙◌}
use mathlib.Core.Bool.{false}
use native.Mathlib.Omega.{arith}
use Rattle.format.specs.Bytes.{Bytes, is_some}
use Rattle.format.specs.Numbers.{decimal_in}
use Rattle.lines.proofs.Cuts.{rest}
use Rattle.words.proofs.Finding.{byte_inside}
use Rattle.numbers.proofs.Decimals.{real-minus, real-plain}
use Rattle.numbers.proofs.is_real.Goals as goal

pub slice_bounds-is_decimal-count : goal.slice_bounds-is_decimal-count
slice_bounds-is_decimal-count c =
    byte_inside c.args.s.now 0 (omega (arith, c.byte.ensures, c.if-byte-eq45.true))

pub slice_bounds-is_decimal-start : goal.slice_bounds-is_decimal-start
slice_bounds-is_decimal-start c =
    byte_inside c.args.s.now 0 (omega (arith, c.byte.ensures, c.if-byte-eq45.true))

pub returns-then-byte-eq45 : goal.returns-then-byte-eq45
returns-then-byte-eq45 c =
    let s = c.args.s.now in
    c.is_decimal.ensures ∙ (ap (λ (t : Bytes). is_some (decimal_in false t)) (rest s 1) ∙ sym (real-minus s (sym c.byte.ensures ∙ c.if-byte-eq45.true)))

pub returns-else-byte-eq45 : goal.returns-else-byte-eq45
returns-else-byte-eq45 c =
    c.is_decimal-else-byte-eq45.ensures ∙ sym (real-plain c.args.s.now (λ e. c.if-byte-eq45.false (c.byte.ensures ∙ e)))
