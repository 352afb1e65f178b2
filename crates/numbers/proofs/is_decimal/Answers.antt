-- `numbers::is_decimal` meets its contract.
use mathlib.Core.Path.{sym, ◌∙◌}
use Prim.Native.Nat.{◌+◌}
use native.Mathlib.Omega.{arith}
use borrow.Author.Tests.{le-leb}
use lib.Seq.{length-take-le}
use Rattle.lines.proofs.Cuts.{rest}
use Rattle.words.specs.Spans.{not_byte}
use Rattle.words.proofs.Finding.{run-le}
use Rattle.numbers.proofs.Decimals.{decimal-dotted, decimal-plain, decimal-not}
use Rattle.numbers.proofs.is_decimal.Goals as goal

pub slice_bounds-are_digits-end : goal.slice_bounds-are_digits-end
slice_bounds-are_digits-end c =
    sym (length-take-le c.part_end-e.result c.args.s.now (omega (arith, c.part_end-e.ensures, run-le (not_byte 46) c.args.s.now)))

pub returns-then-not-are_digits : goal.returns-then-not-are_digits
returns-then-not-are_digits c =
    let s = c.args.s.now in
    sym (decimal-not s (rw (← c.part_end-e.ensures, ← c.are_digits.ensures) c.if-not-are_digits.true))

pub returns-then-s-e : goal.returns-then-s-e
returns-then-s-e c =
    let s = c.args.s.now in
    let d = rw (← c.part_end-e.ensures) at (decimal-plain s (omega (arith, c.part_end-e.ensures, c.if-s-e.true))) in
    sym (d ∙ rw (← c.are_digits.ensures, c.if-not-are_digits.false) (sym (le-leb _ _ c.if-s-e.true)))

pub returns-else-s-e : goal.returns-else-s-e
returns-else-s-e c =
    let s = c.args.s.now in
    let d = rw (← c.part_end-e.ensures) at (decimal-dotted s (omega (arith, c.part_end-e.ensures, c.if-s-e.false))) in
    sym (d ∙ rw (← c.are_digits.ensures, c.if-not-are_digits.false, ← rest s (c.part_end-e.result + 1)) (sym c.are_digits-else-s-e.ensures))
