-- `lines::read_piece` meets its contract: the first byte tells the form.
-- the place of the first newline is the line's length
use Prim.Native.Nat.{ℕ, ◌+◌}
use native.Mathlib.Omega.{arith}
use mathlib.Core.Path.{◌≡◌, sym}
use borrow.Author.Tests.{eq-eqb, ne_eqb}
use lib.ListN.{drop}
use Rattle.format.specs.Bytes.{Bytes}
use Rattle.lines.specs.Line.{line_len}
use Rattle.lines.proofs.Cuts.{line-inside}
use Rattle.lines.proofs.Nexts.{next-end, next-newline}
use Rattle.lines.proofs.Faultless.{next_low, high-named}
use Rattle.lines.proofs.read_piece.Goals as goal

at-newline : (s : Bytes) (n : ℕ) → n ≡ 0 + line_len (drop 0 s) → line_len s ≡ n
at-newline s n e = omega (arith, e)

pub returns-then-s-eq0 : goal.returns-then-s-eq0
returns-then-s-eq0 c =
    sym (next-end c.args.s.now c.if-s-eq0.true)

pub returns-then-b-eq10 : goal.returns-then-b-eq10
returns-then-b-eq10 c =
    sym (next-newline c.args.s.now (omega arith) c.if-b-eq10.true)

pub read_field-requires : goal.read_field-requires
read_field-requires c =
    record { s_value = c.requires.s_value; s_nonzero = high-named c.args.s.now (omega arith) c.if-b-gt35.true c.requires.s_value_2; s_value_2 = c.requires.s_value_2 }

pub overflow_add-result : goal.overflow_add-result
overflow_add-result c =
    omega (arith, c.line_end-n.ensures.0, line-inside c.args.s.now c.requires.s_value (omega arith))

pub returns-then-b-eq35 : goal.returns-then-b-eq35
returns-then-b-eq35 c =
    rw (next_low c.args.s.now (omega arith) (omega (arith, c.if-b-gt35.false)) c.requires.s_value_2, eq-eqb _ _ c.if-b-eq35.true, at-newline c.args.s.now c.line_end-n.result c.line_end-n.ensures.0)

pub overflow_add-result-2 : goal.overflow_add-result-2
overflow_add-result-2 c =
    omega (arith, c.line_end-n.ensures.0, line-inside c.args.s.now c.requires.s_value (omega arith))

pub returns : goal.returns
returns c =
    rw (next_low c.args.s.now (omega arith) (omega (arith, c.if-b-gt35.false)) c.requires.s_value_2, ne_eqb _ _ c.if-b-eq35.false, at-newline c.args.s.now c.line_end-n.result c.line_end-n.ensures.0)
