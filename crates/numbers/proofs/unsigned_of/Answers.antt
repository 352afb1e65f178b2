-- `numbers::unsigned_of` meets its contract.
use native.Mathlib.Nat.{add-zero}
use borrow.Author.Tests.{eq-eqb, ne_eqb}
use lib.Seq.{get_or-drop, drop-drop}
use Rattle.numbers.proofs.unsigned_of.Goals as goal

pub returns-then-byte-eq120 : goal.returns-then-byte-eq120
returns-then-byte-eq120 c =
    rw (get_or-drop, add-zero, get_or-drop, drop-drop 2 c.args.from c.args.s.now, ← c.byte.ensures, eq-eqb _ _ c.if-byte-eq48.true, ← c.byte-then-byte-eq48.ensures, eq-eqb _ _ c.if-byte-eq120.true) c.natural_of.ensures

pub returns-then-byte-eq48 : goal.returns-then-byte-eq48
returns-then-byte-eq48 c =
    rw (get_or-drop, add-zero, get_or-drop, ← c.byte.ensures, eq-eqb _ _ c.if-byte-eq48.true, ← c.byte-then-byte-eq48.ensures, ne_eqb _ _ c.if-byte-eq120.false) c.natural_of-then-byte-eq48.ensures

pub returns : goal.returns
returns c =
    rw (get_or-drop, add-zero, ← c.byte.ensures, ne_eqb _ _ c.if-byte-eq48.false) c.natural_of-2.ensures
