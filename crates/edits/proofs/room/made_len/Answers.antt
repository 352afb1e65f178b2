-- `edits::room::made_len` meets its contract: a text that is not empty has a newline more.
use mathlib.Core.Path.{sym, ap}
use mathlib.Core.Bool.{Bool}
use Prim.Native.Nat.{◌+◌}
use borrow.Author.Tests.{eq-eqb, ne_eqb}
use Rattle.format.specs.Bytes.{pick}
use Rattle.edits.proofs.room.made_len.Goals as goal

pub returns-then-used-eq0 : goal.returns-then-used-eq0
returns-then-used-eq0 c =
    let a = c.args in
    sym (ap (λ (b : Bool). pick b a.len (a.used + a.len + 1)) (eq-eqb a.used 0 c.if-used-eq0.true))

pub returns : goal.returns
returns c =
    let a = c.args in
    sym (ap (λ (b : Bool). pick b a.len (a.used + a.len + 1)) (ne_eqb a.used 0 c.if-used-eq0.false))
