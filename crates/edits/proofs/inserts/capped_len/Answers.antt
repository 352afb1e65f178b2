-- `edits::inserts::capped_len` meets its contract: what is too long for a file is answered as it is, and else the sum.
use Prim.Native.Nat.{◌+◌}
use native.Mathlib.Omega.{arith}
use mathlib.Core.Path.{sym, ap, ◌∙◌}
use mathlib.Core.Bool.{Bool}
use lib.Dec.{ltb}
use borrow.Author.Tests.{lt-ltb, le-ltb}
use Rattle.format.specs.Bytes.{pick}
use Rattle.format.specs.Limits.{file_bytes}
use Rattle.edits.proofs.inserts.capped_len.Goals as goal

pub returns-then-own-gt-BYTES : goal.returns-then-own-gt-BYTES
returns-then-own-gt-BYTES c =
    let a = c.args in
    sym (ap (λ (b : Bool). pick b a.own (pick (ltb file_bytes a.len) a.len (a.own + a.len))) (lt-ltb file_bytes a.own (omega (arith, c.if-own-gt-BYTES.true))))

pub returns-then-len-gt-BYTES : goal.returns-then-len-gt-BYTES
returns-then-len-gt-BYTES c =
    let a = c.args in
    sym (
    ap (λ (b : Bool). pick b a.own (pick (ltb file_bytes a.len) a.len (a.own + a.len))) (le-ltb file_bytes a.own (omega (arith, c.if-own-gt-BYTES.false)))
    ∙ ap (λ (b : Bool). pick b a.len (a.own + a.len)) (lt-ltb file_bytes a.len (omega (arith, c.if-len-gt-BYTES.true))))

pub returns : goal.returns
returns c =
    let a = c.args in
    sym (
    ap (λ (b : Bool). pick b a.own (pick (ltb file_bytes a.len) a.len (a.own + a.len))) (le-ltb file_bytes a.own (omega (arith, c.if-own-gt-BYTES.false)))
    ∙ ap (λ (b : Bool). pick b a.len (a.own + a.len)) (le-ltb file_bytes a.len (omega (arith, c.if-len-gt-BYTES.false))))
