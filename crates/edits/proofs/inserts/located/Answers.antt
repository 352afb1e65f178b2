-- `edits::inserts::located` meets its contract: each return is one case of `located_by`.
-- what is answered of a text by a length n, which is beyond what a file may have, or not
use native.Mathlib.Omega.{arith}
use mathlib.Core.Path.{sym, ap, ◌∙◌}
use mathlib.Core.Bool.{Bool}
use Prim.Native.Nat.{ℕ}
use lib.Dec.{ltb}
use borrow.Author.Tests.{lt-ltb, le-ltb}
use Rattle.format.specs.Bytes.{pick}
use Rattle.format.specs.Limits.{file_bytes}
use Rattle.edits.specs.declared.Located.{Located}
use Rattle.edits.specs.declared.Splice.{Splice}
use Rattle.edits.specs.Splices.{made_len}
use Rattle.edits.specs.Inserts.{located_by}
use Rattle.edits.proofs.inserts.located.Goals as goal

abbrev text-by : ℕ → ℕ → ℕ → Bool → ℕ → Located
text-by at from own b n = pick b (Located.Over n) (Located.At (Splice.Record (record { at = at; from = from; len = n }) own))

abbrev long-by : ℕ → Bool → ℕ → Located
long-by used b n = pick b (Located.Over n) (Located.Over (made_len used n))

pub returns-then-whole-gt-BYTES : goal.returns-then-whole-gt-BYTES
returns-then-whole-gt-BYTES c =
    let a = c.args in
    let n = c.capped_len-whole.result in
    sym (
    ap (located_by a.used a.at a.from a.len) c.in-Text.is
    ∙ ap (λ (m : ℕ). text-by a.at a.from c.in-Text.own (ltb file_bytes m) m) (sym c.capped_len-whole.ensures)
    ∙ ap (λ (b : Bool). text-by a.at a.from c.in-Text.own b n) (lt-ltb file_bytes n (omega (arith, c.if-whole-gt-BYTES.true))))

pub returns-else-whole-gt-BYTES : goal.returns-else-whole-gt-BYTES
returns-else-whole-gt-BYTES c =
    let a = c.args in
    let n = c.capped_len-whole.result in
    sym (
    ap (located_by a.used a.at a.from a.len) c.in-Text.is
    ∙ ap (λ (m : ℕ). text-by a.at a.from c.in-Text.own (ltb file_bytes m) m) (sym c.capped_len-whole.ensures)
    ∙ ap (λ (b : Bool). text-by a.at a.from c.in-Text.own b n) (le-ltb file_bytes n (omega (arith, c.if-whole-gt-BYTES.false))))

pub returns-then-whole-gt-BYTES-2 : goal.returns-then-whole-gt-BYTES-2
returns-then-whole-gt-BYTES-2 c =
    let a = c.args in
    let n = c.capped_len-whole-in-Long.result in
    sym (
    ap (located_by a.used a.at a.from a.len) c.in-Long.is
    ∙ ap (λ (m : ℕ). long-by a.used (ltb file_bytes m) m) (sym c.capped_len-whole-in-Long.ensures)
    ∙ ap (λ (b : Bool). long-by a.used b n) (lt-ltb file_bytes n (omega (arith, c.if-whole-gt-BYTES-2.true))))

pub returns-else-whole-gt-BYTES-2 : goal.returns-else-whole-gt-BYTES-2
returns-else-whole-gt-BYTES-2 c =
    let a = c.args in
    let n = c.capped_len-whole-in-Long.result in
    ap (λ (m : ℕ). Located.Over m) c.made_len.ensures
    ∙ sym (
    ap (located_by a.used a.at a.from a.len) c.in-Long.is
    ∙ ap (λ (m : ℕ). long-by a.used (ltb file_bytes m) m) (sym c.capped_len-whole-in-Long.ensures)
    ∙ ap (λ (b : Bool). long-by a.used b n) (le-ltb file_bytes n (omega (arith, c.if-whole-gt-BYTES-2.false))))
