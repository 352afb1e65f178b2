-- `columns::is_symbol` meets its contract.
use native.Mathlib.Omega.{arith}
use mathlib.Core.Path.{sym, ap, ◌∙◌}
use mathlib.Core.Bool.{Bool, ◌&&◌}
use borrow.Author.Tests.{lt-ltb, le-ltb}
use lib.ListN.{get_or}
use Prim.Native.Nat.{ℕ}
use Rattle.terms.specs.Sets.{in_set}
use Rattle.enums.specs.Rows.{leader_of}
use Rattle.columns.specs.Rows.{is_symbol}
use Rattle.columns.proofs.is_symbol.Goals as goal

pub has-requires : goal.has-requires
has-requires c =
    omega (arith, c.requires.from_le_row.2)

pub returns-then-has : goal.returns-then-has
unfolding is_symbol
returns-then-has c =
    sym (ap (λ (t : Bool). t && in_set (leader_of c.args.texts.now c.args.from c.args.row) c.args.found) (lt-ltb (get_or c.args.texts.now c.args.row 0) 65536 c.if-texts-row-ge-BYTES.false) ∙ ap (λ (k : ℕ). in_set k c.args.found) (c.requires.row_value (sym c.has.ensures ∙ c.if-has.true)) ∙ sym c.has.ensures ∙ c.if-has.true)

pub has-requires-2 : goal.has-requires-2
has-requires-2 c =
    omega (arith, c.leader-first.ensures.2, c.requires.from_le_row.2)

pub returns : goal.returns
unfolding is_symbol
returns c =
    c.has-2.ensures ∙ ap (λ (k : ℕ). in_set k c.args.found) c.leader-first.ensures.0 ∙ ap (λ (t : Bool). t && in_set (leader_of c.args.texts.now c.args.from c.args.row) c.args.found) (sym (lt-ltb (get_or c.args.texts.now c.args.row 0) 65536 c.if-texts-row-ge-BYTES.false))

pub returns-then-texts-row-ge-BYTES : goal.returns-then-texts-row-ge-BYTES
unfolding is_symbol
returns-then-texts-row-ge-BYTES c =
    ap (λ (t : Bool). t && in_set (leader_of c.args.texts.now c.args.from c.args.row) c.args.found) (sym (le-ltb (get_or c.args.texts.now c.args.row 0) 65536 c.if-texts-row-ge-BYTES.true))
