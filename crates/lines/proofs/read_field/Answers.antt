-- `lines::read_field` meets its contract: the first colon ends the name, and the byte behind it tells where the value begins.
use Prim.Native.Nat.{ℕ, ◌+◌}
use native.Mathlib.Omega.{arith}
use mathlib.Core.Path.{◌≡◌}
use borrow.Author.Tests.{eq-eqb, ne_eqb}
use Rattle.lines.proofs.Faultless.{colon-behind, next-formed, room-behind, goes-behind}
use Rattle.lines.proofs.read_field.Goals as goal
use Rattle.lines.proofs.read_field.Goals.{then-s-value-ne10, else-s-value-ne10}

behind-blank : (n v : ℕ) → v ≡ n + 1 + 1 → v ≡ n + 2
behind-blank n v e = omega (arith, e)

pub name_to_colon-name-requires : goal.name_to_colon-name-requires
name_to_colon-name-requires c =
    record { s_value = c.requires.s_value; s_nonzero = (c.requires.s_nonzero, colon-behind c.args.s.now c.requires.s_value c.requires.s_nonzero c.requires.s_value_2) }

pub overflow_add-value : goal.overflow_add-value
overflow_add-value c =
    omega (arith, room-behind c.args.s.now c.requires.s_value c.requires.s_nonzero c.requires.s_value_2 c.name_to_colon-name.result c.name_to_colon-name.ensures)

pub bounds-s-value : goal.bounds-s-value
bounds-s-value c =
    omega (arith, room-behind c.args.s.now c.requires.s_value c.requires.s_nonzero c.requires.s_value_2 c.name_to_colon-name.result c.name_to_colon-name.ensures)

pub overflow_add-value-then-s-value-ne10 : goal.overflow_add-value-then-s-value-ne10
overflow_add-value-then-s-value-ne10 c =
    omega (arith, room-behind c.args.s.now c.requires.s_value c.requires.s_nonzero c.requires.s_value_2 c.name_to_colon-name.result c.name_to_colon-name.ensures)

pub field_extent-requires : goal.field_extent-requires
field_extent-requires c =
    let g = goes-behind c.args.s.now c.requires.s_value c.requires.s_nonzero c.requires.s_value_2 c.name_to_colon-name.result c.name_to_colon-name.ensures in
    record { s_value = c.requires.s_value; goes_on = elim c.if-s-value-ne10.branch [ then-s-value-ne10 w ↦ rw (behind-blank _ _ w.value-is) (rw (ne_eqb _ _ w.if-s-value-ne10.true) at g) | else-s-value-ne10 w ↦ rw w.value-is (rw (eq-eqb _ _ w.if-s-value-ne10.false) at g) ] }

pub returns-in-Some : goal.returns-in-Some
returns-in-Some c =
    rw (next-formed c.args.s.now c.requires.s_value c.requires.s_nonzero c.requires.s_value_2 c.name_to_colon-name.result c.name_to_colon-name.ensures, ← c.field_extent.ensures, c.in-Some.is) (elim c.if-s-value-ne10.branch [ then-s-value-ne10 w ↦ rw (behind-blank _ _ w.value-is, ne_eqb _ _ w.if-s-value-ne10.true) | else-s-value-ne10 w ↦ rw (w.value-is, eq-eqb _ _ w.if-s-value-ne10.false) ])

pub returns-in-None : goal.returns-in-None
returns-in-None c =
    rw (next-formed c.args.s.now c.requires.s_value c.requires.s_nonzero c.requires.s_value_2 c.name_to_colon-name.result c.name_to_colon-name.ensures, ← c.field_extent.ensures, c.in-None.is)
