-- `lines::next_field` meets its contract: the tests of the code are those by which a named line is told.
use Prim.Native.Nat.{◌+◌, ◌<◌}
use native.Mathlib.Omega.{arith}
use lib.ListN.{get_or}
use borrow.Author.Tests.{eq-eqb, ne_eqb}
use Rattle.lines.proofs.Heads.{name-inside, colon-inside, goes-newline, goes_blank}
use Rattle.lines.proofs.Nexts.{next-named, next-class}
use Rattle.lines.proofs.next_field.Goals as goal
use Rattle.lines.proofs.next_field.Goals.{then-k-eq-NEWLINE, else-k-eq-NEWLINE+else-k-ne-BLANK}

pub bounds-s-name : goal.bounds-s-name
bounds-s-name c =
    omega (arith, c.name_end-name.ensures, name-inside c.args.s.now c.requires.s_value c.requires.s_nonzero)

pub returns-then-s-name-ne58 : goal.returns-then-s-name-ne58
returns-then-s-name-ne58 c =
    rw (next-named c.args.s.now c.requires.s_value c.requires.s_nonzero, ← c.name_end-name.ensures, ne_eqb _ _ c.if-s-name-ne58.true)

pub overflow_add-name : goal.overflow_add-name
overflow_add-name c =
    omega (arith, colon-inside c.args.s.now c.name_end-name.result c.requires.s_value c.if-s-name-ne58.false)

pub bounds-s-name-2 : goal.bounds-s-name-2
bounds-s-name-2 c =
    omega (arith, colon-inside c.args.s.now c.name_end-name.result c.requires.s_value c.if-s-name-ne58.false)

pub overflow_add-value : goal.overflow_add-value
overflow_add-value c =
    omega (arith, colon-inside c.args.s.now c.name_end-name.result c.requires.s_value c.if-s-name-ne58.false)

pub overflow_add-value-then-k-eq-NEWLINE : goal.overflow_add-value-then-k-eq-NEWLINE
overflow_add-value-then-k-eq-NEWLINE c =
    omega (arith, colon-inside c.args.s.now c.name_end-name.result c.requires.s_value c.if-s-name-ne58.false)

pub returns-then-k-ne-BLANK : goal.returns-then-k-ne-BLANK
returns-then-k-ne-BLANK c =
    let small : get_or c.args.s.now (c.name_end-name.result + 1) 0 < 256 = omega (arith, c.type_inv.s (c.name_end-name.result + 1)) in
    rw (next-class c.args.s.now c.name_end-name.result c.class-k.result c.requires.s_value c.requires.s_nonzero c.name_end-name.ensures small c.class-k.ensures, eq-eqb _ _ c.if-s-name-ne58.false, ne_eqb _ _ c.if-k-eq-NEWLINE.false, ne_eqb _ _ c.if-k-ne-BLANK.true)

pub field_extent-requires : goal.field_extent-requires
field_extent-requires c =
    let small : get_or c.args.s.now (c.name_end-name.result + 1) 0 < 256 = omega (arith, c.type_inv.s (c.name_end-name.result + 1)) in
    record { s_value = c.requires.s_value; goes_on = elim c.if-k-eq-NEWLINE.branch [ then-k-eq-NEWLINE w ↦ rw w.value-is (goes-newline c.args.s.now c.name_end-name.result c.requires.s_value c.requires.s_nonzero c.name_end-name.ensures c.if-s-name-ne58.false c.class-k.result small c.class-k.ensures w.if-k-eq-NEWLINE.true) | else-k-eq-NEWLINE+else-k-ne-BLANK w ↦ rw w.value-is (goes_blank c.args.s.now c.name_end-name.result c.requires.s_value c.requires.s_nonzero c.name_end-name.ensures c.if-s-name-ne58.false c.class-k.result small c.class-k.ensures w.if-k-ne-BLANK.false) ] }

pub returns-in-Some : goal.returns-in-Some
returns-in-Some c =
    let small : get_or c.args.s.now (c.name_end-name.result + 1) 0 < 256 = omega (arith, c.type_inv.s (c.name_end-name.result + 1)) in
    rw (next-class c.args.s.now c.name_end-name.result c.class-k.result c.requires.s_value c.requires.s_nonzero c.name_end-name.ensures small c.class-k.ensures, eq-eqb _ _ c.if-s-name-ne58.false, ← c.field_extent.ensures, c.in-Some.is) (elim c.if-k-eq-NEWLINE.branch [ then-k-eq-NEWLINE w ↦ rw (w.value-is, eq-eqb _ _ w.if-k-eq-NEWLINE.true) | else-k-eq-NEWLINE+else-k-ne-BLANK w ↦ rw (w.value-is, ne_eqb _ _ w.if-k-eq-NEWLINE.false, eq-eqb _ _ w.if-k-ne-BLANK.false) ])

pub returns-in-None : goal.returns-in-None
returns-in-None c =
    let small : get_or c.args.s.now (c.name_end-name.result + 1) 0 < 256 = omega (arith, c.type_inv.s (c.name_end-name.result + 1)) in
    rw (next-class c.args.s.now c.name_end-name.result c.class-k.result c.requires.s_value c.requires.s_nonzero c.name_end-name.ensures small c.class-k.ensures, eq-eqb _ _ c.if-s-name-ne58.false, ← c.field_extent.ensures, c.in-None.is) (elim c.if-k-eq-NEWLINE.branch [ then-k-eq-NEWLINE w ↦ rw (eq-eqb _ _ w.if-k-eq-NEWLINE.true) | else-k-eq-NEWLINE+else-k-ne-BLANK w ↦ rw (ne_eqb _ _ w.if-k-eq-NEWLINE.false, eq-eqb _ _ w.if-k-ne-BLANK.false) ])
