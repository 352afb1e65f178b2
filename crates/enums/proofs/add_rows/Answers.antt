use borrow.Author.Rules.{rules}
use Prim.Native.Nat.{ℕ, ◌-◌, ◌<◌}
use native.Mathlib.Omega.{arith}
use mathlib.Core.Path.{◌≡◌, refl, sym, ◌∙◌, subst}
use lib.ListN.{length, get_or, length-map}
use Rattle.values.proofs.Tests.{dec-lt}
use Rattle.terms.specs.Sets.{term_of}
use Rattle.terms.specs.Adding.{Adding}
use Rattle.terms.proofs.Adding.{adding-start}
use Rattle.enums.specs.Enums.{enum_in}
use Rattle.enums.specs.Rows.{rows_left}
use Rattle.enums.proofs.Few.{symbols-few}
use Rattle.enums.proofs.Rows.{first-is, first-later, first-none, row-skip, row_more}
use Rattle.enums.proofs.add_rows.Goals as goal

pub loop-row-init : goal.loop-row-init
loop-row-init c =
    (omega arith, refl, λ e. refl, adding-start c.args.d.now c.args.entries.now 0 (rows_left c.args.d.now c.args.texts.now c.args.from c.args.to c.args.from))

pub offset_bounds-texts-row : goal.offset_bounds-texts-row
offset_bounds-texts-row c =
    let h : c.loop-row.row < length c.args.texts.now = omega (arith, c.loop-row-test.true, c.requires.d_len_bound.3) in
    search rules

pub bounds-texts-row : goal.bounds-texts-row
bounds-texts-row c =
    omega (arith, c.loop-row-test.true, c.requires.d_len_bound.3)

pub leader-requires : goal.leader-requires
leader-requires c =
    (omega arith, omega (arith, c.loop-row-test.true, c.requires.d_len_bound.3))

pub overflow_sub-entries : goal.overflow_sub-entries
overflow_sub-entries c =
    c.loop-row.invariant.0

pub shape_of-entries-then-entries-n-lt-VALUE : goal.shape_of-entries-then-entries-n-lt-VALUE
shape_of-entries-then-entries-n-lt-VALUE c =
    c.loop-row.invariant.1

pub returns-then-entries-n-lt-VALUE : goal.returns-then-entries-n-lt-VALUE
returns-then-entries-n-lt-VALUE c =
    record {
      begins = omega arith;
      within = omega arith;
      room = c.loop-row.invariant.0;
      some = λ a b. dec-lt c.args.from c.loop-row.row (λ h. h) (λ h. absurd (omega (arith, c.loop-row.invariant.2 (omega arith), c.if-entries-n-lt-VALUE.true, c.loop-row.invariant.1)));
      adding = c.loop-row.invariant.3;
    }

pub overflow_cast-row : goal.overflow_cast-row
overflow_cast-row c =
    omega (arith, c.loop-row-test.true, c.requires.d_len_bound.2)

pub add_symbols-n-requires : goal.add_symbols-n-requires
add_symbols-n-requires c =
    let t = c.requires.texts c.loop-row.row c.loop-row-test.true c.if-v-ge-BYTES.false in
    let f = symbols-few c.args.d.now (get_or c.args.texts.now c.loop-row.row 0) t.enum in
    let g = t.fits in
    let y = c.loop-row.invariant.0 in
    let z = c.if-entries-n-lt-VALUE.false in
    record { v_in_bounds = (t.inside, c.requires.d_len_bound.0, omega (arith, c.loop-row-test.true, c.requires.d_len_bound.2)); v_in_bounds_2 = omega arith; v_value = t.enum }

pub loop-row-preserved : goal.loop-row-preserved
loop-row-preserved c =
    let t = c.requires.texts c.loop-row.row c.loop-row-test.true c.if-v-ge-BYTES.false in
    let f = symbols-few c.args.d.now (get_or c.args.texts.now c.loop-row.row 0) t.enum in
    let g = t.fits in
    let y = c.loop-row.invariant.0 in
    let z = c.if-entries-n-lt-VALUE.false in
    (omega (arith, c.add_symbols-n.ensures.count, c.add_symbols-n.ensures.long, length-map (enum_in c.args.d.now (get_or c.args.texts.now c.loop-row.row 0)) (term_of c.loop-row.row)), c.add_symbols-n.ensures.long ∙ c.loop-row.invariant.1, (λ e. absurd (omega arith)), row_more c.args.d.now c.args.texts.now c.args.from c.args.to c.loop-row.row c.loop-row-test.true c.args.entries.now c.loop-row.entries c.loop-row.n c.loop-row.invariant.3 (first-is c.args.texts.now c.args.from c.loop-row.row c.if-v-ge-BYTES.false (sym c.leader.ensures.0 ∙ c.if-leader-row.false)) _ _ c.add_symbols-n.ensures)

pub loop-row-preserved-then-leader-row : goal.loop-row-preserved-then-leader-row
loop-row-preserved-then-leader-row c =
    (c.loop-row.invariant.0, c.loop-row.invariant.1, (λ e. absurd (omega arith)), row-skip c.args.d.now c.args.texts.now c.args.from c.args.to c.loop-row.row c.loop-row-test.true c.args.entries.now c.loop-row.entries c.loop-row.n c.loop-row.invariant.3 (first-later c.args.texts.now c.args.from c.loop-row.row (λ e. c.if-leader-row.true (c.leader.ensures.0 ∙ e))))

pub loop-row-preserved-then-v-ge-BYTES : goal.loop-row-preserved-then-v-ge-BYTES
loop-row-preserved-then-v-ge-BYTES c =
    (c.loop-row.invariant.0, c.loop-row.invariant.1, (λ e. absurd (omega arith)), row-skip c.args.d.now c.args.texts.now c.args.from c.args.to c.loop-row.row c.loop-row-test.true c.args.entries.now c.loop-row.entries c.loop-row.n c.loop-row.invariant.3 (first-none c.args.texts.now c.args.from c.loop-row.row c.if-v-ge-BYTES.true))

pub shape_of-entries : goal.shape_of-entries
shape_of-entries c =
    c.loop-row.invariant.1

pub returns : goal.returns
returns c =
    let e : c.loop-row.row ≡ c.args.to = omega (arith, c.requires.d_len_bound.1, c.loop-row-test.false) in
    record {
      begins = c.requires.d_len_bound.1;
      within = omega arith;
      room = c.loop-row.invariant.0;
      some = λ a b. omega (arith, c.loop-row-test.false);
      adding = subst (λ (j : ℕ). Adding c.args.d.now c.args.entries.now 0 (rows_left c.args.d.now c.args.texts.now c.args.from c.args.to c.args.from) (rows_left c.args.d.now c.args.texts.now c.args.from c.args.to j) c.loop-row.entries c.loop-row.n) e c.loop-row.invariant.3;
    }
