use Prim.Native.Nat.{◌+◌}
use native.Mathlib.Omega.{arith}
use mathlib.Core.Path.{refl, ◌∙◌}
use lib.ListN.{drop, length-map}
use Rattle.format.specs.Rules.{typed_names}
use Rattle.values.specs.Value.{value_from}
use Rattle.terms.specs.Sets.{term_of}
use Rattle.format.specs.Bytes.{text}
use Rattle.records.specs.Named.{values_from}
use Rattle.records.proofs.Readings.{part-readable}
use Rattle.records.proofs.Named.{value-told}
use Rattle.values.proofs.Tests.{dec-lt}
use Rattle.dictionary.specs.Terms.{row_terms}
use Rattle.terms.proofs.Adding.{adding-start}
use Rattle.typedefs.proofs.Placing.{passed-inside, passed-more}
use Rattle.dictionary.proofs.Typing.{row-names, row_fits, rows_more, row-none, rows_few}
use Rattle.dictionary.proofs.add_types.Goals as goal

pub pass_types-i-requires : goal.pass_types-i-requires
pass_types-i-requires c =
    record { d_value = c.requires.described.reads; count_in_bounds = c.requires.from_in_bounds.0 }

pub loop-value-init : goal.loop-value-init
loop-value-init c =
    (omega arith, c.requires.from_in_bounds.0, record { inside = c.pass_types-i.ensures.0; readable = c.pass_types-i.ensures.1; values = c.pass_types-i.ensures.2 }, c.requires.from_in_bounds.1, refl, λ e. refl, adding-start c.args.d.now c.args.entries.now c.args.n (row_terms c.args.from (drop c.args.from (values_from c.args.d.now (text "%type") 0))))

pub next_named-requires : goal.next_named-requires
next_named-requires c =
    (part-readable c.args.d.now c.loop-value.i c.loop-value.invariant.2.readable)

pub shape_of-entries-in_default : goal.shape_of-entries-in_default
shape_of-entries-in_default c =
    c.loop-value.invariant.4

pub returns-in_default : goal.returns-in_default
returns-in_default c =
    let e = value-told c.args.d.now (text "%type") c.loop-value.i c.next_named.result c.next_named.ensures c.in_default.is in
    let h = row-none c.args.d.now c.loop-value.row c.loop-value.i c.loop-value.invariant.2 e in
    record { begins = c.loop-value.invariant.0; within = c.loop-value.invariant.1; room = c.loop-value.invariant.3; some = λ a b. omega arith; adding = c.loop-value.invariant.6 }

pub overflow_sub-entries : goal.overflow_sub-entries
overflow_sub-entries c =
    c.loop-value.invariant.3

pub shape_of-entries-then-entries-k-lt-VALUE : goal.shape_of-entries-then-entries-k-lt-VALUE
shape_of-entries-then-entries-k-lt-VALUE c =
    c.loop-value.invariant.4

pub returns-then-entries-k-lt-VALUE : goal.returns-then-entries-k-lt-VALUE
returns-then-entries-k-lt-VALUE c =
    record { begins = c.loop-value.invariant.0; within = c.loop-value.invariant.1; room = c.loop-value.invariant.3; some = λ a b. dec-lt c.args.from c.loop-value.row (λ h. h) (λ h. absurd (omega (arith, c.loop-value.invariant.5 (omega (arith, c.loop-value.invariant.0)), c.if-entries-k-lt-VALUE.true, c.loop-value.invariant.4))); adding = c.loop-value.invariant.6 }

pub overflow_add-i : goal.overflow_add-i
overflow_add-i c =
    let h = value-told c.args.d.now (text "%type") c.loop-value.i c.next_named.result c.next_named.ensures c.in-Some.is in
    omega (arith, h.value_there)

pub overflow_cast-row : goal.overflow_cast-row
overflow_cast-row c =
    let h = value-told c.args.d.now (text "%type") c.loop-value.i c.next_named.result c.next_named.ensures c.in-Some.is in
    omega (arith, passed-inside c.args.d.now (text "%type") c.loop-value.row c.loop-value.i c.loop-value.invariant.2 _ _ h, rows_few c.args.d.now c.requires.described)

pub add_names-k-requires : goal.add_names-k-requires
add_names-k-requires c =
    let h = value-told c.args.d.now (text "%type") c.loop-value.i c.next_named.result c.next_named.ensures c.in-Some.is in
    let f = row_fits c.args.d.now c.loop-value.row c.loop-value.i _ _ c.loop-value.invariant.2 h c.requires.described in
    let z = c.loop-value.invariant.3 in
    let y = c.if-entries-k-lt-VALUE.false in
    record { i_in_bounds = (omega (arith, h.value_there), c.requires.described.short, omega (arith, passed-inside c.args.d.now (text "%type") c.loop-value.row c.loop-value.i c.loop-value.invariant.2 _ _ h, rows_few c.args.d.now c.requires.described)); d_in_bounds = omega arith; d_value = row-names c.args.d.now c.loop-value.row c.loop-value.i _ _ c.loop-value.invariant.2 h c.requires.described }

pub overflow_add-row : goal.overflow_add-row
overflow_add-row c =
    let h = value-told c.args.d.now (text "%type") c.loop-value.i c.next_named.result c.next_named.ensures c.in-Some.is in
    omega (arith, passed-inside c.args.d.now (text "%type") c.loop-value.row c.loop-value.i c.loop-value.invariant.2 _ _ h, rows_few c.args.d.now c.requires.described)

pub overflow_add-i-in-loop-value : goal.overflow_add-i-in-loop-value
overflow_add-i-in-loop-value c =
    let h = value-told c.args.d.now (text "%type") c.loop-value.i c.next_named.result c.next_named.ensures c.in-Some.is in
    omega (arith, h.inside)

pub loop-value-smaller : goal.loop-value-smaller
loop-value-smaller c =
    let h = value-told c.args.d.now (text "%type") c.loop-value.i c.next_named.result c.next_named.ensures c.in-Some.is in
    omega (arith, h.moves, h.inside)

pub loop-value-preserved : goal.loop-value-preserved
loop-value-preserved c =
    let h = value-told c.args.d.now (text "%type") c.loop-value.i c.next_named.result c.next_named.ensures c.in-Some.is in
    let f = row_fits c.args.d.now c.loop-value.row c.loop-value.i _ _ c.loop-value.invariant.2 h c.requires.described in
    let b = passed-inside c.args.d.now (text "%type") c.loop-value.row c.loop-value.i c.loop-value.invariant.2 _ _ h in
    let z = c.if-entries-k-lt-VALUE.false in
    let y = c.loop-value.invariant.3 in
    (omega (arith, c.loop-value.invariant.0), omega (arith, b), passed-more c.args.d.now (text "%type") c.loop-value.row c.loop-value.i c.loop-value.invariant.2 _ _ h, omega (arith, c.add_names-k.ensures.count, c.add_names-k.ensures.long, length-map (typed_names (value_from (drop (c.loop-value.i + c.in-Some.field-0.value) c.args.d.now))) (term_of c.loop-value.row)), c.add_names-k.ensures.long ∙ c.loop-value.invariant.4, (λ e. absurd (omega (arith, c.loop-value.invariant.0))), rows_more c.args.d.now c.loop-value.row c.loop-value.i _ _ c.loop-value.invariant.2 h c.requires.described c.args.from c.args.entries.now c.args.n c.loop-value.entries c.loop-value.k _ _ c.loop-value.invariant.6 c.add_names-k.ensures)
