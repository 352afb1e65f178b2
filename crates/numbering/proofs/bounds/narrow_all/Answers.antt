use Prim.Native.Nat.{◌+◌, ◌-◌, ◌≤◌, min, max}
use native.Mathlib.Omega.{arith}
use mathlib.Core.Path.{refl, sym, ap, ◌∙◌, subst}
use lib.ListN.{length, get_or}
use Rattle.format.specs.Bytes.{Bytes, text, pick, among}
use Rattle.format.specs.Rules.{typed_names, auto}
use Rattle.records.specs.Walk.{record_in}
use Rattle.records.proofs.Readings.{part-readable}
use Rattle.records.proofs.Named.{value-told}
use Rattle.numbering.proofs.Counted.{typed-start, typed-here, typed-on}
use Rattle.numbering.proofs.Narrowing.{types-start, types-limits, types-end, types-on}
use Rattle.values.specs.Value.{value_from}
use Rattle.lines.proofs.Cuts.{rest}
use Rattle.words.specs.RuleNames.{place_in}
use Rattle.words.specs.Spans.{span}
use Rattle.words.proofs.Decoded.{decoded-all, decoded-length, decoded-inside}
use Rattle.columns.proofs.Granted.{typedefs-few, typedefs-fit, typedefs-named}
use Rattle.numbering.specs.Types.{span_in}
use Rattle.numbering.specs.Bounds.{numbers, floor_in, limit_in}
use Rattle.numbering.proofs.bounds.narrow_all.Goals as goal

pub read_names-names-requires : goal.read_names-names-requires
read_names-names-requires c =
    record { d_value = (c.requires.described.0.reads, c.requires.described.0.short); text_len_bound = (typedefs-few c.args.d.now c.requires.described.0, typedefs-named c.args.d.now c.requires.described.0) }

pub read_typedefs-defs-requires : goal.read_typedefs-defs-requires
read_typedefs-defs-requires c =
    record { are_names = c.read_names-names.ensures; text_value = typedefs-fit c.args.d.now c.requires.described.0 (length c.args.scratch.now) c.requires.described.2 }

pub loop-value-init : goal.loop-value-init
loop-value-init c =
    (omega arith, c.requires.described.0.reads, typed-start c.args.d.now c.requires.described.0, refl, refl, refl, types-start c.args.d.now (auto (record_in c.args.d.now)) c.args.floors.now c.args.limits.now c.requires.list_words_in_bounds.2)

pub next_named-requires : goal.next_named-requires
next_named-requires c =
    part-readable c.args.d.now c.loop-value.i c.loop-value.invariant.1

pub shape_of-scratch-in_default : goal.shape_of-scratch-in_default
shape_of-scratch-in_default c =
    c.loop-value.invariant.3 ∙ c.read_typedefs-defs.auto.scratch

pub shape_of-floors-in_default : goal.shape_of-floors-in_default
shape_of-floors-in_default c =
    c.loop-value.invariant.4

pub shape_of-limits-in_default : goal.shape_of-limits-in_default
shape_of-limits-in_default c =
    c.loop-value.invariant.5

pub returns-in_default : goal.returns-in_default
returns-in_default c =
    types-end c.args.d.now (auto (record_in c.args.d.now)) c.args.floors.now c.args.limits.now c.loop-value.i c.loop-value.floors c.loop-value.limits c.loop-value.invariant.6 (value-told c.args.d.now (text "%type") c.loop-value.i c.next_named.result c.next_named.ensures c.in_default.is)

pub overflow_add-i : goal.overflow_add-i
overflow_add-i c =
    let h = value-told c.args.d.now (text "%type") c.loop-value.i c.next_named.result c.next_named.ensures c.in-Some.is in
    omega (arith, h.value_there, c.well_formed.0.0)

pub kind_at-kind-requires : goal.kind_at-kind-requires
kind_at-kind-requires c =
    let h = value-told c.args.d.now (text "%type") c.loop-value.i c.next_named.result c.next_named.ensures c.in-Some.is in
    record { described = (c.requires.described.0, c.read_names-names.ensures, c.read_typedefs-defs.ensures); has_type = (typed-here c.args.d.now c.loop-value.i _ _ h c.loop-value.invariant.2, omega (arith, c.loop-value.invariant.3, c.read_typedefs-defs.auto.scratch, c.requires.described.2)) }

pub overflow_add-i-in-loop-value : goal.overflow_add-i-in-loop-value
overflow_add-i-in-loop-value c =
    let h = value-told c.args.d.now (text "%type") c.loop-value.i c.next_named.result c.next_named.ensures c.in-Some.is in
    omega (arith, h.value_there, c.well_formed.0.0)

pub slice_bounds-copy_value-count : goal.slice_bounds-copy_value-count
slice_bounds-copy_value-count c =
    let h = value-told c.args.d.now (text "%type") c.loop-value.i c.next_named.result c.next_named.ensures c.in-Some.is in
    omega (arith, h.value_there)

pub slice_bounds-copy_value-start : goal.slice_bounds-copy_value-start
slice_bounds-copy_value-start c =
    let h = value-told c.args.d.now (text "%type") c.loop-value.i c.next_named.result c.next_named.ensures c.in-Some.is in
    omega (arith, h.value_there)

pub copy_value-n-requires : goal.copy_value-n-requires
copy_value-n-requires c =
    let h = value-told c.args.d.now (text "%type") c.loop-value.i c.next_named.result c.next_named.ensures c.in-Some.is in
    let t = typed-here c.args.d.now c.loop-value.i _ _ h c.loop-value.invariant.2 in
    (subst (λ (x : Bytes). length (value_from x) ≤ length c.kind_at-kind.new.scratch) (sym (rest c.args.d.now (c.loop-value.i + c.in-Some.field-0.value))) (omega (arith, t.fits, c.kind_at-kind.auto.scratch, c.loop-value.invariant.3, c.read_typedefs-defs.auto.scratch, c.requires.described.2)))

pub slice_bounds-narrow-end : goal.slice_bounds-narrow-end
slice_bounds-narrow-end c =
    let h = value-told c.args.d.now (text "%type") c.loop-value.i c.next_named.result c.next_named.ensures c.in-Some.is in
    let t = typed-here c.args.d.now c.loop-value.i _ _ h c.loop-value.invariant.2 in
    decoded-inside (value_from (span (c.loop-value.i + c.in-Some.field-0.value) (length c.args.d.now) c.args.d.now)) _ _ c.copy_value-n.result c.copy_value-n.ensures.0 c.copy_value-n.ensures.1 (subst (λ (x : Bytes). length (value_from x) ≤ length c.kind_at-kind.new.scratch) (sym (rest c.args.d.now (c.loop-value.i + c.in-Some.field-0.value))) (omega (arith, t.fits, c.kind_at-kind.auto.scratch, c.loop-value.invariant.3, c.read_typedefs-defs.auto.scratch, c.requires.described.2)))

pub slice_bounds-narrow-end-in-loop-value : goal.slice_bounds-narrow-end-in-loop-value
slice_bounds-narrow-end-in-loop-value c =
    decoded-length (value_from (span (c.loop-value.i + c.in-Some.field-0.value) (length c.args.d.now) c.args.d.now)) _ _ c.copy_value-n.result c.copy_value-n.ensures.0 c.copy_value-n.ensures.1

pub narrow-requires : goal.narrow-requires
narrow-requires c =
    record { listed = c.requires.described.1; list_words_in_bounds = (omega (arith, c.loop-value.invariant.4, c.requires.list_words_in_bounds.0), omega (arith, c.loop-value.invariant.5, c.requires.list_words_in_bounds.1), types-limits c.args.d.now (auto (record_in c.args.d.now)) c.args.floors.now c.args.limits.now c.loop-value.i c.loop-value.floors c.loop-value.limits c.loop-value.invariant.6) }

pub overflow_add-i-in-loop-value-2 : goal.overflow_add-i-in-loop-value-2
overflow_add-i-in-loop-value-2 c =
    let h = value-told c.args.d.now (text "%type") c.loop-value.i c.next_named.result c.next_named.ensures c.in-Some.is in
    omega (arith, h.inside, c.well_formed.0.0)

pub loop-value-smaller : goal.loop-value-smaller
loop-value-smaller c =
    let h = value-told c.args.d.now (text "%type") c.loop-value.i c.next_named.result c.next_named.ensures c.in-Some.is in
    omega (arith, h.moves, h.inside)

pub loop-value-preserved : goal.loop-value-preserved
loop-value-preserved c =
    let h = value-told c.args.d.now (text "%type") c.loop-value.i c.next_named.result c.next_named.ensures c.in-Some.is in
    let ws = auto (record_in c.args.d.now) in
    let v = value_from (span (c.loop-value.i + c.in-Some.field-0.value) (length c.args.d.now) c.args.d.now) in
    let all = decoded-all v _ _ c.copy_value-n.result c.copy_value-n.ensures.0 c.copy_value-n.ensures.1 ∙ ap value_from (rest c.args.d.now (c.loop-value.i + c.in-Some.field-0.value)) in
    let s = span_in c.kind_at-kind.result in
    (h.inside, h.readable, typed-on c.args.d.now c.loop-value.i _ _ h c.loop-value.invariant.2, c.copy_value-n.auto.out ∙ c.kind_at-kind.auto.scratch ∙ c.loop-value.invariant.3, c.narrow.auto.floors ∙ c.loop-value.invariant.4, c.narrow.auto.limits ∙ c.loop-value.invariant.5, types-on c.args.d.now (auto (record_in c.args.d.now)) c.args.floors.now c.args.limits.now c.loop-value.i c.loop-value.floors c.loop-value.limits c.loop-value.invariant.6 _ _ h c.kind_at-kind.result c.kind_at-kind.ensures _ _ (λ n k. c.narrow.ensures.0 n k ∙ ap (λ (x : Bytes). max (get_or c.loop-value.floors (place_in n ws) 0) (pick (among n (typed_names x)) (floor_in s) 0)) all) (λ n k. c.narrow.ensures.1 n k ∙ ap (λ (x : Bytes). min (get_or c.loop-value.limits (place_in n ws) 0) (pick (among n (typed_names x)) (limit_in s) numbers)) all))
