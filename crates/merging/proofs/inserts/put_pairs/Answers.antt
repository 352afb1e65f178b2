use Prim.Native.Nat.{◌-◌}
use native.Mathlib.Omega.{arith}
use mathlib.Core.Path.{refl, sym, ◌∙◌}
use lib.ListN.{length, take, drop, length-take, length-drop}
use lib.Seq.{length-take-le}
use borrow.Author.Tests.{leb-true}
use Rattle.format.specs.Limits.{value_bytes}
use Rattle.values.specs.Value.{value_from}
use Rattle.words.specs.Spans.{span}
use Rattle.records.proofs.Readings.{part-readable}
use Rattle.merging.proofs.Requesting.{pairs_end, pairs-on, value-fits, values-behind, copied, over-least}
use Rattle.merging.proofs.inserts.put_pairs.Goals as goal

pub loop-f-init : goal.loop-f-init
loop-f-init c =
    (c.requires.own_value.0, c.requires.own_value.1, refl, refl, refl)

pub returns-in_default : goal.returns-in_default
returns-in_default c =
    sym (c.loop-f.invariant.4 ∙ pairs_end c.loop-f.rest.now c.loop-f.out c.loop-f.at c.in_default.ensures)

pub slice_bounds-put_field-count : goal.slice_bounds-put_field-count
slice_bounds-put_field-count c =
    omega (arith, c.in-Some.ensures.named, c.in-Some.ensures.name-inside, c.in-Some.ensures.inside)

pub slice_bounds-put_field-start : goal.slice_bounds-put_field-start
slice_bounds-put_field-start c =
    omega (arith, c.in-Some.ensures.named, c.in-Some.ensures.name-inside, c.in-Some.ensures.inside)

pub slice_bounds-put_field-end : goal.slice_bounds-put_field-end
slice_bounds-put_field-end c =
    omega (arith, c.in-Some.ensures.named, c.in-Some.ensures.name-inside, c.in-Some.ensures.inside)

pub slice_bounds-copy_value-count : goal.slice_bounds-copy_value-count
slice_bounds-copy_value-count c =
    omega (arith, c.in-Some.ensures.value-inside, c.in-Some.ensures.inside)

pub slice_bounds-copy_value-start : goal.slice_bounds-copy_value-start
slice_bounds-copy_value-start c =
    omega (arith, c.in-Some.ensures.value-inside, c.in-Some.ensures.inside)

pub slice_bounds-copy_value-end : goal.slice_bounds-copy_value-end
slice_bounds-copy_value-end c =
    omega (arith, c.in-Some.ensures.value-inside, c.in-Some.ensures.inside)

pub copy_value-n-requires : goal.copy_value-n-requires
copy_value-n-requires c =
    omega (arith, leb-true (length (value_from (span c.in-Some.f.value c.in-Some.f.end c.loop-f.rest.now))) value_bytes (value-fits c.loop-f.rest.now c.in-Some.f.start c.in-Some.f.named c.in-Some.f.value c.in-Some.f.end c.in-Some.ensures c.loop-f.invariant.1), c.loop-f.invariant.2, c.requires.value_bytes_in_bounds)

pub slice_bounds-put_field-end-in-loop-f : goal.slice_bounds-put_field-end-in-loop-f
slice_bounds-put_field-end-in-loop-f c =
    over-least (value_from (span c.in-Some.f.value c.in-Some.f.end c.loop-f.rest.now)) c.loop-f.scratch c.copy_value-n.new.out c.copy_value-n.result c.copy_value-n.ensures.0 c.copy_value-n.ensures.1

pub slice_bounds-put_field-end-in-loop-f-2 : goal.slice_bounds-put_field-end-in-loop-f-2
slice_bounds-put_field-end-in-loop-f-2 c =
    sym (length-take-le c.copy_value-n.result c.copy_value-n.new.out (over-least (value_from (span c.in-Some.f.value c.in-Some.f.end c.loop-f.rest.now)) c.loop-f.scratch c.copy_value-n.new.out c.copy_value-n.result c.copy_value-n.ensures.0 c.copy_value-n.ensures.1))

pub slice_bounds-rest-count : goal.slice_bounds-rest-count
slice_bounds-rest-count c =
    omega (arith, c.in-Some.ensures.inside)

pub slice_bounds-rest-start : goal.slice_bounds-rest-start
slice_bounds-rest-start c =
    omega (arith, c.in-Some.ensures.inside)

pub slice_bounds-rest-end : goal.slice_bounds-rest-end
slice_bounds-rest-end c =
    omega (arith, c.in-Some.ensures.inside)

pub loop-f-smaller : goal.loop-f-smaller
loop-f-smaller c =
    omega (arith, c.in-Some.ensures.begins, c.in-Some.ensures.moves, c.in-Some.ensures.inside, length-take (length c.loop-f.rest.now - c.in-Some.f.end) (drop c.in-Some.f.end c.loop-f.rest.now), length-drop c.in-Some.f.end c.loop-f.rest.now)

pub loop-f-preserved : goal.loop-f-preserved
loop-f-preserved c =
    (part-readable c.loop-f.rest.now c.in-Some.f.end c.in-Some.ensures.readable, values-behind c.loop-f.rest.now c.in-Some.f.start c.in-Some.f.named c.in-Some.f.value c.in-Some.f.end c.in-Some.ensures c.loop-f.invariant.1, omega (arith, c.copy_value-n.auto.out, c.loop-f.invariant.2), omega (arith, c.put_field-at.auto.request, c.put_field-at-in-loop-f.auto.request, c.loop-f.invariant.3), c.loop-f.invariant.4 ∙ pairs-on c.loop-f.rest.now c.loop-f.out c.put_field-at.new.request c.put_field-at-in-loop-f.new.request c.loop-f.at c.put_field-at.result c.put_field-at-in-loop-f.result c.in-Some.f.start c.in-Some.f.named c.in-Some.f.value c.in-Some.f.end (take c.copy_value-n.result c.copy_value-n.new.out) c.in-Some.ensures c.put_field-at.ensures (copied (value_from (span c.in-Some.f.value c.in-Some.f.end c.loop-f.rest.now)) c.loop-f.scratch c.copy_value-n.new.out c.copy_value-n.result c.copy_value-n.ensures.0 c.copy_value-n.ensures.1) c.put_field-at-in-loop-f.ensures)
