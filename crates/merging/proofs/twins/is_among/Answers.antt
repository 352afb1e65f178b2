use Prim.Native.Nat.{◌-◌}
use native.Mathlib.Omega.{arith}
use mathlib.Core.Path.{sym, ap, ◌∙◌}
use mathlib.Core.List.{map}
use lib.ListN.{length, drop, length-take, length-drop}
use Rattle.format.specs.Bytes.{Bytes, any}
use Rattle.lines.proofs.Cuts.{rest}
use Rattle.words.specs.Spans.{span}
use Rattle.format.specs.Pieces.{read_of}
use Rattle.format.proofs.Records.{records}
use Rattle.records.specs.Walk.{record_in}
use Rattle.records.proofs.Readings.{part-readable}
use Rattle.merging.specs.Merging.{pair_of, is_twin}
use Rattle.merging.proofs.Walked.{first-none, first-record}
use Rattle.merging.proofs.Twinning.{any_here, any-later}
use Rattle.merging.proofs.twins.is_among.Goals as goal

pub returns-in_default : goal.returns-in_default
returns-in_default c =
    sym (c.loop-p.invariant.1 ∙ ap (any (is_twin (map pair_of (record_in c.args.own.now)))) (first-none c.loop-p.rest.now c.loop-p.invariant.0 c.next_record.result c.next_record.ensures c.in_default.is))

pub slice_bounds-are_twins-count : goal.slice_bounds-are_twins-count
slice_bounds-are_twins-count c =
    let m = first-record c.loop-p.rest.now c.loop-p.invariant.0 c.next_record.result c.in-Some.p c.next_record.ensures c.in-Some.is in omega (arith, m.filled, m.within, m.inside)

pub slice_bounds-are_twins-start : goal.slice_bounds-are_twins-start
slice_bounds-are_twins-start c =
    let m = first-record c.loop-p.rest.now c.loop-p.invariant.0 c.next_record.result c.in-Some.p c.next_record.ensures c.in-Some.is in omega (arith, m.filled, m.within, m.inside)

pub slice_bounds-are_twins-end : goal.slice_bounds-are_twins-end
slice_bounds-are_twins-end c =
    let m = first-record c.loop-p.rest.now c.loop-p.invariant.0 c.next_record.result c.in-Some.p c.next_record.ensures c.in-Some.is in omega (arith, m.filled, m.within, m.inside)

pub are_twins-requires : goal.are_twins-requires
are_twins-requires c =
    let m = first-record c.loop-p.rest.now c.loop-p.invariant.0 c.next_record.result c.in-Some.p c.next_record.ensures c.in-Some.is in (c.requires.0, m.own-readable)

pub returns-then-are_twins : goal.returns-then-are_twins
returns-then-are_twins c =
    let m = first-record c.loop-p.rest.now c.loop-p.invariant.0 c.next_record.result c.in-Some.p c.next_record.ensures c.in-Some.is in any_here (is_twin (map pair_of (record_in c.args.own.now))) (records (read_of c.loop-p.rest.now)) (record_in (span c.in-Some.p.start c.in-Some.p.end c.loop-p.rest.now)) (records (read_of (drop c.in-Some.p.after c.loop-p.rest.now))) m.cut (sym c.are_twins.ensures ∙ c.if-are_twins.true) ∙ sym c.loop-p.invariant.1

pub slice_bounds-rest-count : goal.slice_bounds-rest-count
slice_bounds-rest-count c =
    let m = first-record c.loop-p.rest.now c.loop-p.invariant.0 c.next_record.result c.in-Some.p c.next_record.ensures c.in-Some.is in omega (arith, m.inside)

pub slice_bounds-rest-start : goal.slice_bounds-rest-start
slice_bounds-rest-start c =
    let m = first-record c.loop-p.rest.now c.loop-p.invariant.0 c.next_record.result c.in-Some.p c.next_record.ensures c.in-Some.is in omega (arith, m.inside)

pub slice_bounds-rest-end : goal.slice_bounds-rest-end
slice_bounds-rest-end c =
    let m = first-record c.loop-p.rest.now c.loop-p.invariant.0 c.next_record.result c.in-Some.p c.next_record.ensures c.in-Some.is in omega (arith, m.inside)

pub loop-p-smaller : goal.loop-p-smaller
loop-p-smaller c =
    let m = first-record c.loop-p.rest.now c.loop-p.invariant.0 c.next_record.result c.in-Some.p c.next_record.ensures c.in-Some.is in omega (arith, m.filled, m.within, m.inside, length-take (length c.loop-p.rest.now - c.in-Some.p.after) (drop c.in-Some.p.after c.loop-p.rest.now), length-drop c.in-Some.p.after c.loop-p.rest.now)

pub loop-p-preserved : goal.loop-p-preserved
loop-p-preserved c =
    let m = first-record c.loop-p.rest.now c.loop-p.invariant.0 c.next_record.result c.in-Some.p c.next_record.ensures c.in-Some.is in (part-readable c.loop-p.rest.now c.in-Some.p.after m.readable, c.loop-p.invariant.1 ∙ any-later (is_twin (map pair_of (record_in c.args.own.now))) (records (read_of c.loop-p.rest.now)) (record_in (span c.in-Some.p.start c.in-Some.p.end c.loop-p.rest.now)) (records (read_of (drop c.in-Some.p.after c.loop-p.rest.now))) m.cut (sym c.are_twins.ensures ∙ c.if-are_twins.false) ∙ ap (λ (t : Bytes). any (is_twin (map pair_of (record_in c.args.own.now))) (records (read_of t))) (sym (rest c.loop-p.rest.now c.in-Some.p.after)))
