use Prim.Native.Nat.{◌+◌, ◌-◌, ◌≤◌}
use native.Mathlib.Omega.{arith}
use mathlib.Core.Path.{refl, sym, ap, ◌∙◌, subst}
use lib.ListN.{length, take}
use Rattle.format.specs.Bytes.{Bytes, text}
use Rattle.format.specs.Words.{words as words_of}
use Rattle.format.specs.Rules.{auto}
use Rattle.values.specs.Value.{value_from}
use Rattle.lines.proofs.Cuts.{rest}
use Rattle.words.specs.Spans.{span}
use Rattle.words.proofs.Decoded.{decoded-all, decoded-length, decoded-inside}
use Rattle.records.specs.Walk.{record_in}
use Rattle.records.proofs.Readings.{part-readable}
use Rattle.records.proofs.Named.{value-told}
use Rattle.numbering.specs.Adding.{unadded, pair_by, step_all}
use Rattle.numbering.proofs.Stepping.{going_start, going_end, going-none, going_on, sums-start}
use Rattle.numbering.proofs.Lists.{words_from, listed_start, listed_here, listed-fits, listed-on, words-cut, words-room, words-none}
use Rattle.numbering.proofs.adding.add_lists.Goals as goal

pub loop-value-init : goal.loop-value-init
loop-value-init c =
    let ws = auto (record_in c.args.d.now) in
    let f = pair_by ws c.args.bounds.floors c.args.bounds.limits in
    (omega arith, c.requires.described.0.reads, listed_start c.args.d.now c.requires.described.0, refl, refl, λ ns h. going_start f ws c.args.out.now _ (words_from c.args.d.now 0) (unadded ns) (sums-start ws ns c.args.out.now c.args.seen h) (omega (arith, c.requires.listed.few)))

pub next_named-requires : goal.next_named-requires
next_named-requires c =
    part-readable c.args.d.now c.loop-value.i c.loop-value.invariant.1

pub shape_of-scratch-in_default : goal.shape_of-scratch-in_default
shape_of-scratch-in_default c =
    c.loop-value.invariant.3

pub shape_of-out-in_default : goal.shape_of-out-in_default
shape_of-out-in_default c =
    c.loop-value.invariant.4

pub returns-in_default : goal.returns-in_default
returns-in_default c =
    let ws = auto (record_in c.args.d.now) in
    let f = pair_by ws c.args.bounds.floors c.args.bounds.limits in
    λ ns h. going_end f ws c.loop-value.out c.loop-value.sums (words_from c.args.d.now c.loop-value.i) (step_all f (unadded ns) ws) (c.loop-value.invariant.5 ns h) (words-none c.args.d.now c.loop-value.i (value-told c.args.d.now (text "%auto") c.loop-value.i c.next_named.result c.next_named.ensures c.in_default.is))

pub overflow_add-i : goal.overflow_add-i
overflow_add-i c =
    let h = value-told c.args.d.now (text "%auto") c.loop-value.i c.next_named.result c.next_named.ensures c.in-Some.is in
    omega (arith, h.value_there)

pub slice_bounds-copy_value-count : goal.slice_bounds-copy_value-count
slice_bounds-copy_value-count c =
    let h = value-told c.args.d.now (text "%auto") c.loop-value.i c.next_named.result c.next_named.ensures c.in-Some.is in
    omega (arith, h.value_there)

pub slice_bounds-copy_value-start : goal.slice_bounds-copy_value-start
slice_bounds-copy_value-start c =
    let h = value-told c.args.d.now (text "%auto") c.loop-value.i c.next_named.result c.next_named.ensures c.in-Some.is in
    omega (arith, h.value_there)

pub copy_value-n-requires : goal.copy_value-n-requires
copy_value-n-requires c =
    let h = value-told c.args.d.now (text "%auto") c.loop-value.i c.next_named.result c.next_named.ensures c.in-Some.is in
    subst (λ (x : Bytes). length (value_from x) ≤ length c.loop-value.scratch) (sym (rest c.args.d.now (c.loop-value.i + c.in-Some.field-0.value))) (omega (arith, listed-fits c.args.d.now c.loop-value.i _ _ h _ refl c.loop-value.invariant.2, c.loop-value.invariant.3, c.requires.described.1))

pub slice_bounds-add_words-end : goal.slice_bounds-add_words-end
slice_bounds-add_words-end c =
    let h = value-told c.args.d.now (text "%auto") c.loop-value.i c.next_named.result c.next_named.ensures c.in-Some.is in
    decoded-inside (value_from (span (c.loop-value.i + c.in-Some.field-0.value) (length c.args.d.now) c.args.d.now)) c.loop-value.scratch _ c.copy_value-n.result c.copy_value-n.ensures.0 c.copy_value-n.ensures.1 (subst (λ (x : Bytes). length (value_from x) ≤ length c.loop-value.scratch) (sym (rest c.args.d.now (c.loop-value.i + c.in-Some.field-0.value))) (omega (arith, listed-fits c.args.d.now c.loop-value.i _ _ h _ refl c.loop-value.invariant.2, c.loop-value.invariant.3, c.requires.described.1)))

pub slice_bounds-add_words-end-in-loop-value : goal.slice_bounds-add_words-end-in-loop-value
slice_bounds-add_words-end-in-loop-value c =
    let h = value-told c.args.d.now (text "%auto") c.loop-value.i c.next_named.result c.next_named.ensures c.in-Some.is in
    decoded-length (value_from (span (c.loop-value.i + c.in-Some.field-0.value) (length c.args.d.now) c.args.d.now)) c.loop-value.scratch _ c.copy_value-n.result c.copy_value-n.ensures.0 c.copy_value-n.ensures.1

pub add_words-requires : goal.add_words-requires
add_words-requires c =
    let ws = auto (record_in c.args.d.now) in
    let f = pair_by ws c.args.bounds.floors c.args.bounds.limits in
    let h = value-told c.args.d.now (text "%auto") c.loop-value.i c.next_named.result c.next_named.ensures c.in-Some.is in
    let x = take c.copy_value-n.result c.copy_value-n.new.out in
    let q = decoded-all (value_from (span (c.loop-value.i + c.in-Some.field-0.value) (length c.args.d.now) c.args.d.now)) c.loop-value.scratch c.copy_value-n.new.out c.copy_value-n.result c.copy_value-n.ensures.0 c.copy_value-n.ensures.1 ∙ ap value_from (rest c.args.d.now (c.loop-value.i + c.in-Some.field-0.value)) in
    let go = c.loop-value.invariant.5 c.requires.seen.0 c.requires.seen.1 in
    record { listed = c.requires.listed; limited = c.requires.limited; s_value = (listed_here c.args.d.now c.loop-value.i _ _ h x q c.loop-value.invariant.2, listed-fits c.args.d.now c.loop-value.i _ _ h x q c.loop-value.invariant.2, omega (arith, c.loop-value.invariant.4, c.requires.described.2)); sums = (go.reached, go.sums, words-room c.args.d.now c.loop-value.i _ _ h x q go.reached.passed go.few) }

pub shape_of-scratch-in_err-sums : goal.shape_of-scratch-in_err-sums
shape_of-scratch-in_err-sums c =
    c.copy_value-n.auto.out ∙ c.loop-value.invariant.3

pub shape_of-out-in_err-sums : goal.shape_of-out-in_err-sums
shape_of-out-in_err-sums c =
    c.add_words.auto.out ∙ c.loop-value.invariant.4

pub returns-in_err-sums : goal.returns-in_err-sums
returns-in_err-sums c =
    let ws = auto (record_in c.args.d.now) in
    let f = pair_by ws c.args.bounds.floors c.args.bounds.limits in
    let h = value-told c.args.d.now (text "%auto") c.loop-value.i c.next_named.result c.next_named.ensures c.in-Some.is in
    let x = take c.copy_value-n.result c.copy_value-n.new.out in
    let q = decoded-all (value_from (span (c.loop-value.i + c.in-Some.field-0.value) (length c.args.d.now) c.args.d.now)) c.loop-value.scratch c.copy_value-n.new.out c.copy_value-n.result c.copy_value-n.ensures.0 c.copy_value-n.ensures.1 ∙ ap value_from (rest c.args.d.now (c.loop-value.i + c.in-Some.field-0.value)) in
    λ ns g. let go = c.loop-value.invariant.5 ns g in
    rw c.from_residual.ensures (going-none f ws c.loop-value.out c.loop-value.sums (words_from c.args.d.now c.loop-value.i) (step_all f (unadded ns) ws) go (words_of x) (words_from c.args.d.now (c.loop-value.i + c.in-Some.field-0.end)) (words-cut c.args.d.now c.loop-value.i _ _ h x q) c.add_words.new.out c.add_words.result (c.add_words.ensures go.reached go.sums (words-room c.args.d.now c.loop-value.i _ _ h x q go.reached.passed go.few)) c.in_err-sums.was)

pub overflow_add-i-in-loop-value : goal.overflow_add-i-in-loop-value
overflow_add-i-in-loop-value c =
    let h = value-told c.args.d.now (text "%auto") c.loop-value.i c.next_named.result c.next_named.ensures c.in-Some.is in
    omega (arith, h.inside, c.well_formed.0.0)

pub loop-value-smaller : goal.loop-value-smaller
loop-value-smaller c =
    let h = value-told c.args.d.now (text "%auto") c.loop-value.i c.next_named.result c.next_named.ensures c.in-Some.is in
    omega (arith, h.moves, h.inside)

pub loop-value-preserved : goal.loop-value-preserved
loop-value-preserved c =
    let ws = auto (record_in c.args.d.now) in
    let f = pair_by ws c.args.bounds.floors c.args.bounds.limits in
    let h = value-told c.args.d.now (text "%auto") c.loop-value.i c.next_named.result c.next_named.ensures c.in-Some.is in
    let x = take c.copy_value-n.result c.copy_value-n.new.out in
    let q = decoded-all (value_from (span (c.loop-value.i + c.in-Some.field-0.value) (length c.args.d.now) c.args.d.now)) c.loop-value.scratch c.copy_value-n.new.out c.copy_value-n.result c.copy_value-n.ensures.0 c.copy_value-n.ensures.1 ∙ ap value_from (rest c.args.d.now (c.loop-value.i + c.in-Some.field-0.value)) in (
      h.inside,
      h.readable,
      listed-on c.args.d.now c.loop-value.i _ _ h x q c.loop-value.invariant.2,
      c.copy_value-n.auto.out ∙ c.loop-value.invariant.3,
      c.add_words.auto.out ∙ c.loop-value.invariant.4,
      λ ns g. let go = c.loop-value.invariant.5 ns g in
          going_on f ws c.loop-value.out c.loop-value.sums (words_from c.args.d.now c.loop-value.i) (step_all f (unadded ns) ws) go (words_of x) (words_from c.args.d.now (c.loop-value.i + c.in-Some.field-0.end)) (words-cut c.args.d.now c.loop-value.i _ _ h x q) c.add_words.new.out c.add_words.result (c.add_words.ensures go.reached go.sums (words-room c.args.d.now c.loop-value.i _ _ h x q go.reached.passed go.few)) c.in_ok-sums.sums c.in_ok-sums.was,
    )
