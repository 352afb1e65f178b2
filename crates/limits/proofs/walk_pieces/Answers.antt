use borrow.Author.Tests.{not-true, not-false}
use Prim.Native.Nat.{◌+◌, ◌-◌}
use native.Mathlib.Omega.{arith}
use mathlib.Core.Path.{refl, sym, ap, ◌∙◌, subst}
use mathlib.Core.Bool.{true}
use lib.Dec.{leb, eqb}
use lib.ListN.{length, take, drop}
use Rattle.format.specs.Bytes.{text, same}
use Rattle.format.specs.Limits.{name_bytes, value_bytes}
use Rattle.values.specs.Value.{value_from}
use Rattle.lines.proofs.Cuts.{rest, ended-drop}
use Rattle.records.proofs.Looks.{looks}
use Rattle.records.proofs.Steps.{steps}
use Rattle.limits.specs.declared.Open.{Open}
use Rattle.limits.proofs.Opens.{one-most, none-most}
use Rattle.limits.proofs.Runs.{stop-blank, stop-end}
use Rattle.limits.proofs.Questions.{line-no}
use Rattle.limits.proofs.Walked.{Walked, Shut, walked_none, walked-comment, walked-past, walked-field, walked-blank, walked_end, field_told, field-few, past-scanned}
use mathlib.Core.Bool.{not}
use Rattle.limits.proofs.walk_pieces.Goals as goal

pub loop-size-init : goal.loop-size-init
loop-size-init c =
    let e = c.unopened-o.ensures in (omega arith, refl, omega (arith, ap (λ (x : Open). x.fields) e), omega (arith, ap (λ (x : Open). x.fields) e, ap (λ (x : Open). x.recs) e), omega arith, refl, refl, refl, λ r. subst (λ (x : Open). Walked c.args.s.now 0 x 0 true c.args.starts.now c.args.ends.now c.args.afters.now) (sym e) (walked_none c.args.s.now c.args.starts.now c.args.ends.now c.args.afters.now r))

pub next_piece-requires : goal.next_piece-requires
next_piece-requires c =
    record { s_value = rw (rest c.args.s.now c.loop-size.i) (ended-drop c.args.s.now c.loop-size.i c.requires.s_value.0) }

pub overflow_add-i : goal.overflow_add-i
overflow_add-i c =
    let p = (looks c.args.s.now c.loop-size.i c.next_piece.result c.requires.s_value.0 c.next_piece.ensures c.in-Comment.is) in omega (arith, p.2)

pub loop-size-smaller-in-Comment : goal.loop-size-smaller-in-Comment
loop-size-smaller-in-Comment c =
    let p = (looks c.args.s.now c.loop-size.i c.next_piece.result c.requires.s_value.0 c.next_piece.ensures c.in-Comment.is) in omega (arith, p.1, p.2)

pub loop-size-preserved-in-Comment : goal.loop-size-preserved-in-Comment
loop-size-preserved-in-Comment c =
    let p = (looks c.args.s.now c.loop-size.i c.next_piece.result c.requires.s_value.0 c.next_piece.ensures c.in-Comment.is) in (p.2, c.loop-size.invariant.1 ∙ p.0, c.loop-size.invariant.2, c.loop-size.invariant.3, omega (arith, c.loop-size.invariant.4), c.loop-size.invariant.5, c.loop-size.invariant.6, c.loop-size.invariant.7, λ r. let q = steps c.args.s.now c.loop-size.i c.next_piece.result (sym c.loop-size.invariant.1 ∙ r) c.next_piece.ensures c.in-Comment.is in walked-comment (c.loop-size.invariant.8 r) q.0 c.in-Comment.size q.1)

pub overflow_add-named : goal.overflow_add-named
overflow_add-named c =
    let f = field_told c.args.s.now c.loop-size.i c.next_piece.result c.requires.s_value.0 c.next_piece.ensures c.in-Field.is in omega (arith, f.0, f.3)

pub overflow_add-from : goal.overflow_add-from
overflow_add-from c =
    let f = field_told c.args.s.now c.loop-size.i c.next_piece.result c.requires.s_value.0 c.next_piece.ensures c.in-Field.is in omega (arith, f.1, f.3)

pub overflow_add-e : goal.overflow_add-e
overflow_add-e c =
    let f = field_told c.args.s.now c.loop-size.i c.next_piece.result c.requires.s_value.0 c.next_piece.ensures c.in-Field.is in omega (arith, f.3)

pub slice_bounds-field_fits-count : goal.slice_bounds-field_fits-count
slice_bounds-field_fits-count c =
    let f = field_told c.args.s.now c.loop-size.i c.next_piece.result c.requires.s_value.0 c.next_piece.ensures c.in-Field.is in omega (arith, f.1)

pub slice_bounds-field_fits-start : goal.slice_bounds-field_fits-start
slice_bounds-field_fits-start c =
    let f = field_told c.args.s.now c.loop-size.i c.next_piece.result c.requires.s_value.0 c.next_piece.ensures c.in-Field.is in omega (arith, f.1)

pub slice_bounds-field_fits-end : goal.slice_bounds-field_fits-end
slice_bounds-field_fits-end c =
    let f = field_told c.args.s.now c.loop-size.i c.next_piece.result c.requires.s_value.0 c.next_piece.ensures c.in-Field.is in omega (arith, f.3)

pub field_fits-requires : goal.field_fits-requires
field_fits-requires c =
    c.loop-size.invariant.2

pub slice_bounds-past-count : goal.slice_bounds-past-count
slice_bounds-past-count c =
    let f = field_told c.args.s.now c.loop-size.i c.next_piece.result c.requires.s_value.0 c.next_piece.ensures c.in-Field.is in omega (arith, f.3)

pub slice_bounds-past-start : goal.slice_bounds-past-start
slice_bounds-past-start c =
    let f = field_told c.args.s.now c.loop-size.i c.next_piece.result c.requires.s_value.0 c.next_piece.ensures c.in-Field.is in omega (arith, f.3)

pub shape_of-starts-then-not-field_fits : goal.shape_of-starts-then-not-field_fits
shape_of-starts-then-not-field_fits c =
    c.loop-size.invariant.5

pub shape_of-ends-then-not-field_fits : goal.shape_of-ends-then-not-field_fits
shape_of-ends-then-not-field_fits c =
    c.loop-size.invariant.6

pub shape_of-afters-then-not-field_fits : goal.shape_of-afters-then-not-field_fits
shape_of-afters-then-not-field_fits c =
    c.loop-size.invariant.7

pub returns-then-not-field_fits : goal.returns-then-not-field_fits
returns-then-not-field_fits c =
    let p = (looks c.args.s.now c.loop-size.i c.next_piece.result c.requires.s_value.0 c.next_piece.ensures c.in-Field.is) in past-scanned c.args.s.now c.past.result (c.loop-size.i + c.in-Field.size) (c.loop-size.invariant.1 ∙ p.0) c.past.ensures (λ r. walked-past (c.loop-size.invariant.8 r) c.in-Field.name c.in-Field.value c.in-Field.size (steps c.args.s.now c.loop-size.i c.next_piece.result (sym c.loop-size.invariant.1 ∙ r) c.next_piece.ensures c.in-Field.is) c.field_fits.result c.field_fits.ensures (not-true c.field_fits.result (ap not c.if-not-field_fits.true)))

pub slice_bounds-with_field-count : goal.slice_bounds-with_field-count
slice_bounds-with_field-count c =
    let f = field_told c.args.s.now c.loop-size.i c.next_piece.result c.requires.s_value.0 c.next_piece.ensures c.in-Field.is in omega (arith, f.0)

pub slice_bounds-with_field-start : goal.slice_bounds-with_field-start
slice_bounds-with_field-start c =
    let f = field_told c.args.s.now c.loop-size.i c.next_piece.result c.requires.s_value.0 c.next_piece.ensures c.in-Field.is in omega (arith, f.0)

pub slice_bounds-with_field-end : goal.slice_bounds-with_field-end
slice_bounds-with_field-end c =
    let f = field_told c.args.s.now c.loop-size.i c.next_piece.result c.requires.s_value.0 c.next_piece.ensures c.in-Field.is in omega (arith, f.0, f.3)

pub with_field-o-requires : goal.with_field-o-requires
with_field-o-requires c =
    (c.loop-size.invariant.2, c.loop-size.invariant.3)

pub loop-size-smaller-in-Field : goal.loop-size-smaller-in-Field
loop-size-smaller-in-Field c =
    let f = field_told c.args.s.now c.loop-size.i c.next_piece.result c.requires.s_value.0 c.next_piece.ensures c.in-Field.is in omega (arith, f.2, f.3)

pub loop-size-preserved-in-Field : goal.loop-size-preserved-in-Field
loop-size-preserved-in-Field c =
    let p = (looks c.args.s.now c.loop-size.i c.next_piece.result c.requires.s_value.0 c.next_piece.ensures c.in-Field.is) in let e = c.with_field-o.ensures in
    let few = field-few c.loop-size.o.fields (leb c.in-Field.name name_bytes) (leb (length (value_from (take ((c.loop-size.i + c.in-Field.size) - (c.loop-size.i + c.in-Field.value)) (drop (c.loop-size.i + c.in-Field.value) c.args.s.now)))) value_bytes) c.field_fits.result c.field_fits.ensures (not-false c.field_fits.result (ap not c.if-not-field_fits.false)) in
    (p.2, c.loop-size.invariant.1 ∙ p.0, omega (arith, ap (λ (x : Open). x.fields) e, few), omega (arith, ap (λ (x : Open). x.fields) e, ap (λ (x : Open). x.recs) e, c.loop-size.invariant.3, one-most (same (text "%rec") (take ((c.loop-size.i + c.in-Field.name) - c.loop-size.i) (drop c.loop-size.i c.args.s.now)))), omega (arith, c.loop-size.invariant.4), c.loop-size.invariant.5, c.loop-size.invariant.6, c.loop-size.invariant.7, λ r. walked-field (c.loop-size.invariant.8 r) c.in-Field.name c.in-Field.value c.in-Field.size (steps c.args.s.now c.loop-size.i c.next_piece.result (sym c.loop-size.invariant.1 ∙ r) c.next_piece.ensures c.in-Field.is) c.field_fits.result c.field_fits.ensures (not-false c.field_fits.result (ap not c.if-not-field_fits.false)) c.with_field-o.result e)

pub count_head-count-requires : goal.count_head-count-requires
count_head-count-requires c =
    record { count_le_file_bytes = omega (arith, c.loop-size.invariant.0, c.loop-size.invariant.4, c.requires.s_value.1); starts_len = (c.loop-size.invariant.5 ∙ c.requires.starts_len.0, c.loop-size.invariant.6 ∙ c.requires.starts_len.1, c.loop-size.invariant.7 ∙ c.requires.starts_len.2) }

pub overflow_add-i-in-Blank : goal.overflow_add-i-in-Blank
overflow_add-i-in-Blank c =
    let p = (looks c.args.s.now c.loop-size.i c.next_piece.result c.requires.s_value.0 c.next_piece.ensures c.in-Blank.is) in omega (arith, p.2)

pub loop-size-smaller : goal.loop-size-smaller
loop-size-smaller c =
    let p = (looks c.args.s.now c.loop-size.i c.next_piece.result c.requires.s_value.0 c.next_piece.ensures c.in-Blank.is) in omega (arith, p.1, p.2)

pub loop-size-preserved : goal.loop-size-preserved
loop-size-preserved c =
    let p = (looks c.args.s.now c.loop-size.i c.next_piece.result c.requires.s_value.0 c.next_piece.ensures c.in-Blank.is) in let u = c.unopened-o-in-Blank.ensures in (
      p.2,
      c.loop-size.invariant.1 ∙ p.0,
      omega (arith, ap (λ (x : Open). x.fields) u),
      omega (arith, ap (λ (x : Open). x.fields) u, ap (λ (x : Open). x.recs) u),
      omega (arith, c.loop-size.invariant.4, c.count_head-count.ensures.value, none-most (eqb c.loop-size.o.recs 0), p.1),
      c.count_head-count.auto.starts ∙ c.loop-size.invariant.5,
      c.count_head-count.auto.ends ∙ c.loop-size.invariant.6,
      c.count_head-count.auto.afters ∙ c.loop-size.invariant.7,
      λ r.
          let w = c.loop-size.invariant.8 r in
          let q = steps c.args.s.now c.loop-size.i c.next_piece.result (sym c.loop-size.invariant.1 ∙ r) c.next_piece.ensures c.in-Blank.is in
          let z : Shut w c.count_head-count.result c.is_once-here.result c.count_head-count.new.starts c.count_head-count.new.ends c.count_head-count.new.afters = record {
            few = c.loop-size.invariant.2;
            once-told = c.is_once-here.ensures;
            number = c.count_head-count.ensures.value;
            starts-put = c.count_head-count.ensures.starts_after;
            ends-put = c.count_head-count.ensures.ends_after;
            afters-put = c.count_head-count.ensures.afters_after;
            room = (c.loop-size.invariant.5 ∙ c.requires.starts_len.0, c.loop-size.invariant.6 ∙ c.requires.starts_len.1, c.loop-size.invariant.7 ∙ c.requires.starts_len.2);
          } in
          walked-blank w z (stop-blank c.args.s.now c.loop-size.i w.fields q.1) q.0 c.in-Blank.size q.1 c.unopened-o-in-Blank.result u,
    )

pub count_head-all-requires : goal.count_head-all-requires
count_head-all-requires c =
    record { count_le_file_bytes = omega (arith, c.loop-size.invariant.0, c.loop-size.invariant.4, c.requires.s_value.1); starts_len = (c.loop-size.invariant.5 ∙ c.requires.starts_len.0, c.loop-size.invariant.6 ∙ c.requires.starts_len.1, c.loop-size.invariant.7 ∙ c.requires.starts_len.2) }

pub shape_of-starts-in-End : goal.shape_of-starts-in-End
shape_of-starts-in-End c =
    c.count_head-all.auto.starts ∙ c.loop-size.invariant.5

pub shape_of-ends-in-End : goal.shape_of-ends-in-End
shape_of-ends-in-End c =
    c.count_head-all.auto.ends ∙ c.loop-size.invariant.6

pub shape_of-afters-in-End : goal.shape_of-afters-in-End
shape_of-afters-in-End c =
    c.count_head-all.auto.afters ∙ c.loop-size.invariant.7

pub returns-in-End : goal.returns-in-End
returns-in-End c =
    let y = (looks c.args.s.now c.loop-size.i c.next_piece.result c.requires.s_value.0 c.next_piece.ensures c.in-End.is) in let r = c.loop-size.invariant.1 ∙ y in
    let w = c.loop-size.invariant.8 r in
    let q = steps c.args.s.now c.loop-size.i c.next_piece.result (sym c.loop-size.invariant.1 ∙ r) c.next_piece.ensures c.in-End.is in
    let z : Shut w c.count_head-all.result c.is_once-here-in-End.result c.count_head-all.new.starts c.count_head-all.new.ends c.count_head-all.new.afters = record {
      few = c.loop-size.invariant.2;
      once-told = c.is_once-here-in-End.ensures;
      number = c.count_head-all.ensures.value;
      starts-put = c.count_head-all.ensures.starts_after;
      ends-put = c.count_head-all.ensures.ends_after;
      afters-put = c.count_head-all.ensures.afters_after;
      room = (c.loop-size.invariant.5 ∙ c.requires.starts_len.0, c.loop-size.invariant.6 ∙ c.requires.starts_len.1, c.loop-size.invariant.7 ∙ c.requires.starts_len.2);
    } in
    walked_end w z (stop-end c.args.s.now c.loop-size.i w.fields q) r q

pub shape_of-starts-in-Fault : goal.shape_of-starts-in-Fault
shape_of-starts-in-Fault c =
    c.loop-size.invariant.5

pub shape_of-ends-in-Fault : goal.shape_of-ends-in-Fault
shape_of-ends-in-Fault c =
    c.loop-size.invariant.6

pub shape_of-afters-in-Fault : goal.shape_of-afters-in-Fault
shape_of-afters-in-Fault c =
    c.loop-size.invariant.7

pub returns-in-Fault : goal.returns-in-Fault
returns-in-Fault c =
    sym (line-no c.args.s.now (c.loop-size.invariant.1 ∙ (looks c.args.s.now c.loop-size.i c.next_piece.result c.requires.s_value.0 c.next_piece.ensures c.in-Fault.is)))
