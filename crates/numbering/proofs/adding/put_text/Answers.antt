-- `numbering::adding::put_text` meets its contract: the field writer gets the part that begins at the place.
use Prim.Native.Nat.{ℕ, ◌+◌}
use native.Mathlib.Omega.{arith}
use mathlib.Core.Path.{sym, ap, ◌∙◌}
use mathlib.Core.Bool.{false≢true}
use lib.ListN.{length-take, length-drop}
use Rattle.format.specs.Written.{written}
use Rattle.writing.proofs.Texts.{written-length, indent-length}
use Rattle.numbering.proofs.Marking.{put-behind}
use Rattle.numbering.proofs.adding.put_text.Goals as goal

pub slice_bounds-put_field-count : goal.slice_bounds-put_field-count
slice_bounds-put_field-count c =
    let h = c.requires.value_in_bounds c.if-short.true in
    omega (arith, h)

pub slice_bounds-put_field-start : goal.slice_bounds-put_field-start
slice_bounds-put_field-start c =
    let h = c.requires.value_in_bounds c.if-short.true in
    omega (arith, h)

pub put_field-requires : goal.put_field-requires
put_field-requires c =
    let h = c.requires.value_in_bounds c.if-short.true in
    simp (length-take, length-drop) (omega (arith, h))

pub overflow_add-result : goal.overflow_add-result
overflow_add-result c =
    let h = c.requires.value_in_bounds c.if-short.true in
    omega (arith, h, c.put_field.ensures.0, c.well_formed)

pub returns-then-short : goal.returns-then-short
returns-then-short c =
    let h = c.requires.value_in_bounds c.if-short.true in
    (ap (λ (n : ℕ). c.args.len + n) c.put_field.ensures.0, λ s. put-behind c.args.out.now (written c.args.name.now c.args.value.now) c.put_field.new.out c.args.len c.put_field.result h c.put_field.ensures.0 c.put_field.ensures.1)

pub overflow_add-result-else-short : goal.overflow_add-result-else-short
overflow_add-result-else-short c =
    omega (arith, c.written_len.ensures, written-length c.args.name.now c.args.value.now, indent-length c.args.value.now, c.requires.name_len_bound.0, c.requires.name_len_bound.1, c.requires.name_len_bound.2)

pub returns-else-short : goal.returns-else-short
returns-else-short c =
    (ap (λ (n : ℕ). c.args.len + n) c.written_len.ensures, λ s. absurd (false≢true (sym c.if-short.false ∙ s)))
