-- `typedefs::read_typedef` meets its contract.
use Prim.Native.Nat.{◌≤◌}
use native.Mathlib.Omega.{arith}
use mathlib.Core.Path.{refl, sym, ap, ◌∙◌, subst}
use lib.ListN.{length}
use Rattle.format.specs.Bytes.{Bytes}
use Rattle.format.specs.Words.{after_word}
use Rattle.format.specs.Numbers.{int_bounds}
use Rattle.format.specs.Types.{type_of}
use Rattle.values.specs.Value.{value_from}
use Rattle.lines.proofs.Cuts.{rest}
use Rattle.words.specs.Spans.{span}
use Rattle.words.proofs.Decoded.{decoded-length, decoded-after, decoded-inside}
use Rattle.typing.specs.Meaning.{Told}
use Rattle.typedefs.specs.Walks.{names_from}
use Rattle.typedefs.specs.Targets.{target_by}
use Rattle.typedefs.proofs.read_typedef.Goals as goal

pub copy_value-n-requires : goal.copy_value-n-requires
copy_value-n-requires c =
    subst (λ (x : Bytes). length (value_from x) ≤ length c.args.scratch.now) (sym (rest c.args.d.now c.args.value)) c.requires.value_in_bounds.1

pub slice_bounds-behind_word-end : goal.slice_bounds-behind_word-end
slice_bounds-behind_word-end c =
    decoded-inside (value_from (span c.args.value (length c.args.d.now) c.args.d.now)) c.args.scratch.now _ c.copy_value-n.result c.copy_value-n.ensures.0 c.copy_value-n.ensures.1 (subst (λ (x : Bytes). length (value_from x) ≤ length c.args.scratch.now) (sym (rest c.args.d.now c.args.value)) c.requires.value_in_bounds.1)

pub slice_bounds-behind_word-end-2 : goal.slice_bounds-behind_word-end-2
slice_bounds-behind_word-end-2 c =
    decoded-length (value_from (span c.args.value (length c.args.d.now) c.args.d.now)) c.args.scratch.now _ c.copy_value-n.result c.copy_value-n.ensures.0 c.copy_value-n.ensures.1

pub slice_bounds-type_of-count : goal.slice_bounds-type_of-count
slice_bounds-type_of-count c =
    let l = decoded-length (value_from (span c.args.value (length c.args.d.now) c.args.d.now)) c.args.scratch.now _ c.copy_value-n.result c.copy_value-n.ensures.0 c.copy_value-n.ensures.1 in
    omega (arith, l, c.behind_word-at.ensures.0)

pub slice_bounds-type_of-start : goal.slice_bounds-type_of-start
slice_bounds-type_of-start c =
    let l = decoded-length (value_from (span c.args.value (length c.args.d.now) c.args.d.now)) c.args.scratch.now _ c.copy_value-n.result c.copy_value-n.ensures.0 c.copy_value-n.ensures.1 in
    omega (arith, l, c.behind_word-at.ensures.0)

pub slice_bounds-type_of-end : goal.slice_bounds-type_of-end
slice_bounds-type_of-end c =
    decoded-inside (value_from (span c.args.value (length c.args.d.now) c.args.d.now)) c.args.scratch.now _ c.copy_value-n.result c.copy_value-n.ensures.0 c.copy_value-n.ensures.1 (subst (λ (x : Bytes). length (value_from x) ≤ length c.args.scratch.now) (sym (rest c.args.d.now c.args.value)) c.requires.value_in_bounds.1)

pub slice_bounds-target_in-count : goal.slice_bounds-target_in-count
slice_bounds-target_in-count c =
    let l = decoded-length (value_from (span c.args.value (length c.args.d.now) c.args.d.now)) c.args.scratch.now _ c.copy_value-n.result c.copy_value-n.ensures.0 c.copy_value-n.ensures.1 in
    omega (arith, l, c.behind_word-at.ensures.0)

pub slice_bounds-target_in-start : goal.slice_bounds-target_in-start
slice_bounds-target_in-start c =
    let l = decoded-length (value_from (span c.args.value (length c.args.d.now) c.args.d.now)) c.args.scratch.now _ c.copy_value-n.result c.copy_value-n.ensures.0 c.copy_value-n.ensures.1 in
    omega (arith, l, c.behind_word-at.ensures.0)

pub slice_bounds-target_in-end : goal.slice_bounds-target_in-end
slice_bounds-target_in-end c =
    decoded-inside (value_from (span c.args.value (length c.args.d.now) c.args.d.now)) c.args.scratch.now _ c.copy_value-n.result c.copy_value-n.ensures.0 c.copy_value-n.ensures.1 (subst (λ (x : Bytes). length (value_from x) ≤ length c.args.scratch.now) (sym (rest c.args.d.now c.args.value)) c.requires.value_in_bounds.1)

pub target_in-target-requires : goal.target_in-target-requires
target_in-target-requires c =
    (c.requires.are_names, c.type_of-kind.ensures.sound)

pub returns : goal.returns
returns c =
    let d = c.args.d.now in
    let v = value_from (span c.args.value (length d) d) in
    let l = decoded-length v c.args.scratch.now _ c.copy_value-n.result c.copy_value-n.ensures.0 c.copy_value-n.ensures.1 in
    let g = decoded-after v c.args.scratch.now _ c.copy_value-n.result c.copy_value-n.ensures.0 c.copy_value-n.ensures.1 c.behind_word-at.result (omega (arith, l, c.behind_word-at.ensures.0)) c.behind_word-at.ensures.1 ∙ ap (λ (x : Bytes). after_word (value_from x)) (rest d c.args.value) in
    record {
      place = refl;
      told = subst (λ (u : Bytes). Told u (type_of int_bounds u) c.type_of-kind.result) g c.type_of-kind.ensures;
      target_is = c.target_in-target.ensures ∙ ap (target_by (names_from d 0)) c.type_of-kind.ensures.answers ∙ ap (λ (u : Bytes). target_by (names_from d 0) (type_of int_bounds u)) g;
    }
