-- `typedefs::name_alone` meets its contract: no typedef from the next one on has the name.
use Prim.Native.Nat.{◌+◌, ◌≤◌}
use native.Mathlib.Omega.{arith}
use mathlib.Core.Path.{sym, ap, ◌∙◌, subst}
use mathlib.Core.List.{[]}
use lib.ListN.{length, drop, get_or}
use Rattle.format.specs.Bytes.{Bytes}
use Rattle.format.specs.Words.{first_word}
use Rattle.values.specs.Value.{value_from}
use Rattle.lines.proofs.Cuts.{rest}
use Rattle.words.specs.Spans.{span}
use Rattle.words.proofs.Decoded.{decoded-all, decoded-length, decoded-inside}
use Rattle.typedefs.specs.Walks.{names_from}
use Rattle.typedefs.specs.Targets.{index_from}
use Rattle.typedefs.proofs.Placing.{place-fits, place-name}
use Rattle.typedefs.proofs.Good.{is_missing, among-index, not-missing}
use borrow.Enum.Refused.{opened}
use Rattle.typedefs.proofs.name_alone.Goals as goal

pub offset_bounds-places-k : goal.offset_bounds-places-k
offset_bounds-places-k c =
    omega (arith, c.requires.are_names.0.values.few)

pub bounds-places-k : goal.bounds-places-k
bounds-places-k c =
    omega (arith, c.requires.are_names.0.values.few, c.requires.are_names.0.values.long)

pub slice_bounds-copy_value-count : goal.slice_bounds-copy_value-count
slice_bounds-copy_value-count c =
    omega (arith, (c.requires.are_names.0.values.places c.args.k c.requires.are_names.1).0)

pub slice_bounds-copy_value-start : goal.slice_bounds-copy_value-start
slice_bounds-copy_value-start c =
    omega (arith, (c.requires.are_names.0.values.places c.args.k c.requires.are_names.1).0)

pub copy_value-n-requires : goal.copy_value-n-requires
copy_value-n-requires c =
    subst (λ (x : Bytes). length (value_from x) ≤ length c.args.scratch.now) (sym (rest c.args.d.now (get_or c.args.names.places c.args.k 0))) (place-fits c.args.d.now c.args.names c.requires.are_names.0 c.args.k c.requires.are_names.1 (length c.args.scratch.now) c.requires.text_value)

pub overflow_add-k : goal.overflow_add-k
overflow_add-k c =
    omega (arith, c.requires.are_names.0.values.few, c.requires.are_names.1)

pub slice_bounds-first_index-end : goal.slice_bounds-first_index-end
slice_bounds-first_index-end c =
    let p = get_or c.args.names.places c.args.k 0 in
    decoded-inside (value_from (span p (length c.args.d.now) c.args.d.now)) c.args.scratch.now _ c.copy_value-n.result c.copy_value-n.ensures.0 c.copy_value-n.ensures.1 (subst (λ (x : Bytes). length (value_from x) ≤ length c.args.scratch.now) (sym (rest c.args.d.now p)) (place-fits c.args.d.now c.args.names c.requires.are_names.0 c.args.k c.requires.are_names.1 (length c.args.scratch.now) c.requires.text_value))

pub slice_bounds-first_index-end-2 : goal.slice_bounds-first_index-end-2
slice_bounds-first_index-end-2 c =
    let p = get_or c.args.names.places c.args.k 0 in
    decoded-length (value_from (span p (length c.args.d.now) c.args.d.now)) c.args.scratch.now _ c.copy_value-n.result c.copy_value-n.ensures.0 c.copy_value-n.ensures.1

pub first_index-requires : goal.first_index-requires
first_index-requires c =
    (c.requires.are_names.0, omega (arith, c.requires.are_names.1))

pub returns-in-Missing : goal.returns-in-Missing
returns-in-Missing c =
    let d = c.args.d.now in
    let p = get_or c.args.names.places c.args.k 0 in
    let ns = names_from d 0 in
    let q = ap first_word (decoded-all (value_from (span p (length d) d)) c.args.scratch.now c.copy_value-n.new.out c.copy_value-n.result c.copy_value-n.ensures.0 c.copy_value-n.ensures.1 ∙ ap value_from (rest d p)) ∙ place-name d c.args.names c.requires.are_names.0 c.args.k c.requires.are_names.1 in
    ap is_missing (sym c.in-Missing.is ∙ c.first_index.ensures ∙ ap (λ (u : Bytes). index_from (c.args.k + 1) u (drop (c.args.k + 1) ns)) q) ∙ among-index (c.args.k + 1) (get_or ns c.args.k []) (drop (c.args.k + 1) ns)

pub returns-in_default : goal.returns-in_default
returns-in_default c =
    let d = c.args.d.now in
    let p = get_or c.args.names.places c.args.k 0 in
    let ns = names_from d 0 in
    let q = ap first_word (decoded-all (value_from (span p (length d) d)) c.args.scratch.now c.copy_value-n.new.out c.copy_value-n.result c.copy_value-n.ensures.0 c.copy_value-n.ensures.1 ∙ ap value_from (rest d p)) ∙ place-name d c.args.names c.requires.are_names.0 c.args.k c.requires.are_names.1 in
    not-missing c.first_index.result (opened c.in_default.in_default-own.keys2) ∙ ap is_missing (c.first_index.ensures ∙ ap (λ (u : Bytes). index_from (c.args.k + 1) u (drop (c.args.k + 1) ns)) q) ∙ among-index (c.args.k + 1) (get_or ns c.args.k []) (drop (c.args.k + 1) ns)
