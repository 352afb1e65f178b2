-- `numbering::bounds::raise_place` meets its contract.
use Prim.Native.Nat.{◌≤◌, max}
use mathlib.Core.Path.{sym, ap, ◌∙◌, subst}
use lib.ListN.{length, drop, get_or}
use Rattle.format.specs.Bytes.{Bytes}
use Rattle.format.specs.Numbers.{int_bounds, int_of}
use Rattle.format.specs.Words.{trim}
use Rattle.values.specs.Value.{value_from}
use Rattle.lines.proofs.Cuts.{rest}
use Rattle.words.specs.Spans.{span}
use Rattle.words.proofs.Decoded.{decoded-all, decoded-length, decoded-inside}
use Rattle.numbering.specs.Bounds.{above_in}
use Rattle.numbering.proofs.Bounding.{joined-here, joined-none}
use Rattle.numbering.proofs.bounds.raise_place.Goals as goal

pub copy_value-n-requires : goal.copy_value-n-requires
copy_value-n-requires c =
    subst (λ (x : Bytes). length (value_from x) ≤ length c.args.scratch.now) (sym (rest c.args.s.now c.args.value)) c.requires.1

pub slice_bounds-exceed_value-end : goal.slice_bounds-exceed_value-end
slice_bounds-exceed_value-end c =
    decoded-inside (value_from (span c.args.value (length c.args.s.now) c.args.s.now)) c.args.scratch.now _ c.copy_value-n.result c.copy_value-n.ensures.0 c.copy_value-n.ensures.1 (subst (λ (x : Bytes). length (value_from x) ≤ length c.args.scratch.now) (sym (rest c.args.s.now c.args.value)) c.requires.1)

pub slice_bounds-exceed_value-end-then-k-count : goal.slice_bounds-exceed_value-end-then-k-count
slice_bounds-exceed_value-end-then-k-count c =
    decoded-length (value_from (span c.args.value (length c.args.s.now) c.args.s.now)) c.args.scratch.now _ c.copy_value-n.result c.copy_value-n.ensures.0 c.copy_value-n.ensures.1

pub returns-then-k-count : goal.returns-then-k-count
returns-then-k-count c =
    let v = value_from (span c.args.value (length c.args.s.now) c.args.s.now) in
    let all = decoded-all v c.args.scratch.now _ c.copy_value-n.result c.copy_value-n.ensures.0 c.copy_value-n.ensures.1 ∙ ap value_from (rest c.args.s.now c.args.value) in
    joined-here max c.args.count c.args.k (above_in (int_of int_bounds (trim (value_from (drop c.args.value c.args.s.now))))) c.args.floors.now c.exceed_value.result c.if-k-count.true (c.exceed_value.ensures ∙ ap (λ (x : Bytes). max (get_or c.args.floors.now c.args.k 0) (above_in (int_of int_bounds (trim x)))) all)

pub returns-else-k-count : goal.returns-else-k-count
returns-else-k-count c =
    joined-none max c.args.count c.args.k (above_in (int_of int_bounds (trim (value_from (drop c.args.value c.args.s.now))))) c.args.floors.now c.if-k-count.false
