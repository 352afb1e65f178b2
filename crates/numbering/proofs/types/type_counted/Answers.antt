-- `numbering::types::type_counted` meets its contract.
use Prim.Native.Nat.{◌≤◌}
use mathlib.Core.Path.{sym, ap, ◌∙◌, subst}
use mathlib.Core.Bool.{Bool, ◌||◌, not}
use lib.ListN.{length, drop}
use Rattle.format.specs.Bytes.{Bytes, any, among}
use Rattle.format.specs.Rules.{typed_names, auto}
use Rattle.values.specs.Value.{value_from}
use Rattle.lines.proofs.Cuts.{rest}
use Rattle.words.specs.Spans.{span}
use Rattle.words.proofs.Decoded.{decoded-all, decoded-length, decoded-inside}
use Rattle.records.specs.Walk.{record_in}
use Rattle.numbering.proofs.types.type_counted.Goals as goal

pub returns-then-is_counted : goal.returns-then-is_counted
returns-then-is_counted c =
    sym (ap (λ (t : Bool). t || not (any (λ (n : Bytes). among n (auto (record_in c.args.d.now))) (typed_names (value_from (drop c.args.value c.args.d.now))))) (sym c.is_counted.ensures ∙ c.if-is_counted.true))

pub copy_value-n-requires : goal.copy_value-n-requires
copy_value-n-requires c =
    subst (λ (x : Bytes). length (value_from x) ≤ length c.args.scratch.now) (sym (rest c.args.d.now c.args.value)) c.requires.value_in_bounds.1

pub slice_bounds-name_listed-end : goal.slice_bounds-name_listed-end
slice_bounds-name_listed-end c =
    decoded-inside (value_from (span c.args.value (length c.args.d.now) c.args.d.now)) c.args.scratch.now _ c.copy_value-n.result c.copy_value-n.ensures.0 c.copy_value-n.ensures.1 (subst (λ (x : Bytes). length (value_from x) ≤ length c.args.scratch.now) (sym (rest c.args.d.now c.args.value)) c.requires.value_in_bounds.1)

pub slice_bounds-name_listed-end-2 : goal.slice_bounds-name_listed-end-2
slice_bounds-name_listed-end-2 c =
    decoded-length (value_from (span c.args.value (length c.args.d.now) c.args.d.now)) c.args.scratch.now _ c.copy_value-n.result c.copy_value-n.ensures.0 c.copy_value-n.ensures.1

pub returns : goal.returns
returns c =
    let v = value_from (span c.args.value (length c.args.d.now) c.args.d.now) in
    let all = decoded-all v c.args.scratch.now _ c.copy_value-n.result c.copy_value-n.ensures.0 c.copy_value-n.ensures.1 ∙ ap value_from (rest c.args.d.now c.args.value) in
    ap not (c.name_listed.ensures ∙ ap (λ (x : Bytes). any (λ (n : Bytes). among n (auto (record_in c.args.d.now))) (typed_names x)) all)
    ∙ sym (ap (λ (t : Bool). t || not (any (λ (n : Bytes). among n (auto (record_in c.args.d.now))) (typed_names (value_from (drop c.args.value c.args.d.now))))) (sym c.is_counted.ensures ∙ c.if-is_counted.false))
