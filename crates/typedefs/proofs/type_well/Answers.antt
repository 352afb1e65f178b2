-- `typedefs::type_well` meets its contract.
use Prim.Native.Nat.{◌≤◌}
use native.Mathlib.Omega.{arith}
use mathlib.Core.Path.{sym, ap, ◌∙◌, subst}
use mathlib.Core.Bool.{Bool, ◌&&◌}
use borrow.Author.Tests.{not-true, not-false}
use lib.ListN.{length, drop}
use Rattle.format.specs.Bytes.{Bytes, all}
use Rattle.format.specs.Lines.{is_name}
use Rattle.format.specs.Rules.{typed_names}
use Rattle.values.specs.Value.{value_from}
use Rattle.lines.proofs.Cuts.{rest}
use Rattle.words.specs.Spans.{span}
use Rattle.words.proofs.Decoded.{decoded-all, decoded-length, decoded-inside}
use Rattle.typedefs.specs.Walks.{names_from}
use Rattle.typedefs.specs.Targets.{target_in, targets_in, leads}
use mathlib.Core.Bool.{not}
use Rattle.typedefs.proofs.type_well.Goals as goal

pub copy_value-n-requires : goal.copy_value-n-requires
copy_value-n-requires c =
    subst (λ (x : Bytes). length (value_from x) ≤ length c.args.scratch.now) (sym (rest c.args.d.now c.args.value)) c.requires.value_in_bounds.1

pub slice_bounds-names_well-end : goal.slice_bounds-names_well-end
slice_bounds-names_well-end c =
    decoded-inside (value_from (span c.args.value (length c.args.d.now) c.args.d.now)) c.args.scratch.now _ c.copy_value-n.result c.copy_value-n.ensures.0 c.copy_value-n.ensures.1 (subst (λ (x : Bytes). length (value_from x) ≤ length c.args.scratch.now) (sym (rest c.args.d.now c.args.value)) c.requires.value_in_bounds.1)

pub slice_bounds-names_well-end-2 : goal.slice_bounds-names_well-end-2
slice_bounds-names_well-end-2 c =
    decoded-length (value_from (span c.args.value (length c.args.d.now) c.args.d.now)) c.args.scratch.now _ c.copy_value-n.result c.copy_value-n.ensures.0 c.copy_value-n.ensures.1

pub returns-then-not-names_well : goal.returns-then-not-names_well
returns-then-not-names_well c =
    let d = c.args.d.now in
    let v = value_from (drop c.args.value d) in
    let a = decoded-all (value_from (span c.args.value (length d) d)) c.args.scratch.now _ c.copy_value-n.result c.copy_value-n.ensures.0 c.copy_value-n.ensures.1 ∙ ap value_from (rest d c.args.value) in
    let e = sym (ap (λ (u : Bytes). all is_name (typed_names u)) a) ∙ sym c.names_well.ensures ∙ not-true c.names_well.result (ap not c.if-not-names_well.true) in
    sym (ap (λ (b : Bool). b && leads (targets_in c.args.targets) (target_in (names_from d 0) v)) e)

pub read_typedef-t-requires : goal.read_typedef-t-requires
read_typedef-t-requires c =
    record { are_names = c.requires.are_names.0; value_in_bounds = (c.requires.value_in_bounds.0, omega (arith, c.copy_value-n.auto.out, c.requires.value_in_bounds.1)) }

pub target_ends-requires : goal.target_ends-requires
target_ends-requires c =
    c.requires.are_names.1

pub returns : goal.returns
returns c =
    let d = c.args.d.now in
    let v = value_from (drop c.args.value d) in
    let ts = targets_in c.args.targets in
    let a = decoded-all (value_from (span c.args.value (length d) d)) c.args.scratch.now _ c.copy_value-n.result c.copy_value-n.ensures.0 c.copy_value-n.ensures.1 ∙ ap value_from (rest d c.args.value) in
    let e = sym (ap (λ (u : Bytes). all is_name (typed_names u)) a) ∙ sym c.names_well.ensures ∙ not-false c.names_well.result (ap not c.if-not-names_well.false) in
    c.target_ends.ensures ∙ ap (leads ts) c.read_typedef-t.ensures.target_is ∙ sym (ap (λ (b : Bool). b && leads ts (target_in (names_from d 0) v)) e)
