-- `typedefs::types_well` meets its contract: the names are good and distinct, every chain ends, and then the `%type` fields are asked.
use Prim.Native.Nat.{ℕ}
use mathlib.Core.Path.{refl, sym, ap, ◌∙◌}
use mathlib.Core.Bool.{Bool, true, ◌&&◌}
use mathlib.Core.List.{List, map}
use borrow.Author.Tests.{not-true, not-false}
use Rattle.format.specs.Pieces.{read_of}
use Rattle.format.specs.Bytes.{text, all}
use Rattle.format.specs.Records.{fields_of}
use Rattle.format.specs.Rules.{distinct}
use Rattle.records.specs.Named.{values_from}
use Rattle.typedefs.specs.Walks.{names_from, fit_from}
use Rattle.typedefs.specs.Targets.{target_in, leads, well_by}
use Rattle.typedefs.specs.declared.Target.{Target}
use Rattle.typedefs.proofs.Defined.{defined-by}
use Rattle.typedefs.proofs.Deciding.{type-names, not-defined, well-types}
use mathlib.Core.Bool.{not}
use Rattle.typedefs.proofs.types_well.Goals as goal

pub names_good-requires : goal.names_good-requires
names_good-requires c =
    record { d_value = c.requires.d_value.0; text_value = c.requires.text_len_bound.1 }

pub shape_of-scratch-then-not-names_good : goal.shape_of-scratch-then-not-names_good
shape_of-scratch-then-not-names_good c =
    c.names_good.auto.scratch

pub returns-then-not-names_good : goal.returns-then-not-names_good
returns-then-not-names_good c =
    let d = c.args.d.now in
    let vs = values_from d (text "%typedef") 0 in
    let ns = names_from d 0 in
    let ts = map (target_in ns) vs in
    let ends = all (leads ts) ts in
    sym (not-defined (fields_of (read_of d)) (defined-by vs c.names_good.result (distinct ns) ends c.names_good.ensures refl refl ∙ ap (λ (t : Bool). (t && distinct ns) && ends) (not-true c.names_good.result (ap not c.if-not-names_good.true))))

pub read_names-names-requires : goal.read_names-names-requires
read_names-names-requires c =
    record { d_value = c.requires.d_value; text_len_bound = (c.requires.text_len_bound.0, type-names (names_from c.args.d.now 0) (sym c.names_good.ensures ∙ not-false c.names_good.result (ap not c.if-not-names_good.false))) }

pub names_apart-requires : goal.names_apart-requires
names_apart-requires c =
    record { are_names = c.read_names-names.ensures; text_value = ap (λ (m : ℕ). fit_from m c.args.d.now (text "%typedef") 0) c.names_good.auto.scratch ∙ c.requires.text_len_bound.1 }

pub shape_of-scratch-then-not-names_apart : goal.shape_of-scratch-then-not-names_apart
shape_of-scratch-then-not-names_apart c =
    c.names_apart.auto.scratch ∙ c.names_good.auto.scratch

pub returns-then-not-names_apart : goal.returns-then-not-names_apart
returns-then-not-names_apart c =
    let d = c.args.d.now in
    let vs = values_from d (text "%typedef") 0 in
    let ns = names_from d 0 in
    let ts = map (target_in ns) vs in
    let ends = all (leads ts) ts in
    sym (not-defined (fields_of (read_of d)) (defined-by vs c.names_good.result c.names_apart.result ends c.names_good.ensures c.names_apart.ensures refl
    ∙ ap (λ (t : Bool). (t && c.names_apart.result) && ends) (not-false c.names_good.result (ap not c.if-not-names_good.false)) ∙ ap (λ (t : Bool). (true && t) && ends) (not-true c.names_apart.result (ap not c.if-not-names_apart.true))))

pub read_typedefs-t-requires : goal.read_typedefs-t-requires
read_typedefs-t-requires c =
    record { are_names = c.read_names-names.ensures; text_value = ap (λ (m : ℕ). fit_from m c.args.d.now (text "%typedef") 0) (c.names_apart.auto.scratch ∙ c.names_good.auto.scratch) ∙ c.requires.text_len_bound.1 }

pub all_end-requires : goal.all_end-requires
all_end-requires c =
    c.read_typedefs-t.ensures.bounded

pub shape_of-scratch-then-not-all_end : goal.shape_of-scratch-then-not-all_end
shape_of-scratch-then-not-all_end c =
    c.read_typedefs-t.auto.scratch ∙ c.names_apart.auto.scratch ∙ c.names_good.auto.scratch

pub returns-then-not-all_end : goal.returns-then-not-all_end
returns-then-not-all_end c =
    let d = c.args.d.now in
    let vs = values_from d (text "%typedef") 0 in
    let e = ap (λ (xs : List Target). all (leads xs) xs) c.read_typedefs-t.ensures.targets-are in
    sym (not-defined (fields_of (read_of d)) (defined-by vs c.names_good.result c.names_apart.result c.all_end.result c.names_good.ensures c.names_apart.ensures (c.all_end.ensures ∙ e)
    ∙ ap (λ (t : Bool). (t && c.names_apart.result) && c.all_end.result) (not-false c.names_good.result (ap not c.if-not-names_good.false)) ∙ ap (λ (t : Bool). (true && t) && c.all_end.result) (not-false c.names_apart.result (ap not c.if-not-names_apart.false)) ∙ not-true c.all_end.result (ap not c.if-not-all_end.true)))

pub all_well-requires : goal.all_well-requires
all_well-requires c =
    record { d_value = (c.requires.d_value.0, c.read_names-names.ensures, c.read_typedefs-t.ensures.bounded); text_value = ap (λ (m : ℕ). fit_from m c.args.d.now (text "%type") 0) (c.read_typedefs-t.auto.scratch ∙ c.names_apart.auto.scratch ∙ c.names_good.auto.scratch) ∙ c.requires.text_value }

pub shape_of-scratch : goal.shape_of-scratch
shape_of-scratch c =
    c.all_well.auto.scratch ∙ c.read_typedefs-t.auto.scratch ∙ c.names_apart.auto.scratch ∙ c.names_good.auto.scratch

pub returns : goal.returns
returns c =
    let d = c.args.d.now in
    let vs = values_from d (text "%typedef") 0 in
    let ns = names_from d 0 in
    let e = ap (λ (xs : List Target). all (leads xs) xs) c.read_typedefs-t.ensures.targets-are in
    c.all_well.ensures ∙ ap (λ (xs : List Target). all (well_by ns xs) (values_from d (text "%type") 0)) c.read_typedefs-t.ensures.targets-are
    ∙ sym (well-types (fields_of (read_of d)) (defined-by vs c.names_good.result c.names_apart.result c.all_end.result c.names_good.ensures c.names_apart.ensures (c.all_end.ensures ∙ e)
    ∙ ap (λ (t : Bool). (t && c.names_apart.result) && c.all_end.result) (not-false c.names_good.result (ap not c.if-not-names_good.false)) ∙ ap (λ (t : Bool). (true && t) && c.all_end.result) (not-false c.names_apart.result (ap not c.if-not-names_apart.false)) ∙ not-false c.all_end.result (ap not c.if-not-all_end.false)))
